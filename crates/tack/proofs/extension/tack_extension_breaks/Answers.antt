-- The span is the break signatures', and cuts them out.
use Rattle.tack.proofs.Spans.{breaks-span}
use Rattle.tack.proofs.extension.tack_extension_breaks.Goals as goal

pub returns : goal.returns
returns c =
    let w = breaks-span c.args.bytes.now c.tack_part-tack.result.now c.breaks_part-breaks.result.now c.span_at.result c.tack_part-tack.ensures c.breaks_part-breaks.ensures c.span_at.ensures in
    record { where_it_is = w.0; what_it_holds = w.1 }
