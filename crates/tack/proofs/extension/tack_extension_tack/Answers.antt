-- The span is the tack's, and cuts it out.
use Rattle.tack.proofs.Spans.{tack-span}
use Rattle.tack.proofs.extension.tack_extension_tack.Goals as goal

pub returns : goal.returns
returns c =
    let w = tack-span c.args.bytes.now c.tack_part-tack.result.now c.span_at.result c.tack_part-tack.ensures c.span_at.ensures in
    record { where_it_is = w.0; what_it_holds = w.1 }
