-- The span is the asked tack's, and cuts it out.
use mathlib.Core.Bool.{true, false}
use Rattle.tack.proofs.SpansTwo.{span-two}
use Rattle.tack.proofs.edition_two.tack2_extension_tack.Goals as goal

pub returns-then-second : goal.returns-then-second
returns-then-second c =
    let w = span-two true c.args.second c.if-second.true c.args.bytes.now c.span_at.result c.second_tack-tack.ensures c.span_at.ensures in
    record { where_it_is = w.0; what_it_holds = w.1 }

pub returns : goal.returns
returns c =
    let w = span-two false c.args.second c.if-second.false c.args.bytes.now c.span_at-2.result c.first_tack-tack.ensures c.span_at-2.ensures in
    record { where_it_is = w.0; what_it_holds = w.1 }
