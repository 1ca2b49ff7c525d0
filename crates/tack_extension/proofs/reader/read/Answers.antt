use Rattle.std.proofs.Common.{sym}
use borrow.Author.Tests.{lt-leb, le-leb}
use Rattle.tack_extension.proofs.Reading.{no-tack, no-breaks, bad-breaks, no-activation, bad-activation, all-read}
use Rattle.tack_extension.proofs.reader.read.Goals as goal

pub returns-in_default : goal.returns-in_default
returns-in_default c = no-tack c.args.s.now c.in_default.ensures

pub returns-in_default-read_part : goal.returns-in_default-read_part
returns-in_default-read_part c = no-breaks _ _ _ c.in-Some.ensures c.in_default-read_part.ensures

pub returns-then-not-breaks_length : goal.returns-then-not-breaks_length
returns-then-not-breaks_length c = bad-breaks _ _ _ c.in-Some.ensures _ _ c.in-Some-read_part.ensures (sym c.if-not-breaks_length.ensures)

pub returns-in_default-as_array : goal.returns-in_default-as_array
returns-in_default-as_array c =
    no-activation _ _ _ c.in-Some.ensures _ _ c.in-Some-read_part.ensures (sym c.if-not-breaks_length.ensures) c.in_default-as_array.ensures.cases

pub returns-then-activation-gt1 : goal.returns-then-activation-gt1
returns-then-activation-gt1 c =
    bad-activation _ _ _ c.in-Some.ensures _ _ c.in-Some-read_part.ensures (sym c.if-not-breaks_length.ensures) _ c.in-Some-as_array.ensures.cases (lt-leb _ _ c.if-activation-gt1.true)

pub returns : goal.returns
returns c =
    all-read _ _ _ c.in-Some.ensures _ _ c.in-Some-read_part.ensures (sym c.if-not-breaks_length.ensures) _ c.in-Some-as_array.ensures.cases (le-leb _ _ c.if-activation-gt1.false)
