use Rattle.std.proofs.Common.{sym, drop, arith}
use lib.ListN.{length-drop}
use lib.Seq.{take_all}
use Rattle.tack_extension_two.proofs.ReadingTwo.{no-tacks, bad-length, no-flags, bad-flag, all-read, first-tack, second-tack}
use Rattle.tack_extension_two.proofs.reader.read.Goals as goal

pub returns-in_default : goal.returns-in_default
returns-in_default c = no-tacks c.args.s.now c.in_default.ensures

pub returns-then-not-tacks_length : goal.returns-then-not-tacks_length
returns-then-not-tacks_length c = bad-length _ _ _ c.in-Some.ensures (sym c.if-not-tacks_length.ensures)

pub returns-in_default-as_array : goal.returns-in_default-as_array
returns-in_default-as_array c =
    no-flags _ _ _ c.in-Some.ensures (sym c.if-not-tacks_length.ensures) c.in_default-as_array.ensures.cases

pub returns-then-not-flags_allowed : goal.returns-then-not-flags_allowed
returns-then-not-flags_allowed c =
    bad-flag _ _ _ c.in-Some.ensures (sym c.if-not-tacks_length.ensures) _ c.in-Some-as_array.ensures.cases (sym c.if-not-flags_allowed.ensures)

pub returns : goal.returns
returns c =
    let b = c.in-Some.tacks.now in
    let long = sym c.if-not-tacks_length.ensures in
    let first = first-tack c.first_chunk.result b long c.first_chunk.ensures.cases in
    let second = second-tack c.first_chunk-2.result b _ long (take_all _ (drop 166 b) (omega (arith, length-drop 166 b))) c.first_chunk-2.ensures.cases in
    rw (first, second)
    (all-read _ _ _ c.in-Some.ensures long _ c.in-Some-as_array.ensures.cases (sym c.if-not-flags_allowed.ensures))
