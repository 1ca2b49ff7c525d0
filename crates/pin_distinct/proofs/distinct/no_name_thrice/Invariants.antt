-- The loop's invariant: none of the first i slots is a third one of its name; their marks are seen, and those of second ones again.
use Rattle.pin_distinct.proofs.Doubles.{FewSeen}
use Rattle.pin_distinct.proofs.distinct.no_name_thrice.Given as goal

abbrev pub invariant-loop-i : goal.invariant-loop-i
invariant-loop-i l = FewSeen l.area l.seen.words l.again.words l.i
