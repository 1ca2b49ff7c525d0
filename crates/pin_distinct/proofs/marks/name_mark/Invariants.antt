-- The loop's invariant: the first i words are in the hash.
use Rattle.std.proofs.Common.{◌≡◌}
use Rattle.pin_distinct.specs.Hashes.{words_hash}
use Rattle.pin_distinct.proofs.marks.name_mark.Given as goal

abbrev pub invariant-loop-i : goal.invariant-loop-i
invariant-loop-i l = l.h ≡ words_hash l.padded l.i
