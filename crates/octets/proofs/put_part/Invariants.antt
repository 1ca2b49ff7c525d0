-- The loop's invariant: the first i bytes of p are put in, and the length is as it was.
use Rattle.std.proofs.Common.{◌≡◌, length, take}
use Rattle.octets.specs.Octets.{put}
use Rattle.octets.proofs.put_part.Given as goal

abbrev pub invariant-loop-i : goal.invariant-loop-i
invariant-loop-i l = (length l.s ≡ length l.initial.s) × (l.s ≡ put l.initial.s l.at (take l.i l.p))
