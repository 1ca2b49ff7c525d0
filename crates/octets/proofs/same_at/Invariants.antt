-- The loop's invariant: the bytes of the first i words agree.
use Rattle.std.proofs.Common.{◌≡◌, ◌+◌, ◌<◌, ℕ, ◌*◌, get_or}
use Rattle.octets.proofs.same_at.Given as goal

abbrev pub invariant-loop-i : goal.invariant-loop-i
invariant-loop-i l = (j : ℕ) → j < 8 * l.i → get_or l.s (l.at + j) 0 ≡ get_or l.p j 0
