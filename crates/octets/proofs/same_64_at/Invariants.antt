-- The loop's invariant: the words from i on agree.
use Rattle.std.proofs.Common.{◌≡◌, ◌+◌, ◌≤◌, ◌<◌, ℕ, ◌*◌, get_or}
use Rattle.octets.proofs.same_64_at.Given as goal

abbrev pub invariant-loop-i : goal.invariant-loop-i
invariant-loop-i l = (j : ℕ) → 8 * l.i ≤ j → j < 64 → get_or l.s (l.at + j) 0 ≡ get_or l.p j 0
