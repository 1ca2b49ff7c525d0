-- The loop's invariant: the first i bytes are folded.
use Rattle.std.proofs.Common.{◌≡◌, ℕ, ◌<◌, length, get_or}
use Rattle.host_name.specs.Folding.{folded_byte}
use Rattle.host_name.proofs.folding.Folded.of.Given as goal

abbrev pub invariant-loop-i : goal.invariant-loop-i
invariant-loop-i l = (length l.folded-inside.bytes ≡ 254) × ((k : ℕ) → k < l.i → get_or l.folded-inside.bytes k 0 ≡ folded_byte (get_or l.name k 0)) × (l.folded-inside.length ≡ l.length)
