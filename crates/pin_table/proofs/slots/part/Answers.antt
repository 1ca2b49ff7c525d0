-- The first chunk of the part, which is all of it.
use Rattle.std.proofs.Common.{◌≡◌, ◌+◌, ◌-◌, ◌≤◌, ℕ, List, length, take, drop, ap, refl, ◌∙◌, arith}
use Rattle.std.specs.Array.{IsFirstChunk}
use Rattle.std.proofs.lemmas.List.{take_all}
use Rattle.octets.specs.Octets.{part}
use Rattle.octets.proofs.Parts.{part-lent, part_length}
use Rattle.pin_table.proofs.slots.part.Goals as goal

chunk : (s : List ℕ) (at n : ℕ) {r : List ℕ} → at + n ≤ length s → IsFirstChunk (take (at + n - at) (drop at s)) r n → r ≡ part s at n
chunk s at n fits h = h.same ∙ ap (take n) (part-lent s at n (at + n) refl fits).0 ∙ take_all n _ (omega (arith, part_length s at n fits))

pub returns : goal.returns
returns g c = chunk c.args.s.now c.args.at g.row.L c.requires (rw c.unwrap.ensures at c.first_chunk.ensures.cases)
