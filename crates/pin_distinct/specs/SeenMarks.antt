-- The marks that were seen, a bit for each.
-- Only functions below the open ones cite it: a reader of the open contracts can skip it.
use Rattle.std.specs.Prelude.{ℕ, ◌/◌, ◌%◌, ◌^◌, Bool, List, ltb, get_or, set}
use Rattle.std.specs.Int.Bits.{bit_and, bit_or}

-- a mark's bit in its word of 64
unfoldable pub bit_of : ℕ → ℕ
bit_of m = 2 ^ (m % 64)

-- whether a mark is among those seen
unfoldable pub is_seen : List ℕ → ℕ → Bool
is_seen seen m = ltb 0 (bit_and (get_or seen (m / 64) 0) (bit_of m))

-- those seen, with one mark more
unfoldable pub with_seen : List ℕ → ℕ → List ℕ
with_seen seen m = set seen (m / 64) (bit_or (get_or seen (m / 64) 0) (bit_of m))
