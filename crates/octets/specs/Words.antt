-- Words: bytes as one number, the lowest byte first.
-- Only functions between the open ones and the bytes cite it: a reader of the open contracts can skip it.
use Rattle.std.specs.Prelude.{ℕ, ◌+◌, ◌*◌, List, [], ◌∷◌}

unfoldable pub word : List ℕ → ℕ
word [] = 0
word (b ∷ bs) = b + 256 * word bs
