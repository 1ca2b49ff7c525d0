-- The bytes of a name, those before its first dot, and a name at the end of an array.
-- Only functions below the open ones cite it: a reader of the open contract can skip it.
use Rattle.std.specs.Prelude.{◌≡◌, ℕ, ◌≤◌, Bool, true, cond, ◌||◌, List, [], ◌∷◌, eqb, length, drop}
use Rattle.octets.specs.Octets.{all}
use Rattle.host_name.specs.Name.{hyphen, dot, letter_or_digit}

abbrev pub label_byte : ℕ → Bool
label_byte b = letter_or_digit b || eqb b hyphen

abbrev pub name_byte : ℕ → Bool
name_byte b = label_byte b || eqb b dot

-- the bytes before the first dot, or all
unfoldable pub to_dot : List ℕ → List ℕ
to_dot [] = []
to_dot (b ∷ s) = cond (eqb b dot) [] (b ∷ to_dot s)

-- from `at` to the end of an array of 256 bytes only bytes of a name stand
pub record Rest (s : List ℕ) (at : ℕ) : Type 0 where
  pub full : length s ≡ 256
  pub within : at ≤ 256
  pub only : all name_byte (drop at s) ≡ true
