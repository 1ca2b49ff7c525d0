-- Host names, by document 01, 'Names and minutes'.
use Rattle.std.specs.Prelude.{ℕ, ◌-◌, ◌≡◌, Bool, true, cond, not, ◌&&◌, ◌||◌, List, [], ◌∷◌, ◌++◌, length, get_or, leb, eqb}
use Rattle.octets.specs.Octets.{all}

abbrev pub hyphen : ℕ
hyphen = 45

abbrev pub dot : ℕ
dot = 46

-- 'a-z, 0-9'
abbrev pub letter_or_digit : ℕ → Bool
letter_or_digit b = (leb 97 b && leb b 122) || (leb 48 b && leb b 57)

-- 'A label is 1 to 63 bytes of a-z, 0-9 and hyphen, no hyphen first or last.'
unfoldable pub is_label : List ℕ → Bool
is_label l =
    (leb 1 (length l) && leb (length l) 63)
    && (all (λ b. letter_or_digit b || eqb b hyphen) l
    && (not (eqb (get_or l 0 0) hyphen) && not (eqb (get_or l (length l - 1) 0) hyphen)))

-- 'A name is a label, or a label, a dot and a name'
pub data Name : List ℕ → Type 0 where
  label : {l : List ℕ} → is_label l ≡ true → Name l
  dotted : (l : List ℕ) {n : List ℕ} → is_label l ≡ true → Name n → Name (l ++ (dot ∷ n))

-- the same as a test: what stands between the dots is labels
abbrev pub to_first : ℕ → List (List ℕ) → List (List ℕ)
to_first b [] = (b ∷ []) ∷ []
to_first b (l ∷ ls) = (b ∷ l) ∷ ls

unfoldable pub between_dots : List ℕ → List (List ℕ)
between_dots [] = [] ∷ []
between_dots (b ∷ s) = cond (eqb b dot) ([] ∷ between_dots s) (to_first b (between_dots s))

-- '1 to 253 bytes in all': no label is empty, so a name has a byte
unfoldable pub well_formed : List ℕ → Bool
well_formed s = leb (length s) 253 && all is_label (between_dots s)
