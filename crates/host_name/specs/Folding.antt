-- Names in capitals, by document 02, Q-2: 'Accept A-Z and treat it as a-z everywhere'.
use Rattle.std.specs.Prelude.{ℕ, ◌+◌, ◌≡◌, Bool, true, cond, not, ◌&&◌, List, [], ◌∷◌, map, leb}
use Rattle.octets.specs.Octets.{all}

-- 'A-Z'
abbrev pub is_capital : ℕ → Bool
is_capital b = leb 65 b && leb b 90

-- its small letter stands 32 places on; every other byte is as it was
abbrev pub folded_byte : ℕ → ℕ
folded_byte b = cond (is_capital b) (b + 32) b

-- 'the folded name', byte by byte
unfoldable pub folded_name : List ℕ → List ℕ
folded_name name = map folded_byte name

-- 'small letters only': no byte is a capital
abbrev pub is_small : List ℕ → Bool
is_small name = all (λ b. not (is_capital b)) name

-- two spellings of one name: byte by byte the same, or a capital in one where the other has its small letter
pub data Spellings : List ℕ → List ℕ → Type 0 where
  ended : Spellings [] []
  alike : (b : ℕ) {m n : List ℕ} → Spellings m n → Spellings (b ∷ m) (b ∷ n)
  capital : (b : ℕ) {m n : List ℕ} → is_capital b ≡ true → Spellings m n → Spellings (b ∷ m) ((b + 32) ∷ n)
  small : (b : ℕ) {m n : List ℕ} → is_capital b ≡ true → Spellings m n → Spellings ((b + 32) ∷ m) (b ∷ n)
