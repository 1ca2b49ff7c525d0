-- Names without capitals: folding leaves them as they are, and a well-formed name is one.
use mathlib.Core.Path.{◌≡◌, refl, ap, ap₂}
use mathlib.Core.Bool.{Bool, true, false, cond, not, and-false, false≢true}
use mathlib.Core.List.{List, [], ◌∷◌}
use Prim.Native.Nat.{ℕ, ◌+◌, ◌≤◌}
use native.Mathlib.Omega.{arith}
use lib.Dec.{leb}
use lib.ListN.{length}
use borrow.Author.Tests.{leb-true, lt-leb, not-true}
use Rattle.octets.specs.Octets.{all}
use Rattle.octets.proofs.Tests.{by_test, is_false, and_left, and_right, and_both}
use Rattle.host_name.specs.Name.{is_label, between_dots, well_formed}
use Rattle.host_name.specs.Scan.{name_byte}
use Rattle.host_name.specs.Folding.{is_capital, is_small, folded_name}
use Rattle.host_name.proofs.Bytes.{bytes-refused}
use Rattle.host_name.proofs.Refused.{upper-byte}

-- the small letter of a capital is no capital, and a capital is no byte of a name
module _ (b : ℕ) (h : is_capital b ≡ true) where
  low : 65 ≤ b
  low = leb-true 65 b (and_left (leb 65 b) (leb b 90) h)

  pub its-letter : is_capital (b + 32) ≡ false
  its-letter = simp (lt-leb (b + 32) 90 (omega (arith, low)), and-false)

  outside : name_byte b ≡ true → ⊥
  outside e = false≢true (rw (upper-byte b low (leb-true b 90 (and_right (leb 65 b) (leb b 90) h))) at e)

pub small-kept : (s : List ℕ) → is_small s ≡ true → folded_name s ≡ s
unfolding folded_name
small-kept [] h = refl
small-kept (b ∷ s) h =
    ap₂ ◌∷◌ (ap (λ (t : Bool). cond t (b + 32) b) (not-true (is_capital b) (and_left (not (is_capital b)) (is_small s) h)))
    (small-kept s (and_right (not (is_capital b)) (is_small s) h))

name-bytes-small : (s : List ℕ) → all name_byte s ≡ true → is_small s ≡ true
name-bytes-small [] h = refl
name-bytes-small (b ∷ s) h =
    and_both (not (is_capital b)) (is_small s)
    (ap not (is_false (is_capital b) (λ e. outside b e (and_left (name_byte b) (all name_byte s) h))))
    (name-bytes-small s (and_right (name_byte b) (all name_byte s) h))

pub well-formed-is-small : (s : List ℕ) → well_formed s ≡ true → is_small s ≡ true
unfolding well_formed
well-formed-is-small s h =
    by_test (all name_byte s)
    (name-bytes-small s)
    (λ e. absurd (false≢true (rw (bytes-refused s e) at (and_right (leb (length s) 253) (all is_label (between_dots s)) h))))

-- 'Refusal 12 narrows' (document 02, Q-2): what is well-formed as it stands folds to itself
pub well-formed-small : (s : List ℕ) → well_formed s ≡ true → folded_name s ≡ s
well-formed-small s h = small-kept s (well-formed-is-small s h)
