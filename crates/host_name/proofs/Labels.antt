-- A name from the first byte of a label on.
use mathlib.Core.Path.{◌≡◌, refl}
use mathlib.Core.Bool.{true, false, not, ◌&&◌, and-false, false≢true}
use mathlib.Core.List.{List, [], ◌∷◌}
use Prim.Native.Nat.{ℕ, suc, ◌-◌}
use native.Mathlib.Omega.{arith}
use lib.Dec.{eqb, leb}
use lib.ListN.{length, get_or}
use borrow.Author.Tests.{le-leb, ne_eqb}
use Rattle.octets.specs.Octets.{all}
use Rattle.octets.proofs.Tests.{by_test}
use Rattle.host_name.specs.Name.{hyphen, dot, letter_or_digit, is_label, between_dots}
use Rattle.host_name.specs.Scan.{label_byte, name_byte, to_dot}
use Rattle.host_name.proofs.Dots.{behind, parts, to_dot-last}
use Rattle.host_name.proofs.Bytes.{no-dot, to_dot-bytes}

no-hyphen : (b : ℕ) → letter_or_digit b ≡ true → eqb b hyphen ≡ false
no-hyphen b h = ne_eqb b hyphen (λ e. false≢true (rw e at h))

is_label-first : (b : ℕ) (l : List ℕ) → letter_or_digit b ≡ true → all label_byte l ≡ true
    → is_label (b ∷ l) ≡ (leb (suc (length l)) 63 && not (eqb (get_or (b ∷ l) (length l) 0) hyphen))
unfolding is_label
is_label-first b l h k =
    let m : suc (length l) - 1 ≡ length l = omega arith in
    simp (h, k, m, no-hyphen b h, le-leb 1 (suc (length l)) (omega arith))

-- among bytes of a name a label starts with a letter or a digit, is short enough, and has no hyphen last
pub first_taken : (b : ℕ) (s : List ℕ) → letter_or_digit b ≡ true → all name_byte s ≡ true
    → all is_label (between_dots (b ∷ s))
    ≡ ((leb (suc (length (to_dot s))) 63 && not (eqb (get_or (b ∷ s) (length (to_dot s)) 0) hyphen)) && all is_label (behind s))
unfolding to_dot behind
first_taken b s h k =
    rw (parts (b ∷ s)) (rw (no-dot b (simp h)) (rw (is_label-first b (to_dot s) h (to_dot-bytes s k), to_dot-last b s)))

pub none-refused : all is_label (between_dots []) ≡ false
unfolding between_dots is_label
none-refused = refl

pub first-refused : (b : ℕ) (s : List ℕ) → letter_or_digit b ≡ false → all is_label (between_dots (b ∷ s)) ≡ false
unfolding to_dot behind is_label
first-refused b s h =
    rw (parts (b ∷ s))
    (by_test (eqb b dot)
    (λ e. simp e)
    (λ e. by_test (eqb b hyphen) (λ y. simp (e, h, y, and-false)) (λ y. simp (e, h, y, and-false))))
