-- 'Upper case and a final dot are refused', of a name as it stands: a call's name is folded before.
use mathlib.Core.Path.{◌≡◌}
use mathlib.Core.Bool.{Bool, false, and-false}
use mathlib.Core.List.{List, [], ◌∷◌, ◌++◌}
use Prim.Native.Nat.{ℕ, ◌≤◌}
use native.Mathlib.Omega.{arith}
use lib.Dec.{eqb}
use lib.Seq.{append_snoc}
use borrow.Author.Tests.{lt-leb, ne_eqb}
use Rattle.octets.specs.Octets.{all}
use Rattle.octets.proofs.Tests.{by_test}
use Rattle.host_name.specs.Name.{hyphen, dot, letter_or_digit, is_label, between_dots, well_formed}
use Rattle.host_name.specs.Scan.{name_byte, to_dot}
use Rattle.host_name.proofs.Dots.{behind, parts}
use Rattle.host_name.proofs.Bytes.{bytes-refused}

-- the label behind the final dot is empty; p is read of a label, and s remains before that dot
dot-behind : (p s : List ℕ) → all is_label ((p ++ to_dot (s ++ (dot ∷ []))) ∷ behind (s ++ (dot ∷ []))) ≡ false
unfolding to_dot behind between_dots is_label
dot-behind p [] = and-false (is_label (p ++ []))
dot-behind p (b ∷ s) =
    by_test (eqb b dot)
    (λ e. rw e (rw (parts (s ++ (dot ∷ [])), dot-behind [] s) (and-false (is_label (p ++ [])))))
    (λ e. rw e (rw append_snoc at (dot-behind (p ++ (b ∷ [])) s)))

pub final-dot : (s : List ℕ) → well_formed (s ++ (dot ∷ [])) ≡ false
unfolding well_formed
final-dot s = simp (parts (s ++ (dot ∷ [])), dot-behind [] s, and-false)

not-all : (p : ℕ → Bool) (s t : List ℕ) (b : ℕ) → p b ≡ false → all p (s ++ (b ∷ t)) ≡ false
not-all p [] t b e = simp e
not-all p (a ∷ s) t b e = simp (not-all p s t b e, and-false)

-- no capital is a byte of a name
pub upper-byte : (b : ℕ) → 65 ≤ b → b ≤ 90 → name_byte b ≡ false
upper-byte b low high =
    let l : letter_or_digit b ≡ false = simp (lt-leb 97 b (omega arith), lt-leb b 57 (omega arith), and-false) in
    let d : eqb b dot ≡ false = ne_eqb b dot (λ e. omega arith) in
    let y : eqb b hyphen ≡ false = ne_eqb b hyphen (λ e. omega arith) in
    simp (l, y, d)

pub upper-case : (s t : List ℕ) (b : ℕ) → 65 ≤ b → b ≤ 90 → well_formed (s ++ (b ∷ t)) ≡ false
unfolding well_formed
upper-case s t b low high = simp (bytes-refused (s ++ (b ∷ t)) (not-all name_byte s t b (upper-byte b low high)), and-false)
