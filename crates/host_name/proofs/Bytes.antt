-- Which bytes stand in labels and in names.
use mathlib.Core.Path.{◌≡◌, refl}
use mathlib.Core.Bool.{true, false, and-false, or-true, or-false, false≢true, true≢false}
use mathlib.Core.List.{List, [], ◌∷◌}
use Prim.Native.Nat.{ℕ}
use lib.Dec.{eqb}
use borrow.Author.Tests.{ne_eqb}
use Rattle.octets.specs.Octets.{all}
use Rattle.octets.proofs.Tests.{by_test, is_false, and_left, and_right, and_both}
use Rattle.host_name.specs.Name.{dot, is_label, between_dots}
use Rattle.host_name.specs.Scan.{label_byte, name_byte, to_dot}
use Rattle.host_name.proofs.Dots.{behind, parts}

pub no-dot : (b : ℕ) → label_byte b ≡ true → eqb b dot ≡ false
no-dot b h = ne_eqb b dot (λ e. false≢true (rw e at h))

pub is_label-bytes : (l : List ℕ) → is_label l ≡ true → all label_byte l ≡ true
unfolding is_label
is_label-bytes l h = by_test (all label_byte l) (λ e. e) (λ e. absurd (false≢true (simp (e, and-false) at h)))

-- among bytes of a name, those before a dot are bytes of a label
pub to_dot-bytes : (s : List ℕ) → all name_byte s ≡ true → all label_byte (to_dot s) ≡ true
unfolding to_dot
to_dot-bytes [] h = refl
to_dot-bytes (b ∷ s) h =
    by_test (eqb b dot)
    (λ e. simp e)
    (λ e. let k : label_byte b ≡ true = simp (e, or-false) at (and_left (name_byte b) (all name_byte s) h) in
    rw e (and_both (label_byte b) (all label_byte (to_dot s)) k (to_dot-bytes s (and_right (name_byte b) (all name_byte s) h))))

-- where labels stand between the dots, all are bytes of a name
parts-bytes : (s : List ℕ) → all label_byte (to_dot s) ≡ true → all is_label (behind s) ≡ true → all name_byte s ≡ true
unfolding to_dot behind
parts-bytes [] h k = refl
parts-bytes (b ∷ s) h k =
    by_test (eqb b dot)
    (λ e. let l : all is_label (to_dot s ∷ behind s) ≡ true = rw (e, parts s) at k in
    and_both (name_byte b) (all name_byte s) (simp (e, or-true))
    (parts-bytes s (is_label-bytes (to_dot s) (and_left (is_label (to_dot s)) _ l)) (and_right (is_label (to_dot s)) _ l)))
    (λ e. let l : all label_byte (b ∷ to_dot s) ≡ true = rw e at h in
    and_both (name_byte b) (all name_byte s) (simp (and_left (label_byte b) _ l))
    (parts-bytes s (and_right (label_byte b) _ l) (rw e at k)))

pub bytes-refused : (s : List ℕ) → all name_byte s ≡ false → all is_label (between_dots s) ≡ false
bytes-refused s h =
    is_false (all is_label (between_dots s))
    (λ e. let l : all is_label (to_dot s ∷ behind s) ≡ true = rw (parts s) at e in
    let k : all name_byte s ≡ true = parts-bytes s (is_label-bytes (to_dot s) (and_left (is_label (to_dot s)) _ l)) (and_right (is_label (to_dot s)) _ l) in
    true≢false (rw k at h))
