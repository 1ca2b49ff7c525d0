-- The test is the paper's sentence: it takes exactly the names of at most 253 bytes.
use mathlib.Core.Path.{◌≡◌, refl}
use mathlib.Core.Bool.{true, false≢true}
use mathlib.Core.List.{List, [], ◌∷◌, ◌++◌, append-nil}
use mathlib.Core.Logic.{◌↔◌}
use Prim.Native.Nat.{ℕ, ◌≤◌}
use native.Mathlib.Omega.{arith}
use lib.Dec.{eqb, leb}
use lib.ListN.{length}
use lib.Seq.{append_snoc}
use borrow.Author.Tests.{le-leb, leb-true, eqb-true}
use Rattle.octets.specs.Octets.{all}
use Rattle.octets.proofs.Tests.{by_test, and_left, and_right, and_both}
use Rattle.host_name.specs.Name.{dot, is_label, Name, label, dotted, between_dots, well_formed}
use Rattle.host_name.specs.Scan.{label_byte, to_dot}
use Rattle.host_name.proofs.Dots.{behind, parts}
use Rattle.host_name.proofs.Bytes.{no-dot, is_label-bytes}

-- p is read of a label, and s remains
labels-name : (p s : List ℕ) → all is_label ((p ++ to_dot s) ∷ behind s) ≡ true → Name (p ++ s)
unfolding to_dot behind
labels-name p [] h = label (and_left (is_label (p ++ [])) true h)
labels-name p (b ∷ s) h =
    by_test (eqb b dot)
    (λ e. let k : all is_label ((p ++ []) ∷ between_dots s) ≡ true = rw e at h in
    rw (eqb-true b dot e)
    (dotted p
    (rw append-nil at (and_left (is_label (p ++ [])) (all is_label (between_dots s)) k))
    (labels-name [] s (rw (parts s) at (and_right (is_label (p ++ [])) (all is_label (between_dots s)) k)))))
    (λ e. let k : all is_label ((p ++ (b ∷ to_dot s)) ∷ behind s) ≡ true = rw e at h in
    rw append_snoc at (labels-name (p ++ (b ∷ [])) s (rw append_snoc k)))

-- the bytes of a label stand together, before a dot or the end
between-label : (l t : List ℕ) (ls : List (List ℕ)) → all label_byte l ≡ true → between_dots t ≡ [] ∷ ls → between_dots (l ++ t) ≡ l ∷ ls
unfolding between_dots
between-label [] t ls h e = e
between-label (b ∷ l) t ls h e =
    simp (
      no-dot b (and_left (label_byte b) (all label_byte l) h),
      between-label l t ls (and_right (label_byte b) (all label_byte l) h) e,
    )

name-labels : {s : List ℕ} → Name s → all is_label (between_dots s) ≡ true
unfolding between_dots
name-labels (label {l} h) =
    let e : between_dots l ≡ l ∷ [] = rw append-nil at (between-label l [] [] (is_label-bytes l h) refl) in
    simp (e, h)
name-labels (dotted l {n} h k) =
    simp (between-label l (dot ∷ n) (between_dots n) (is_label-bytes l h) refl, h, name-labels k)

-- 'A name is a label, or a label, a dot and a name; 1 to 253 bytes in all.'
pub exactly-names : (s : List ℕ) → (well_formed s ≡ true) ↔ (Name s × (length s ≤ 253))
unfolding well_formed
exactly-names s = (
  (λ h.
      let k : all is_label (between_dots s) ≡ true = and_right (leb (length s) 253) _ h in
      (labels-name [] s (rw (parts s) at k), leb-true _ _ (and_left (leb (length s) 253) _ h))),
  (λ n. and_both _ _ (le-leb _ _ n.1) (name-labels n.0)),
)

pub name-length : (s : List ℕ) → well_formed s ≡ true → (1 ≤ length s) × (length s ≤ 253)
unfolding well_formed is_label between_dots
name-length [] h = absurd (false≢true h)
name-length (b ∷ s) h = (omega arith, ((exactly-names (b ∷ s)).0 h).1)
