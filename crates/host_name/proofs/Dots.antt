-- The part before the first dot and the parts behind it are the parts between dots.
use mathlib.Core.Path.{◌≡◌, refl}
use mathlib.Core.Bool.{cond}
use mathlib.Core.List.{List, [], ◌∷◌}
use Prim.Native.Nat.{ℕ, suc, ◌≤◌, ◌<◌}
use native.Mathlib.Omega.{arith}
use lib.Dec.{eqb, ltb}
use borrow.Author.Tests.{ltb-false}
use Rattle.std.specs.Prelude.{Option, Some, None, unwrap_or}
use Rattle.std.specs.List.{position_or_len}
use lib.ListN.{length, get_or, drop}
use Rattle.octets.proofs.Tests.{by_test}
use Rattle.host_name.specs.Name.{dot, between_dots}
use Rattle.host_name.specs.Scan.{to_dot}

unfoldable pub behind : List ℕ → List (List ℕ)
behind [] = []
behind (b ∷ s) = cond (eqb b dot) (between_dots s) (behind s)

pub parts : (s : List ℕ) → between_dots s ≡ to_dot s ∷ behind s
unfolding between_dots to_dot behind
parts [] = refl
parts (b ∷ s) = by_test (eqb b dot) (λ e. simp e) (λ e. simp (e, parts s))

-- the first dot as `position` finds it
pub to_dot-position : (s : List ℕ) → length (to_dot s) ≡ position_or_len (λ b. eqb b 46) s
unfolding to_dot
to_dot-position [] = refl
to_dot-position (b ∷ s) = by_test (eqb b dot) (λ e. rw e refl) (λ e. rw e (omega (arith, to_dot-position s)))

pub to_dot-short : (s : List ℕ) → length (to_dot s) ≤ length s
unfolding to_dot
to_dot-short [] = omega arith
to_dot-short (b ∷ s) = by_test (eqb b dot) (λ e. rw e (omega arith)) (λ e. rw e (omega (arith, to_dot-short s)))

pub first-dot : (s : List ℕ) (x : Option ℕ)
    → x ≡ cond (ltb (position_or_len (λ b. eqb b 46) s) (length s)) (Some (position_or_len (λ b. eqb b 46) s)) None
    → unwrap_or x (length s) ≡ length (to_dot s)
first-dot s x e =
    let n : ℕ = length (to_dot s) in
    let f : x ≡ cond (ltb n (length s)) (Some n) None = rw (to_dot-position s) e in
    by_test (ltb n (length s))
    (λ g. let h : x ≡ Some n = rw g at f in rw h refl)
    (λ g. let h : x ≡ None = rw g at f in rw h (omega (arith, to_dot-short s, ltb-false n (length s) g)))

-- without a dot nothing stands behind
pub behind-none : (s : List ℕ) → length (to_dot s) ≡ length s → behind s ≡ []
unfolding to_dot behind
behind-none [] h = refl
behind-none (b ∷ s) h =
    by_test (eqb b dot)
    (λ e. let k : 0 ≡ suc (length s) = rw e at h in absurd (omega arith))
    (λ e. let k : suc (length (to_dot s)) ≡ suc (length s) = rw e at h in rw e (behind-none s (omega arith)))

pub behind-dot : (s : List ℕ) → length (to_dot s) < length s → behind s ≡ between_dots (drop (suc (length (to_dot s))) s)
unfolding to_dot behind
behind-dot [] h = absurd (omega arith)
behind-dot (b ∷ s) h =
    by_test (eqb b dot)
    (λ e. simp e)
    (λ e. let k : suc (length (to_dot s)) < suc (length s) = rw e at h in rw e (behind-dot s (omega arith)))

-- the last byte before the dot; b stands in front
pub to_dot-last : (b : ℕ) (s : List ℕ) → get_or (b ∷ to_dot s) (length (to_dot s)) 0 ≡ get_or (b ∷ s) (length (to_dot s)) 0
unfolding to_dot
to_dot-last b [] = refl
to_dot-last b (a ∷ s) = by_test (eqb a dot) (λ e. simp e) (λ e. rw e (to_dot-last a s))
