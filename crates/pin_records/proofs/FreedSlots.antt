-- A loop over slots that frees those that pass a test: what is done after k of them.
use mathlib.Core.Path.{◌≡◌, refl, sym, ◌∙◌, ap, ap₂}
use mathlib.Core.Bool.{Bool, true, false, cond}
use mathlib.Core.List.{List, [], ◌∷◌}
use mathlib.Core.Option.{Option, none, some}
use Prim.Native.Nat.{ℕ, zero, suc, ◌+◌, ◌≤◌, ◌<◌, zero-le, suc-le-suc}
use native.Mathlib.Nat.{le_of_suc-le-suc, not-suc-le-zero}
use native.Mathlib.Numerals.{add-one}
use lib.ListN.{length, get_or, set}
use lib.Seq.{set-get_or}
use Rattle.pin_model.specs.Slots.{freed}
use Rattle.pin_model.specs.Fits.{holds}

module _ {A : Type 0} (q : A → Bool) where
  -- a slot that passes becomes free
  abbrev pub freed_one : Option A → Option A
  freed_one none = none
  freed_one (some a) = cond (q a) none (some a)

  one-goes : (x : Option A) → holds q x ≡ true → freed_one x ≡ none
  one-goes none e = refl
  one-goes (some a) e = ap (λ (b : Bool). cond b none (some a)) e

  one-stays : (x : Option A) → holds q x ≡ false → freed_one x ≡ x
  one-stays none e = refl
  one-stays (some a) e = ap (λ (b : Bool). cond b none (some a)) e

  -- the first k slots are done
  abbrev pub freed_to : ℕ → List (Option A) → List (Option A)
  freed_to zero l = l
  freed_to (suc k) [] = []
  freed_to (suc k) (x ∷ xs) = freed_one x ∷ freed_to k xs

  pub freed-to-at : (k : ℕ) (l : List (Option A)) → get_or (freed_to k l) k none ≡ get_or l k none
  freed-to-at zero l = refl
  freed-to-at (suc k) [] = refl
  freed-to-at (suc k) (x ∷ xs) = freed-to-at k xs

  step : (k : ℕ) (l : List (Option A)) → freed_to (suc k) l ≡ set (freed_to k l) k (freed_one (get_or l k none))
  step zero [] = refl
  step zero (x ∷ xs) = refl
  step (suc k) [] = refl
  step (suc k) (x ∷ xs) = ap (λ (l : List (Option A)). freed_one x ∷ l) (step k xs)

  next : (k : ℕ) (l : List (Option A)) (x : Option A) → freed_one (get_or l k none) ≡ x → set (freed_to k l) k x ≡ freed_to (k + 1) l
  next k l x e = rw (add-one k) (ap (set (freed_to k l) k) (sym e) ∙ sym (step k l))

  pub freed-to-goes : (k : ℕ) (l : List (Option A)) → holds q (get_or l k none) ≡ true → set (freed_to k l) k none ≡ freed_to (k + 1) l
  freed-to-goes k l e = next k l none (one-goes (get_or l k none) e)

  pub freed-to-stays : (k : ℕ) (l : List (Option A)) → holds q (get_or l k none) ≡ false → freed_to k l ≡ freed_to (k + 1) l
  freed-to-stays k l e =
      sym (set-get_or (freed_to k l) k none)
      ∙ next k l (get_or (freed_to k l) k none) (one-stays (get_or l k none) e ∙ sym (freed-to-at k l))

  -- nothing goes where no slot before k passes
  pub freed-to-none : (k : ℕ) (l : List (Option A)) → ((j : ℕ) → j < k → holds q (get_or l j none) ≡ false) → freed_to k l ≡ l
  freed-to-none zero l f = refl
  freed-to-none (suc k) [] f = refl
  freed-to-none (suc k) (x ∷ xs) f =
      ap₂ (λ (y : Option A) (l : List (Option A)). y ∷ l) (one-stays x (f zero (suc-le-suc zero-le))) (freed-to-none k xs (λ j l. f (suc j) (suc-le-suc l)))

  pub freed-to-all : (k : ℕ) (l : List (Option A)) → length l ≤ k → freed_to k l ≡ freed q l
  freed-to-all zero [] h = refl
  freed-to-all (suc k) [] h = refl
  freed-to-all zero (x ∷ xs) h = absurd (not-suc-le-zero h)
  freed-to-all (suc k) (none ∷ xs) h = ap (λ (l : List (Option A)). none ∷ l) (freed-to-all k xs (le_of_suc-le-suc h))
  freed-to-all (suc k) (some a ∷ xs) h = ap (λ (l : List (Option A)). cond (q a) none (some a) ∷ l) (freed-to-all k xs (le_of_suc-le-suc h))
