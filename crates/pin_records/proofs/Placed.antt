-- The first slot that passes a test; free and used slots.
use mathlib.Core.Path.{◌≡◌, refl, ◌∙◌, ap}
use mathlib.Core.Bool.{Bool, true, false, cond, ◌&&◌, true≢false, false≢true}
use mathlib.Core.List.{List, [], ◌∷◌}
use mathlib.Core.Option.{Option, none, some}
use Prim.Native.Nat.{ℕ, zero, suc, ◌≤◌, ◌<◌, zero-le, suc-le-suc}
use native.Mathlib.Nat.{le_of_suc-le-suc, not-suc-le-zero}
use lib.ListN.{length, get_or, set}
use Rattle.pin_model.specs.Slots.{has_free, placed}
use Rattle.pin_model.specs.Fits.{holds}
use Rattle.pin_records.specs.Find.{is_free, first_slot}

-- the first slot that passes
module _ {A : Type 0} (p : Option A → Bool) where
  pub first-at : (l : List (Option A)) (i : ℕ) → i < length l → ((j : ℕ) → j < i → p (get_or l j none) ≡ false) → p (get_or l i none) ≡ true → first_slot p l ≡ i
  unfolding first_slot
  first-at [] i l h e = absurd (not-suc-le-zero l)
  first-at (x ∷ xs) zero l h e = ap (λ (b : Bool). cond b 0 (suc (first_slot p xs))) e
  first-at (x ∷ xs) (suc i) l h e =
      ap (λ (b : Bool). cond b 0 (suc (first_slot p xs))) (h zero (suc-le-suc zero-le))
      ∙ ap suc (first-at xs i (le_of_suc-le-suc l) (λ j k. h (suc j) (suc-le-suc k)) e)

  pub first-none : (l : List (Option A)) → ((j : ℕ) → j < length l → p (get_or l j none) ≡ false) → first_slot p l ≡ length l
  unfolding first_slot
  first-none [] h = refl
  first-none (x ∷ xs) h =
      ap (λ (b : Bool). cond b 0 (suc (first_slot p xs))) (h zero (suc-le-suc zero-le))
      ∙ ap suc (first-none xs (λ j k. h (suc j) (suc-le-suc k)))

  -- what stands there, or nowhere
  pub first_passes : (l : List (Option A)) → first_slot p l < length l → p (get_or l (first_slot p l) none) ≡ true
  unfolding first_slot
  first_passes [] h = absurd (not-suc-le-zero h)
  first_passes (x ∷ xs) h = go (p x) refl h (first_passes xs)
    where
      go : (b : Bool) → p x ≡ b → cond b 0 (suc (first_slot p xs)) < suc (length xs) → (first_slot p xs < length xs → p (get_or xs (first_slot p xs) none) ≡ true)
          → p (get_or (x ∷ xs) (cond b 0 (suc (first_slot p xs))) none) ≡ true
      go true e k ih = e
      go false e k ih = ih (le_of_suc-le-suc k)

  pub first-before : (l : List (Option A)) (j : ℕ) → j < first_slot p l → p (get_or l j none) ≡ false
  unfolding first_slot
  first-before [] j h = absurd (not-suc-le-zero h)
  first-before (x ∷ xs) j h = go (p x) refl j h (first-before xs)
    where
      go : (b : Bool) → p x ≡ b → (j : ℕ) → j < cond b 0 (suc (first_slot p xs)) → ((j : ℕ) → j < first_slot p xs → p (get_or xs j none) ≡ false)
          → p (get_or (x ∷ xs) j none) ≡ false
      go true e j k ih = absurd (not-suc-le-zero k)
      go false e zero k ih = e
      go false e (suc j) k ih = ih j (le_of_suc-le-suc k)

  pub first_absent : (l : List (Option A)) → length l ≤ first_slot p l → (j : ℕ) → j < length l → p (get_or l j none) ≡ false
  unfolding first_slot
  first_absent [] h j k = absurd (not-suc-le-zero k)
  first_absent (x ∷ xs) h j k = go (p x) refl h j k (first_absent xs)
    where
      go : (b : Bool) → p x ≡ b → suc (length xs) ≤ cond b 0 (suc (first_slot p xs)) → (j : ℕ) → j < suc (length xs)
          → (length xs ≤ first_slot p xs → (j : ℕ) → j < length xs → p (get_or xs j none) ≡ false) → p (get_or (x ∷ xs) j none) ≡ false
      go true e m j k ih = absurd (not-suc-le-zero m)
      go false e m zero k ih = e
      go false e m (suc j) k ih = ih (le_of_suc-le-suc m) j (le_of_suc-le-suc k)

module _ {A : Type 0} where
  -- the lowest free slot
  pub placed-set : (a : A) (l : List (Option A)) → placed a l ≡ set l (first_slot is_free l) (some a)
  unfolding first_slot
  placed-set a [] = refl
  placed-set a (none ∷ xs) = refl
  placed-set a (some b ∷ xs) = ap (λ (l : List (Option A)). some b ∷ l) (placed-set a xs)

  pub free-below : (l : List (Option A)) → first_slot is_free l < length l → has_free l ≡ true
  unfolding first_slot
  free-below [] h = absurd (not-suc-le-zero h)
  free-below (none ∷ xs) h = refl
  free-below (some a ∷ xs) h = free-below xs (le_of_suc-le-suc h)

  pub free-above : (l : List (Option A)) → length l ≤ first_slot is_free l → has_free l ≡ false
  unfolding first_slot
  free-above [] h = refl
  free-above (none ∷ xs) h = absurd (not-suc-le-zero h)
  free-above (some a ∷ xs) h = free-above xs (le_of_suc-le-suc h)

  pub free-none : (x : Option A) → is_free x ≡ true → x ≡ none
  free-none none e = refl
  free-none (some a) e = absurd (false≢true e)

-- a slot that is not free
pub record Used {A : Type 0} (x : Option A) : Type 0 where
  pub what : A
  pub there : x ≡ some what

pub is-used : {A : Type 0} (x : Option A) → is_free x ≡ false → Used x
is-used none e = absurd (true≢false e)
is-used (some a) e = record { what = a; there = refl }

pub holds-used : {A : Type 0} (p : A → Bool) (x : Option A) → holds p x ≡ true → is_free x ≡ false
holds-used p none e = absurd (false≢true e)
holds-used p (some a) e = refl
