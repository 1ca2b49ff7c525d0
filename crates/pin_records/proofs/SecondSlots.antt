-- The second slot that passes a test, and how many pass.
use mathlib.Core.Path.{◌≡◌, refl, sym, ◌∙◌, ap}
use mathlib.Core.Bool.{Bool, true, false, cond, true≢false, false≢true}
use mathlib.Core.List.{List, [], ◌∷◌}
use mathlib.Core.Option.{Option, none, some}
use Prim.Native.Nat.{ℕ, zero, suc, ◌+◌, ◌≤◌, ◌<◌, zero-le, suc-le-suc}
use native.Mathlib.Nat.{le_of_suc-le-suc, not-suc-le-zero}
use native.Mathlib.Omega.{arith}
use lib.ListN.{length, get_or}
use borrow.Author.Tests.{lt-ltb, le-ltb}
use Rattle.pin_model.specs.Slots.{bit, count, used}
use Rattle.pin_model.specs.Table.{NameRecord}
use Rattle.pin_model.specs.Fits.{holds}
use Rattle.pin_model.proofs.Lists.{count_none}
use Rattle.pin_model.proofs.Places.{any_none, count_at}
use Rattle.std.specs.Prelude.{Some, None}
use Rattle.std.specs.Prelude as answer
use Rattle.pin_table.proofs.Ranges.{IsLowest}
use Rattle.pin_records.specs.Find.{first_slot, second_slot, slot_found}
use Rattle.pin_records.proofs.Placed.{first-at, first-none, first-before, first_passes, first_absent}
use Rattle.pin_records.proofs.Found.{slot-there, slot-not-there}

module _ {A : Type 0} (p : Option A → Bool) where
  -- slot n is the first that passes, and m the first behind it
  second_at : (l : List (Option A)) (n m : ℕ) → n < m → m < length l → ((j : ℕ) → j < n → p (get_or l j none) ≡ false) → p (get_or l n none) ≡ true
      → ((j : ℕ) → n < j → j < m → p (get_or l j none) ≡ false) → p (get_or l m none) ≡ true → second_slot p l ≡ m
  unfolding second_slot
  second_at [] n m d l before here between there = absurd (not-suc-le-zero l)
  second_at (x ∷ xs) n zero d l before here between there = absurd (not-suc-le-zero d)
  second_at (x ∷ xs) zero (suc m) d l before here between there =
      ap (λ (b : Bool). suc (cond b (first_slot p xs) (second_slot p xs))) here
      ∙ ap suc (first-at p xs m (le_of_suc-le-suc l) (λ j k. between (suc j) (suc-le-suc zero-le) (suc-le-suc k)) there)
  second_at (x ∷ xs) (suc n) (suc m) d l before here between there =
      ap (λ (b : Bool). suc (cond b (first_slot p xs) (second_slot p xs))) (before zero (suc-le-suc zero-le))
      ∙ ap suc (second_at xs n m (le_of_suc-le-suc d) (le_of_suc-le-suc l) (λ j k. before (suc j) (suc-le-suc k)) here
      (λ j i k. between (suc j) (suc-le-suc i) (suc-le-suc k)) there)

  -- none passes
  second-nowhere : (l : List (Option A)) → ((j : ℕ) → j < length l → p (get_or l j none) ≡ false) → second_slot p l ≡ length l
  unfolding second_slot
  second-nowhere [] f = refl
  second-nowhere (x ∷ xs) f =
      ap (λ (b : Bool). suc (cond b (first_slot p xs) (second_slot p xs))) (f zero (suc-le-suc zero-le))
      ∙ ap suc (second-nowhere xs (λ j l. f (suc j) (suc-le-suc l)))

  -- slot n is the first that passes, and none does behind it
  second_none : (l : List (Option A)) (n : ℕ) → n < length l → ((j : ℕ) → j < n → p (get_or l j none) ≡ false) → p (get_or l n none) ≡ true
      → ((j : ℕ) → n < j → j < length l → p (get_or l j none) ≡ false) → second_slot p l ≡ length l
  unfolding second_slot
  second_none [] n l before here behind = refl
  second_none (x ∷ xs) zero l before here behind =
      ap (λ (b : Bool). suc (cond b (first_slot p xs) (second_slot p xs))) here
      ∙ ap suc (first-none p xs (λ j k. behind (suc j) (suc-le-suc zero-le) (suc-le-suc k)))
  second_none (x ∷ xs) (suc n) l before here behind =
      ap (λ (b : Bool). suc (cond b (first_slot p xs) (second_slot p xs))) (before zero (suc-le-suc zero-le))
      ∙ ap suc (second_none xs n (le_of_suc-le-suc l) (λ j k. before (suc j) (suc-le-suc k)) here (λ j i k. behind (suc j) (suc-le-suc i) (suc-le-suc k)))

  -- what stands there
  pub second-passes : (l : List (Option A)) → second_slot p l < length l → p (get_or l (second_slot p l) none) ≡ true
  unfolding second_slot
  second-passes [] h = absurd (not-suc-le-zero h)
  second-passes (x ∷ xs) h = go (p x) (le_of_suc-le-suc h) (second-passes xs)
    where
      go : (b : Bool) → cond b (first_slot p xs) (second_slot p xs) < length xs → (second_slot p xs < length xs → p (get_or xs (second_slot p xs) none) ≡ true)
          → p (get_or xs (cond b (first_slot p xs) (second_slot p xs)) none) ≡ true
      go true k ih = first_passes p xs k
      go false k ih = ih k

-- what a search behind the first slot finds
module _ {A : Type 0} (p : Option A → Bool) (l : List (Option A)) (n : ℕ) (slots : length l ≡ n) where
  pub no-first : None ≡ slot_found n (first_slot p l) → None ≡ slot_found n (second_slot p l)
  unfolding slot_found
  no-first e =
      let absent : length l ≤ first_slot p l = omega (arith, slot-not-there n (first_slot p l) e) in
      sym (rw (second-nowhere p l (first_absent p l absent), slots, le-ltb n n (omega arith)))

  module _ (first : ℕ) (e : Some first ≡ slot_found n (first_slot p l)) where
    there : (first_slot p l < n) × (first_slot p l ≡ first)
    there = slot-there n (first_slot p l) first e

    before : (j : ℕ) → j < first → p (get_or l j none) ≡ false
    before j k = first-before p l j (omega (arith, there.1))

    here : p (get_or l first none) ≡ true
    here = ap (λ (i : ℕ). p (get_or l i none)) (sym there.1) ∙ first_passes p l (omega (arith, there.0))

    pub second-lowest : (r : answer.Option ℕ) → IsLowest (λ k. p (get_or l k none)) (first + 1) n r → r ≡ slot_found n (second_slot p l)
    unfolding slot_found
    second-lowest None h =
        let q : second_slot p l ≡ length l = second_none p l first (omega (arith, there.0, there.1)) before here (λ j i k. h j (omega arith) (omega arith)) in
        sym (rw (q, slots, le-ltb n n (omega arith)))
    second-lowest (Some m) h =
        let q : second_slot p l ≡ m = second_at p l first m (omega (arith, h.0)) (omega (arith, h.1)) before here (λ j i k. h.3 j (omega arith) k) h.2 in
        sym (rw (q, lt-ltb m n h.1))

-- fewer than two pass, or two
module _ {A : Type 0} (p : A → Bool) where
  few : (l : List (Option A)) → length l ≤ second_slot (holds p) l → count p (used l) < 2
  unfolding second_slot
  few [] h = omega arith
  few (none ∷ xs) h = few xs (le_of_suc-le-suc h)
  few (some a ∷ xs) h = go (p a) refl (le_of_suc-le-suc h) (few xs)
    where
      go : (b : Bool) → p a ≡ b → length xs ≤ cond b (first_slot (holds p) xs) (second_slot (holds p) xs)
          → (length xs ≤ second_slot (holds p) xs → count p (used xs) < 2) → count p (used (some a ∷ xs)) < 2
      go true e k ih = omega (arith, ap bit e, count_none p (used xs) (any_none p xs (first_absent (holds p) xs k)))
      go false e k ih = omega (arith, ap bit e, ih k)

  many : (l : List (Option A)) → second_slot (holds p) l < length l → 2 ≤ count p (used l)
  unfolding second_slot
  many [] h = absurd (not-suc-le-zero h)
  many (none ∷ xs) h = many xs (le_of_suc-le-suc h)
  many (some a ∷ xs) h = go (p a) refl (le_of_suc-le-suc h) (many xs)
    where
      go : (b : Bool) → p a ≡ b → cond b (first_slot (holds p) xs) (second_slot (holds p) xs) < length xs
          → (second_slot (holds p) xs < length xs → 2 ≤ count p (used xs)) → 2 ≤ count p (used (some a ∷ xs))
      go true e k ih = omega (arith, ap bit e, count_at p xs (first_slot (holds p) xs) (first_passes (holds p) xs k))
      go false e k ih = omega (arith, ap bit e, ih k)

module _ (p : NameRecord → Bool) (names : List (Option NameRecord)) (slots : length names ≡ 128) where
  pub fewer-than-two : None ≡ slot_found 128 (second_slot (holds p) names) → count p (used names) < 2
  fewer-than-two e = few p names (omega (arith, slot-not-there 128 (second_slot (holds p) names) e))

  pub two-there : (n : ℕ) → Some n ≡ slot_found 128 (second_slot (holds p) names) → 2 ≤ count p (used names)
  two-there n e = many p names (omega (arith, (slot-there 128 (second_slot (holds p) names) n e).0))

  -- by whether a second slot was found
  pub two-found : (r : answer.Option ℕ) → r ≡ slot_found 128 (second_slot (holds p) names) → true ≡ answer.is_some r → 2 ≤ count p (used names)
  two-found (Some n) e d = two-there n e
  two-found None e d = absurd (true≢false d)

  pub fewer-found : (r : answer.Option ℕ) → r ≡ slot_found 128 (second_slot (holds p) names) → false ≡ answer.is_some r → count p (used names) < 2
  fewer-found (Some n) e d = absurd (false≢true d)
  fewer-found None e d = fewer-than-two e
