-- Three slots that pass a test: where they stand, and that they are three.
use mathlib.Core.Path.{◌≡◌, refl, ◌∙◌, ap}
use mathlib.Core.Bool.{Bool, true, false}
use mathlib.Core.List.{List, [], ◌∷◌}
use mathlib.Core.Option.{Option, none}
use Prim.Native.Nat.{ℕ, zero, suc, ◌≤◌, ◌<◌, zero-le, suc-le-suc}
use native.Mathlib.Nat.{le_of_suc-le-suc, not-suc-le-zero}
use native.Mathlib.Omega.{arith}
use lib.ListN.{length, get_or}
use Rattle.octets.proofs.Options.{clash}
use Rattle.pin_model.specs.Slots.{used}
use Rattle.pin_model.specs.Fits.{holds}
use Rattle.pin_model.proofs.Lists.{bit, count, some-count}
use Rattle.pin_model.proofs.Places.{count-slot, count_at, Found, any_found}

module _ {A : Type 0} (p : A → Bool) where
  -- they are counted
  two_at : (l : List (Option A)) (i j : ℕ) → i < j → holds p (get_or l i none) ≡ true → holds p (get_or l j none) ≡ true → 2 ≤ count p (used l)
  two_at [] i j h d e = clash (cc)
  two_at (x ∷ xs) i zero h d e = absurd (not-suc-le-zero h)
  two_at (x ∷ xs) zero (suc j) h d e = omega (arith, count-slot p x xs, ap bit d, count_at p xs j e)
  two_at (x ∷ xs) (suc i) (suc j) h d e = omega (arith, count-slot p x xs, two_at xs i j (le_of_suc-le-suc h) d e)

  pub three-at : (l : List (Option A)) (i j k : ℕ) → i < j → j < k → holds p (get_or l i none) ≡ true → holds p (get_or l j none) ≡ true
      → holds p (get_or l k none) ≡ true → 3 ≤ count p (used l)
  three-at [] i j k h g c d e = clash (cc)
  three-at (x ∷ xs) i zero k h g c d e = absurd (not-suc-le-zero h)
  three-at (x ∷ xs) i (suc j) zero h g c d e = absurd (not-suc-le-zero g)
  three-at (x ∷ xs) zero (suc j) (suc k) h g c d e =
      omega (arith, count-slot p x xs, ap bit c, two_at xs j k (le_of_suc-le-suc g) d e)
  three-at (x ∷ xs) (suc i) (suc j) (suc k) h g c d e =
      omega (arith, count-slot p x xs, three-at xs i j k (le_of_suc-le-suc h) (le_of_suc-le-suc g) c d e)

  -- they are found
  record Two (l : List (Option A)) : Type 0 where
    i : ℕ
    j : ℕ
    order : i < j
    below : j < length l
    at_i : holds p (get_or l i none) ≡ true
    at_j : holds p (get_or l j none) ≡ true

  pub record Three (l : List (Option A)) : Type 0 where
    pub i : ℕ
    pub j : ℕ
    pub k : ℕ
    pub order : i < j
    pub order_too : j < k
    pub below : k < length l
    pub at_i : holds p (get_or l i none) ≡ true
    pub at_j : holds p (get_or l j none) ≡ true
    pub at_k : holds p (get_or l k none) ≡ true

  found-two : (l : List (Option A)) → 2 ≤ count p (used l) → Two l
  found-two [] h = absurd (omega arith)
  found-two (x ∷ xs) h = go (holds p x) refl (found-two xs)
    where
      go : (b : Bool) → holds p x ≡ b → (2 ≤ count p (used xs) → Two xs) → Two (x ∷ xs)
      go true e ih =
          let f : Found p xs = any_found p xs (some-count p (used xs) (omega (arith, count-slot p x xs, ap bit e))) in
          record {
            i = zero;
            j = suc f.at;
            order = suc-le-suc zero-le;
            below = suc-le-suc f.below;
            at_i = e;
            at_j = ap (holds p) f.there ∙ f.passes-it;
          }
      go false e ih =
          let f : Two xs = ih (omega (arith, count-slot p x xs, ap bit e)) in
          record { i = suc f.i; j = suc f.j; order = suc-le-suc f.order; below = suc-le-suc f.below; at_i = f.at_i; at_j = f.at_j }

  pub found-three : (l : List (Option A)) → 3 ≤ count p (used l) → Three l
  found-three [] h = absurd (omega arith)
  found-three (x ∷ xs) h = go (holds p x) refl (found-three xs)
    where
      go : (b : Bool) → holds p x ≡ b → (3 ≤ count p (used xs) → Three xs) → Three (x ∷ xs)
      go true e ih =
          let f : Two xs = found-two xs (omega (arith, count-slot p x xs, ap bit e)) in
          record {
            i = zero;
            j = suc f.i;
            k = suc f.j;
            order = suc-le-suc zero-le;
            order_too = suc-le-suc f.order;
            below = suc-le-suc f.below;
            at_i = e;
            at_j = f.at_i;
            at_k = f.at_j;
          }
      go false e ih =
          let f : Three xs = ih (omega (arith, count-slot p x xs, ap bit e)) in
          record {
            i = suc f.i;
            j = suc f.j;
            k = suc f.k;
            order = suc-le-suc f.order;
            order_too = suc-le-suc f.order_too;
            below = suc-le-suc f.below;
            at_i = f.at_i;
            at_j = f.at_j;
            at_k = f.at_k;
          }
