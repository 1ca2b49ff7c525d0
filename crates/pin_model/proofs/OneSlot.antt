-- Slots of which one alone passes a test: freed or changed, that slot is set.
use mathlib.Core.Path.{◌≡◌, refl, ◌∙◌, ap, ap₂}
use mathlib.Core.Bool.{Bool, true, false, cond, ◌||◌, true≢false, false≢true}
use mathlib.Core.List.{List, [], ◌∷◌}
use mathlib.Core.Option.{Option, none, some}
use Prim.Native.Nat.{ℕ, zero, suc, ◌+◌, ◌≤◌}
use native.Mathlib.Omega.{arith}
use lib.ListN.{get_or, set}
use Rattle.octets.specs.Octets.{any}
use Rattle.octets.proofs.Tests.{is_false}
use Rattle.octets.proofs.Options.{some-injective, never-some}
use Rattle.pin_model.specs.Slots.{used, freed, changed}
use Rattle.pin_model.specs.Fits.{holds}
use Rattle.pin_model.proofs.Lists.{bit, count, count-some}
use Rattle.pin_model.proofs.Places.{count_at}
use Rattle.pin_model.proofs.Slots.{freed-none}

-- where slot j alone passes
module _ {A : Type 0} (p : A → Bool) where
  -- none behind the one that passes
  others : (a : A) (l : List A) → p a ≡ true → bit (p a) + count p l ≤ 1 → any p l ≡ false
  others a l e c = is_false (any p l) (λ d. omega (arith, c, ap bit e, count-some p l d))

  pub freed-set : (l : List (Option A)) (j : ℕ) → holds p (get_or l j none) ≡ true → count p (used l) ≤ 1 → freed p l ≡ set l j none
  freed-set [] j e c = absurd (false≢true e)
  freed-set (none ∷ xs) zero e c = absurd (false≢true e)
  freed-set (none ∷ xs) (suc j) e c = ap (λ (l : List (Option A)). none ∷ l) (freed-set xs j e c)
  freed-set (some a ∷ xs) zero e c = ap₂ ◌∷◌ (ap (λ (b : Bool). cond b none (some a)) e) (freed-none p xs (others a (used xs) e c))
  freed-set (some a ∷ xs) (suc j) e c = go (p a) refl (freed-set xs j e)
    where
      go : (b : Bool) → p a ≡ b → (count p (used xs) ≤ 1 → freed p xs ≡ set xs j none) → cond b none (some a) ∷ freed p xs ≡ some a ∷ set xs j none
      go true d ih = absurd (omega (arith, c, ap bit d, count_at p xs j e))
      go false d ih = ap (λ (l : List (Option A)). some a ∷ l) (ih (omega (arith, c, ap bit d)))

  pub changed-none : (f : A → A) (l : List (Option A)) → any p (used l) ≡ false → changed p f l ≡ l
  changed-none f [] e = refl
  changed-none f (none ∷ xs) e = ap (λ (l : List (Option A)). none ∷ l) (changed-none f xs e)
  changed-none f (some a ∷ xs) e = go (p a) e (changed-none f xs)
    where
      go : (b : Bool) → (b || any p (used xs)) ≡ false → (any p (used xs) ≡ false → changed p f xs ≡ xs) → some (cond b (f a) a) ∷ changed p f xs ≡ some a ∷ xs
      go true d ih = absurd (true≢false d)
      go false d ih = ap (λ (l : List (Option A)). some a ∷ l) (ih d)

  pub changed-set : (f : A → A) (l : List (Option A)) (j : ℕ) (a : A) → get_or l j none ≡ some a → p a ≡ true → count p (used l) ≤ 1
      → changed p f l ≡ set l j (some (f a))
  changed-set f [] j a e d c = never-some e
  changed-set f (none ∷ xs) zero a e d c = never-some e
  changed-set f (none ∷ xs) (suc j) a e d c = ap (λ (l : List (Option A)). none ∷ l) (changed-set f xs j a e d c)
  changed-set f (some x ∷ xs) zero a e d c =
      let x-a : x ≡ a = some-injective e in
      let hit : p x ≡ true = ap p x-a ∙ d in
      ap₂ ◌∷◌ (ap (λ (b : Bool). some (cond b (f x) x)) hit ∙ ap (λ (y : A). some (f y)) x-a) (changed-none f xs (others x (used xs) hit c))
  changed-set f (some x ∷ xs) (suc j) a e d c = go (p x) refl (changed-set f xs j a e d)
    where
      go : (b : Bool) → p x ≡ b → (count p (used xs) ≤ 1 → changed p f xs ≡ set xs j (some (f a))) → some (cond b (f x) x) ∷ changed p f xs ≡ some x ∷ set xs j (some (f a))
      go true h ih = absurd (omega (arith, c, ap bit h, count_at p xs j (ap (holds p) e ∙ d)))
      go false h ih = ap (λ (l : List (Option A)). some x ∷ l) (ih (omega (arith, c, ap bit h)))
