-- Laws of the tests on lists: `any`, `all` and `count`, what striking and rewriting do to them, and the same elements in another
-- order.
use mathlib.Core.Path.{◌≡◌, refl, sym, ◌∙◌, ap, ap₂, fun_ext}
use mathlib.Core.Bool.{Bool, true, false, cond, not, ◌&&◌, ◌||◌, true≢false, false≢true, or-true, not-and_self, and-or_distrib_right}
use mathlib.Core.List.{List, [], ◌∷◌, ◌++◌, map}
use Prim.Native.Nat.{ℕ, zero, suc, ◌+◌, ◌≤◌, ◌<◌}
use native.Mathlib.Omega.{arith}
use native.Mathlib.Nat.{zero-add}
use lib.Dec.{ltb}
use lib.ListN.{length, drop}
use borrow.Author.Tests.{ltb-true, ltb-false, lt-ltb}
use Rattle.octets.specs.Octets.{all, any}
use Rattle.octets.proofs.Tests.{is_false, both_ways, and_left, and_right, and_both}
pub use Rattle.pin_model.specs.Slots.{bit, count}
use Rattle.pin_model.specs.Slots.{struck, rewritten}

-- a function that a change doesn't touch
pub cond_same : {A B : Type 0} (g : A → B) (f : A → A) → ((x : A) → g (f x) ≡ g x) → (b : Bool) (x : A) → g (cond b (f x) x) ≡ g x
cond_same g f h true x = h x
cond_same g f h false x = refl

-- what holds of both sides
pub cond_either : {A : Type 0} (P : A → Type 0) (b : Bool) (x y : A) → P x → P y → P (cond b x y)
cond_either P true x y p q = p
cond_either P false x y p q = q

module _ {A : Type 0} where
  pub any-ext : (p q : A → Bool) → ((x : A) → p x ≡ q x) → (l : List A) → any p l ≡ any q l
  any-ext p q h l = ap (λ (f : A → Bool). any f l) (fun_ext h)

  pub count-ext : (p q : A → Bool) → ((x : A) → p x ≡ q x) → (l : List A) → count p l ≡ count q l
  count-ext p q h l = ap (λ (f : A → Bool). count f l) (fun_ext h)

  -- how many pass, and whether some element does
  pub any-count : (p : A → Bool) (l : List A) → any p l ≡ ltb 0 (count p l)
  any-count p [] = refl
  any-count p (x ∷ xs) =
      elim (p x) as (λ b. (b || any p xs) ≡ ltb 0 (bit b + count p xs)) [
        | true ↦ sym (lt-ltb 0 (1 + count p xs) (omega arith))
        | false ↦ any-count p xs ∙ ap (ltb 0) (sym (zero-add (count p xs)))
      ]

  pub count_none : (p : A → Bool) (l : List A) → any p l ≡ false → count p l ≡ 0
  count_none p l e = omega (arith, ltb-false 0 (count p l) (sym (any-count p l) ∙ e))

  pub count-some : (p : A → Bool) (l : List A) → any p l ≡ true → 0 < count p l
  count-some p l e = ltb-true 0 (count p l) (sym (any-count p l) ∙ e)

  pub some-count : (p : A → Bool) (l : List A) → 0 < count p l → any p l ≡ true
  some-count p l h = any-count p l ∙ lt-ltb 0 (count p l) h

  count-all : (l : List A) → count (λ x. true) l ≡ length l
  count-all [] = refl
  count-all (x ∷ xs) = let ih = count-all xs in omega arith

  pub any_append : (p : A → Bool) (l m : List A) → any p (l ++ m) ≡ (any p l || any p m)
  any_append p [] m = refl
  any_append p (x ∷ l) m =
      ap (λ (b : Bool). p x || b) (any_append p l m) ∙ elim (p x) as (λ b. (b || (any p l || any p m)) ≡ (b || any p l || any p m)) [ true ↦ refl | false ↦ refl ]

  pub any-nothing : (l : List A) → any (λ x. false) l ≡ false
  any-nothing [] = refl
  any-nothing (x ∷ xs) = any-nothing xs

  -- what passes a stronger test
  pub count-implied : (p q : A → Bool) → ((x : A) → p x ≡ true → q x ≡ true) → (l : List A) → count p l ≤ count q l
  count-implied p q h [] = omega arith
  count-implied p q h (x ∷ xs) = go (p x) (q x) (h x) (count-implied p q h xs)
    where
      go : (b d : Bool) → (b ≡ true → d ≡ true) → count p xs ≤ count q xs → bit b + count p xs ≤ bit d + count q xs
      go true true k ih = omega arith
      go true false k ih = absurd (false≢true (k refl))
      go false true k ih = omega arith
      go false false k ih = omega arith

  pub any-implied : (p q : A → Bool) → ((x : A) → p x ≡ true → q x ≡ true) → (l : List A) → any p l ≡ true → any q l ≡ true
  any-implied p q h l e = some-count q l (omega (arith, count-some p l e, count-implied p q h l))

  pub none-implied : (p q : A → Bool) → ((x : A) → p x ≡ true → q x ≡ true) → (l : List A) → any q l ≡ false → any p l ≡ false
  none-implied p q h l e = is_false (any p l) (λ d. true≢false (sym (any-implied p q h l d) ∙ e))

  pub any-drop : (p : A → Bool) (k : ℕ) (l : List A) → any p (drop k l) ≡ true → any p l ≡ true
  any-drop p zero l e = e
  any-drop p (suc k) [] e = e
  any-drop p (suc k) (x ∷ l) e = ap (λ (b : Bool). p x || b) (any-drop p k l e) ∙ or-true (p x)

  pub all_append : (p : A → Bool) (l m : List A) → all p l ≡ true → all p m ≡ true → all p (l ++ m) ≡ true
  all_append p [] m e f = f
  all_append p (x ∷ l) m e f = and_both (p x) (all p (l ++ m)) (and_left (p x) (all p l) e) (all_append p l m (and_right (p x) (all p l) e) f)

  pub all-implied : (p q : A → Bool) → ((x : A) → p x ≡ true → q x ≡ true) → (l : List A) → all p l ≡ true → all q l ≡ true
  all-implied p q h [] e = refl
  all-implied p q h (x ∷ xs) e =
      and_both (q x) (all q xs) (h x (and_left (p x) (all p xs) e)) (all-implied p q h xs (and_right (p x) (all p xs) e))

  pub any-not : (p : A → Bool) (l : List A) → any (λ x. not (p x)) l ≡ not (all p l)
  any-not p [] = refl
  any-not p (x ∷ xs) = elim (p x) as (λ b. (not b || any (λ y. not (p y)) xs) ≡ not (b && all p xs)) [ true ↦ any-not p xs | false ↦ refl ]

  pub any-and : (p : A → Bool) (b : Bool) (l : List A) → any (λ x. p x && b) l ≡ (any p l && b)
  any-and p b [] = refl
  any-and p b (x ∷ xs) = ap (λ (c : Bool). (p x && b) || c) (any-and p b xs) ∙ sym (and-or_distrib_right (p x) (any p xs) b)

  -- each element passes a second test or doesn't
  pub count-split : (p q : A → Bool) (l : List A) → count p l ≡ count (λ x. q x && p x) l + count (λ x. not (q x) && p x) l
  count-split p q [] = refl
  count-split p q (x ∷ xs) =
      let ih : count p xs ≡ count (λ y. q y && p y) xs + count (λ y. not (q y) && p y) xs = count-split p q xs in
      elim (q x) as (λ b. bit (p x) + count p xs ≡ bit (b && p x) + count (λ y. q y && p y) xs + (bit (not b && p x) + count (λ y. not (q y) && p y) xs)) [
        | true ↦ omega arith
        | false ↦ omega arith
      ]

  pub any-split : (p q : A → Bool) (l : List A) → any p l ≡ (any (λ x. q x && p x) l || any (λ x. not (q x) && p x) l)
  any-split p q [] = refl
  any-split p q (x ∷ xs) = ap (λ (b : Bool). p x || b) (any-split p q xs) ∙ go (q x) (p x) (any (λ y. q y && p y) xs)
    where
      go : (b d a : Bool) → (d || (a || any (λ y. not (q y) && p y) xs)) ≡ (((b && d) || a) || ((not b && d) || any (λ y. not (q y) && p y) xs))
      go true true a = refl
      go true false a = refl
      go false true a = sym (or-true a)
      go false false a = refl

  -- without the elements that pass
  count-struck : (p q : A → Bool) (l : List A) → count p (struck q l) ≡ count (λ x. not (q x) && p x) l
  count-struck p q [] = refl
  count-struck p q (x ∷ xs) =
      elim (q x) as (λ b. count p (cond b (struck q xs) (x ∷ struck q xs)) ≡ bit (not b && p x) + count (λ y. not (q y) && p y) xs) [
        | true ↦ count-struck p q xs ∙ omega arith
        | false ↦ ap (λ (n : ℕ). bit (p x) + n) (count-struck p q xs)
      ]

  pub any-struck : (p q : A → Bool) (l : List A) → any p (struck q l) ≡ any (λ x. not (q x) && p x) l
  any-struck p q l = any-count p (struck q l) ∙ ap (ltb 0) (count-struck p q l) ∙ sym (any-count (λ x. not (q x) && p x) l)

  pub count-struck-le : (p q : A → Bool) (l : List A) → count p (struck q l) ≤ count p l
  count-struck-le p q l = rw (count-struck p q l) (count-implied (λ x. not (q x) && p x) p (λ x. and_right (not (q x)) (p x)) l)

  pub struck-self : (q : A → Bool) (l : List A) → count q (struck q l) ≡ 0
  struck-self q l =
      count_none q (struck q l)
      (any-struck q q l ∙ any-ext (λ x. not (q x) && q x) (λ x. false) (λ x. not-and_self (q x)) l ∙ any-nothing l)

  pub length-struck : (q : A → Bool) (l : List A) → length l ≡ count q l + length (struck q l)
  length-struck q [] = refl
  length-struck q (x ∷ xs) = go (q x) (length-struck q xs)
    where
      go : (b : Bool) → length xs ≡ count q xs + length (struck q xs)
          → suc (length xs) ≡ bit b + count q xs + length (cond b (struck q xs) (x ∷ struck q xs))
      go true ih = omega arith
      go false ih = omega arith

  -- what is left was there before
  pub struck-any : (p q : A → Bool) (l : List A) → any p (struck q l) ≡ true → any p l ≡ true
  struck-any p q l e = any-implied (λ x. not (q x) && p x) p (λ x. and_right (not (q x)) (p x)) l (sym (any-struck p q l) ∙ e)

  pub struck-left : (p q : A → Bool) (l : List A) → (any p l && any p (struck q l)) ≡ any p (struck q l)
  struck-left p q l =
      both_ways (any p l && any p (struck q l)) (any p (struck q l)) (and_right (any p l) (any p (struck q l)))
      (λ e. and_both (any p l) (any p (struck q l)) (struck-any p q l e) e)

  -- with those that pass changed, and with one element put in place of those that pass
  pub count-rewritten : (p q : A → Bool) (f : A → A) (l : List A) → count p (rewritten q f l) ≡ count (λ x. p (cond (q x) (f x) x)) l
  count-rewritten p q f [] = refl
  count-rewritten p q f (x ∷ xs) = ap (λ (n : ℕ). bit (p (cond (q x) (f x) x)) + n) (count-rewritten p q f xs)

  pub any-rewritten : (p q : A → Bool) (f : A → A) (l : List A) → any p (rewritten q f l) ≡ any (λ x. p (cond (q x) (f x) x)) l
  any-rewritten p q f [] = refl
  any-rewritten p q f (x ∷ xs) = ap (λ (b : Bool). p (cond (q x) (f x) x) || b) (any-rewritten p q f xs)

  count-replace : (p q : A → Bool) (a : A) (l : List A)
      → count p (rewritten q (λ x. a) l) ≡ cond (p a) (count q l) 0 + count p (struck q l)
  count-replace p q a [] = elim (p a) as (λ b. 0 ≡ cond b 0 0 + 0) [ true ↦ refl | false ↦ refl ]
  count-replace p q a (x ∷ xs) =
      let ih : count p (rewritten q (λ y. a) xs) ≡ cond (p a) (count q xs) 0 + count p (struck q xs) = count-replace p q a xs in
      go (q x) (p a) refl (count p (rewritten q (λ y. a) xs)) ih
    where
      go : (b d : Bool) → p a ≡ d → (n : ℕ) → n ≡ cond d (count q xs) 0 + count p (struck q xs)
          → bit (p (cond b a x)) + n ≡ cond d (bit b + count q xs) 0 + count p (cond b (struck q xs) (x ∷ struck q xs))
      go true true d n e = rw d (omega arith)
      go true false d n e = rw d (omega arith)
      go false true d n e = omega arith
      go false false d n e = omega arith

  -- the same elements, each as often, in whatever order
  abbrev pub Alike : List A → List A → Type 0
  Alike l m = (p : A → Bool) → count p l ≡ count p m

  pub alike-any : (l m : List A) → Alike l m → (p : A → Bool) → any p l ≡ any p m
  alike-any l m h p = any-count p l ∙ ap (ltb 0) (h p) ∙ sym (any-count p m)

  pub alike-length : (l m : List A) → Alike l m → length l ≡ length m
  alike-length l m h = sym (count-all l) ∙ h (λ x. true) ∙ count-all m

  pub alike-struck : (q : A → Bool) (l m : List A) → Alike l m → Alike (struck q l) (struck q m)
  alike-struck q l m h p = count-struck p q l ∙ h (λ x. not (q x) && p x) ∙ sym (count-struck p q m)

  pub alike-rewritten : (q : A → Bool) (f : A → A) (l m : List A) → Alike l m → Alike (rewritten q f l) (rewritten q f m)
  alike-rewritten q f l m h p = count-rewritten p q f l ∙ h (λ x. p (cond (q x) (f x) x)) ∙ sym (count-rewritten p q f m)

  pub alike-cons : (a : A) (l m : List A) → Alike l m → Alike (a ∷ l) (a ∷ m)
  alike-cons a l m h p = ap (λ (n : ℕ). bit (p a) + n) (h p)

  pub alike-replace : (q : A → Bool) (a : A) (l : List A) → count q l ≡ 1 → Alike (rewritten q (λ x. a) l) (a ∷ struck q l)
  alike-replace q a l e p =
      count-replace p q a l ∙ ap (λ (n : ℕ). n + count p (struck q l)) (go (p a))
    where
      go : (b : Bool) → cond b (count q l) 0 ≡ bit b
      go true = e
      go false = refl

-- through a function
module _ {A B : Type 0} (f : A → B) where
  pub any-map : (p : B → Bool) (l : List A) → any p (map f l) ≡ any (λ x. p (f x)) l
  any-map p [] = refl
  any-map p (x ∷ xs) = ap (λ (b : Bool). p (f x) || b) (any-map p xs)

  pub struck-map : (q : B → Bool) (l : List A) → struck q (map f l) ≡ map f (struck (λ x. q (f x)) l)
  struck-map q [] = refl
  struck-map q (x ∷ xs) =
      elim (q (f x)) as (λ b. cond b (struck q (map f xs)) (f x ∷ struck q (map f xs)) ≡ map f (cond b (struck (λ y. q (f y)) xs) (x ∷ struck (λ y. q (f y)) xs))) [
        | true ↦ struck-map q xs
        | false ↦ ap (λ (l : List B). f x ∷ l) (struck-map q xs)
      ]

  pub rewritten-map : (q : B → Bool) (g : B → B) (h : A → A) → ((x : A) → g (f x) ≡ f (h x)) → (l : List A)
      → rewritten q g (map f l) ≡ map f (rewritten (λ x. q (f x)) h l)
  rewritten-map q g h e [] = refl
  rewritten-map q g h e (x ∷ xs) = ap₂ ◌∷◌ (go (q (f x))) (rewritten-map q g h e xs)
    where
      go : (b : Bool) → cond b (g (f x)) (f x) ≡ f (cond b (h x) x)
      go true = e x
      go false = refl
