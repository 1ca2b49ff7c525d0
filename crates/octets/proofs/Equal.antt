-- Laws of `same`, `all` and `all_zero`: what a loop that compares has to show.
use mathlib.Core.Path.{◌≡◌, refl, sym, ap, ◌∙◌, subst}
use mathlib.Core.Bool.{Bool, true, false≢true, ◌&&◌, and_assoc}
use mathlib.Core.List.{List, [], ◌∷◌}
use Prim.Native.Nat.{ℕ, zero, suc, ◌+◌, ◌-◌, ◌≤◌, ◌<◌, max}
use native.Mathlib.Omega.{arith}
use lib.Dec.{eqb}
use lib.Pointwise.{pointwise}
use lib.ListN.{length, get_or, take, drop, replicate, length-replicate, get_or-replicate}
use lib.Seq.{ext_get_or}
use borrow.Author.Tests.{eqb-true, eq-eqb}
use Rattle.std.proofs.Common.{rules}
use Rattle.std.specs.List.{fold}
use Rattle.std.proofs.lemmas.Bool.Decides.{nat_tests}
use Rattle.octets.specs.Octets.{part, same, all, all_zero}
use Rattle.octets.proofs.Tests.{both_ways, and_left, and_right, and_both}
use Rattle.octets.proofs.Parts.{part_length, part_at, part-lent}

pub same_true : (xs ys : List ℕ) → same xs ys ≡ true → xs ≡ ys
unfolding same
same_true [] [] e = refl
same_true [] (y ∷ ys) e = absurd (false≢true e)
same_true (x ∷ xs) [] e = absurd (false≢true e)
same_true (x ∷ xs) (y ∷ ys) e =
    let h : x ≡ y = eqb-true x y (and_left (eqb x y) (same xs ys) e) in
    let t : xs ≡ ys = same_true xs ys (and_right (eqb x y) (same xs ys) e) in
    cc

-- as `==` compares two slices
compared : (xs ys : List ℕ) → pointwise eqb xs ys ≡ same xs ys
unfolding same
compared [] [] = refl
compared [] (y ∷ ys) = refl
compared (x ∷ xs) [] = refl
compared (x ∷ xs) (y ∷ ys) = ap (λ (b : Bool). eqb x y && b) (compared xs ys)

-- as `==` compares the part that `&s[at..end]` lends
pub compared_at : (s : List ℕ) (at : ℕ) (p : List ℕ) → at + length p ≤ length s
    → pointwise eqb (take (at + length p - at) (drop at s)) p ≡ same (part s at (length p)) p
compared_at s at p h =
    compared _ p ∙ ap (λ (l : List ℕ). same l p) (part-lent s at (length p) (at + length p) refl h).0

pub same_refl : (xs : List ℕ) → same xs xs ≡ true
unfolding same
same_refl [] = refl
same_refl (x ∷ xs) = rw (eq-eqb x x refl) (same_refl xs)

pub same-eq : (xs ys : List ℕ) → xs ≡ ys → same xs ys ≡ true
same-eq xs ys e = rw e (same_refl ys)

-- compared the other way round
pub same-turned : (xs ys : List ℕ) → same xs ys ≡ same ys xs
same-turned xs ys =
    both_ways (same xs ys) (same ys xs) (λ e. same-eq ys xs (sym (same_true xs ys e))) (λ e. same-eq xs ys (sym (same_true ys xs e)))

-- both tests pass at one byte string: the two are the same
pub same-both : (x a b : List ℕ) → same x a ≡ true → same x b ≡ true → same a b ≡ true
same-both x a b e d = subst (λ (y : List ℕ). same y b ≡ true) (same_true x a e) d

same-all : (xs ys : List ℕ) → length xs ≡ length ys → ((i : ℕ) → i < length xs → get_or xs i 0 ≡ get_or ys i 0) → same xs ys ≡ true
same-all xs ys e h = same-eq xs ys (ext_get_or 0 xs ys e h)

-- a part against a list, from what holds at each place
module _ (b : List ℕ) (at : ℕ) (p : List ℕ) (fits : at + length p ≤ length b) where
  pub same-part : ((i : ℕ) → i < length p → get_or b (at + i) 0 ≡ get_or p i 0) → same (part b at (length p)) p ≡ true
  same-part h =
      let n : length (part b at (length p)) ≡ length p = part_length b at (length p) fits in
      same-all (part b at (length p)) p n (λ i l. let m : i < length p = omega arith in part_at b at (length p) i m ∙ h i m)

-- a test of each element, at each place
module _ (p : ℕ → Bool) where
  pub all-at : (s : List ℕ) → all p s ≡ true → (i : ℕ) → i < length s → p (get_or s i 0) ≡ true
  all-at [] h i l = absurd (omega arith)
  all-at (b ∷ s) h zero l = and_left (p b) (all p s) h
  all-at (b ∷ s) h (suc i) l = all-at s (and_right (p b) (all p s) h) i (omega arith)

  pub all-each : (s : List ℕ) → ((i : ℕ) → i < length s → p (get_or s i 0) ≡ true) → all p s ≡ true
  all-each [] h = refl
  all-each (b ∷ s) h = and_both (p b) (all p s) (h 0 (omega arith)) (all-each s (λ i l. h (suc i) (omega arith)))

-- zeros, as a list and at each place
pub zeros-are : (xs : List ℕ) → all_zero xs ≡ true → xs ≡ replicate (length xs) 0
unfolding all_zero
zeros-are [] e = refl
zeros-are (x ∷ xs) e =
    let h : x ≡ 0 = eqb-true x 0 (and_left (eqb x 0) (all_zero xs) e) in
    let t : xs ≡ replicate (length xs) 0 = zeros-are xs (and_right (eqb x 0) (all_zero xs) e) in
    cc

pub are-zeros : (n : ℕ) → all_zero (replicate n 0) ≡ true
unfolding all_zero
are-zeros zero = refl
are-zeros (suc n) = are-zeros n

zero-at : (xs : List ℕ) → all_zero xs ≡ true → (i : ℕ) → get_or xs i 0 ≡ 0
unfolding all_zero
zero-at [] e i = refl
zero-at (x ∷ xs) e zero = eqb-true x 0 (and_left (eqb x 0) (all_zero xs) e)
zero-at (x ∷ xs) e (suc i) = zero-at xs (and_right (eqb x 0) (all_zero xs) e) i

zero-each : (xs : List ℕ) → ((i : ℕ) → i < length xs → get_or xs i 0 ≡ 0) → all_zero xs ≡ true
zero-each xs h = ap all_zero (ext_get_or 0 xs (replicate (length xs) 0) (sym (length-replicate (length xs) 0)) (λ i l. h i l ∙ sym (get_or-replicate (length xs) i 0 0 l))) ∙ are-zeros (length xs)

-- the same of a part, at the places of the whole
pub part-zero-at : (b : List ℕ) (at n : ℕ) → all_zero (part b at n) ≡ true → (i : ℕ) → at ≤ i → i < at + n → get_or b i 0 ≡ 0
part-zero-at b at n e i l k =
    let place : at + (i - at) ≡ i = omega arith in
    ap (λ (j : ℕ). get_or b j 0) (sym place) ∙ sym (part_at b at n (i - at) (omega arith)) ∙ zero-at (part b at n) e (i - at)

pub part-zero-each : (b : List ℕ) (at n : ℕ) → at + n ≤ length b → ((i : ℕ) → at ≤ i → i < at + n → get_or b i 0 ≡ 0) → all_zero (part b at n) ≡ true
part-zero-each b at n fits h =
    zero-each (part b at n)
    (λ i l. let k : i < n = omega (arith, part_length b at n fits) in part_at b at n i k ∙ h (at + i) (omega arith) (omega arith))

-- the greatest byte is zero exactly when each is
greatest-after : (n : ℕ) (xs : List ℕ) → eqb (fold max n xs) 0 ≡ eqb n 0 && all_zero xs
unfolding all_zero
greatest-after n [] = search rules
greatest-after n (x ∷ xs) =
    let e : eqb (max n x) 0 ≡ eqb n 0 && eqb x 0 = grind (arith, nat_tests) in
    greatest-after (max n x) xs ∙ ap (λ (b : Bool). b && all_zero xs) e ∙ and_assoc (eqb n 0) (eqb x 0) (all_zero xs)

pub greatest-zero : (xs : List ℕ) → eqb (fold max 0 xs) 0 ≡ all_zero xs
greatest-zero xs = greatest-after 0 xs
