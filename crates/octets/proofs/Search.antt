-- Laws of `specs/Search.antt`: what a loop over the numbers below n has to show.
use mathlib.Core.Path.{◌≡◌, refl, sym, ap, ◌∙◌}
use mathlib.Core.Bool.{Bool, true, false, not, ◌&&◌, ◌||◌, and-false, false≢true, or-true, or-false, or_assoc}
use Prim.Native.Nat.{ℕ, zero, suc, ◌+◌, ◌<◌, zero-le, suc-le-suc}
use native.Mathlib.Nat.{le_of_suc-le-suc, not-suc-le-zero}
use native.Mathlib.Numerals.{add-one}
use Rattle.octets.specs.Search.{every, some}
use Rattle.octets.proofs.Tests.{both_ways, and_left, and_right, and_both}

pub every_true : (p : ℕ → Bool) (n : ℕ) → ((i : ℕ) → i < n → p i ≡ true) → every p n ≡ true
unfolding every
every_true p zero h = refl
every_true p (suc n) h = rw (h zero (suc-le-suc zero-le)) (every_true (λ i. p (suc i)) n (λ i l. h (suc i) (suc-le-suc l)))

pub every-false : (p : ℕ → Bool) (n i : ℕ) → i < n → p i ≡ false → every p n ≡ false
unfolding every
every-false p zero i l e = absurd (not-suc-le-zero l)
every-false p (suc n) zero l e = rw e
every-false p (suc n) (suc i) l e = rw (every-false (λ j. p (suc j)) n i (le_of_suc-le-suc l) e) (and-false (p zero))

pub every-at : (p : ℕ → Bool) (n i : ℕ) → every p n ≡ true → i < n → p i ≡ true
unfolding every
every-at p zero i h l = absurd (not-suc-le-zero l)
every-at p (suc n) zero h l = and_left (p zero) (every (λ j. p (suc j)) n) h
every-at p (suc n) (suc i) h l = every-at (λ j. p (suc j)) n i (and_right (p zero) (every (λ j. p (suc j)) n) h) (le_of_suc-le-suc l)

-- neither of two tests
neither : (x y : Bool) → not (x || y) ≡ (not x && not y)
neither true y = refl
neither false y = refl

pub every-neither : (p q : ℕ → Bool) (n : ℕ) → every (λ i. not (p i || q i)) n ≡ (every (λ i. not (p i)) n && every (λ i. not (q i)) n)
every-neither p q n =
    both_ways _ _
    (λ e.
    let both : (i : ℕ) → i < n → (not (p i) && not (q i)) ≡ true = λ i l. sym (neither (p i) (q i)) ∙ every-at _ n i e l in
    and_both _ _ (every_true _ n (λ i l. and_left (not (p i)) _ (both i l))) (every_true _ n (λ i l. and_right (not (p i)) _ (both i l))))
    (λ e.
    every_true _ n
    (λ i l. neither (p i) (q i) ∙ and_both _ _ (every-at _ n i (and_left (every (λ j. not (p j)) n) _ e) l) (every-at _ n i (and_right (every (λ j. not (p j)) n) _ e) l)))

-- one number more, of `some`
some-suc : (p : ℕ → Bool) (n : ℕ) → some p (suc n) ≡ (some p n || p n)
unfolding some
some-suc p zero = or-false (p zero)
some-suc p (suc n) =
    ap (λ (b : Bool). p zero || b) (some-suc (λ i. p (suc i)) n) ∙ sym (or_assoc (p zero) (some (λ i. p (suc i)) n) (p (suc n)))

pub some_more : (p : ℕ → Bool) (n : ℕ) → some p (n + 1) ≡ (some p n || p n)
some_more p n = ap (some p) (add-one n) ∙ some-suc p n

pub some-false : (p : ℕ → Bool) (n : ℕ) → ((i : ℕ) → i < n → p i ≡ false) → some p n ≡ false
unfolding some
some-false p zero h = refl
some-false p (suc n) h = rw (h zero (suc-le-suc zero-le)) (some-false (λ i. p (suc i)) n (λ i l. h (suc i) (suc-le-suc l)))

pub some-true : (p : ℕ → Bool) (n i : ℕ) → i < n → p i ≡ true → some p n ≡ true
unfolding some
some-true p zero i l e = absurd (not-suc-le-zero l)
some-true p (suc n) zero l e = rw e
some-true p (suc n) (suc i) l e = rw (some-true (λ j. p (suc j)) n i (le_of_suc-le-suc l) e) (or-true (p zero))

-- a number below n of which a test holds
pub record Hit (p : ℕ → Bool) (n : ℕ) : Type 0 where
  pub at : ℕ
  pub below : at < n
  pub holds : p at ≡ true

pub some-hit : (p : ℕ → Bool) (n : ℕ) → some p n ≡ true → Hit p n
unfolding some
some-hit p zero e = absurd (false≢true e)
some-hit p (suc n) e = go (p zero) refl e (some-hit (λ i. p (suc i)) n)
  where
    go : (b : Bool) → p zero ≡ b → (b || some (λ i. p (suc i)) n) ≡ true → (some (λ i. p (suc i)) n ≡ true → Hit (λ i. p (suc i)) n) → Hit p (suc n)
    go true d e ih = record { at = zero; below = suc-le-suc zero-le; holds = d }
    go false d e ih = let h : Hit (λ i. p (suc i)) n = ih e in record { at = suc h.at; below = suc-le-suc h.below; holds = h.holds }
