-- A mark that is added is seen, and those seen before stay so.
use mathlib.Core.Path.{◌≡◌, refl, ◌∙◌}
use mathlib.Core.Bool.{true}
use mathlib.Core.List.{List}
use Prim.Native.Nat.{ℕ, ◌+◌, ◌*◌, ◌/◌, ◌%◌, ◌≤◌, ◌<◌, min, max, zero-le}
use native.Mathlib.Omega.{arith}
use lib.Arith.{bin_ind}
use lib.Bits.{bit_and, bit_or, and_step, or_step, or_comm, and_self}
use lib.Dec.{eqb}
use lib.ListN.{length, get_or, length-set}
use lib.Pow.{pow_pos}
use lib.Seq.{get_or-set_same, get_or-set_other}
use borrow.Author.Tests.{eqb-true, eqb-false, ltb-true, lt-ltb}
use Rattle.octets.proofs.Tests.{by_test}
use Rattle.pin_distinct.specs.SeenMarks.{bit_of, is_seen, with_seen}

-- the lowest digits of two numbers, and of their or
low-digits : (a b : ℕ) → max (a % 2) (b % 2) < 2
low-digits a b = omega arith

by-halves : (n h d : ℕ) → n ≡ h * 2 + d → d < 2 → (n / 2 ≡ h) × (n % 2 ≡ d)
by-halves n h d e l = (omega arith, omega arith)

or-halves : (a b : ℕ) → (bit_or a b / 2 ≡ bit_or (a / 2) (b / 2)) × (bit_or a b % 2 ≡ max (a % 2) (b % 2))
or-halves a b = by-halves _ _ _ (or_step a b) (low-digits a b)

no_less : (v w p q x y z o : ℕ) → v ≡ p * 2 + min x y → w ≡ q * 2 + min o y → p ≤ q → o ≡ max x z → v ≤ w
no_less v w p q x y z o ev ew l e = omega arith

-- a bit that is set stays set
or-keeps : (v x y : ℕ) → bit_and v y ≤ bit_and (bit_or v x) y
or-keeps v =
    bin_ind (λ (n : ℕ). (x y : ℕ) → bit_and n y ≤ bit_and (bit_or n x) y) (λ x y. zero-le)
    (λ n ih x y.
    let halves = or-halves n x in
    let less : bit_and (n / 2) (y / 2) ≤ bit_and (bit_or n x / 2) (y / 2) = rw halves.0 (ih (x / 2) (y / 2)) in
    no_less _ _ _ _ _ _ _ _ (and_step n y) (and_step (bit_or n x) y) less halves.1)
    v

-- and one that is added is set
or-sets : (v x : ℕ) → x ≤ bit_and (bit_or v x) x
or-sets v x = rw (or_comm v x) (rw and_self at (or-keeps x v x))

less-than : {n k : ℕ} → 0 < n → n ≤ k → 0 < k
less-than l h = omega arith

-- the marks seen, and m with them
module _ (seen : List ℕ) (m : ℕ) (size : length seen ≡ 128) (below : m < 8192) where
  pub with_size : length (with_seen seen m) ≡ 128
  unfolding with_seen
  with_size = length-set seen (m / 64) _ ∙ size

  same_word : (i : ℕ) → i / 64 ≡ m / 64 → get_or (with_seen seen m) (i / 64) 0 ≡ bit_or (get_or seen (i / 64) 0) (bit_of m)
  unfolding with_seen
  same_word i e = rw e (get_or-set_same seen (m / 64) _ 0 (omega (arith, size)))

  other_word : (i : ℕ) → (i / 64 ≡ m / 64 → ⊥) → get_or (with_seen seen m) (i / 64) 0 ≡ get_or seen (i / 64) 0
  unfolding with_seen
  other_word i h = get_or-set_other seen (m / 64) (i / 64) _ 0 h

  pub now-seen : is_seen (with_seen seen m) m ≡ true
  unfolding is_seen bit_of
  now-seen = rw (same_word m refl) (lt-ltb 0 _ (less-than (pow_pos (m % 64)) (or-sets (get_or seen (m / 64) 0) (bit_of m))))

  pub still_seen : (i : ℕ) → is_seen seen i ≡ true → is_seen (with_seen seen m) i ≡ true
  unfolding is_seen
  still_seen i h =
      by_test (eqb (i / 64) (m / 64))
      (λ e. rw (same_word i (eqb-true _ _ e)) (lt-ltb 0 _ (less-than (ltb-true 0 _ h) (or-keeps (get_or seen (i / 64) 0) (bit_of m) (bit_of i)))))
      (λ e. rw (other_word i (eqb-false _ _ e)) h)
