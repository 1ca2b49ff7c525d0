-- One byte further: what the calls and the chains go by.
use mathlib.Core.Path.{◌≡◌, sym, ap, ◌∙◌}
use mathlib.Core.Bool.{Bool, true, ◌&&◌, and_assoc, and-true}
use mathlib.Core.List.{List, [], ◌∷◌, ◌++◌}
use Prim.Native.Nat.{ℕ, zero, suc, ◌+◌, ◌-◌, ◌≤◌, ◌<◌}
use native.Mathlib.Omega.{arith}
use native.Mathlib.Numerals.{add-one}
use lib.ListN.{length, get_or, drop}
use lib.Seq.{drop-cons, drop-length, drop-drop}
use Rattle.octets.specs.Octets.{all}
use Rattle.octets.proofs.Tests.{and_right}

-- the bytes from an index on: at the end none, before it a byte and those from the next index on
pub at-end : (s : List ℕ) (i : ℕ) → i ≡ length s → drop i s ≡ []
at-end s i e = rw e (drop-length s)

pub at_byte : (s : List ℕ) (i : ℕ) → i < length s → drop i s ≡ get_or s i 0 ∷ drop (i + 1) s
at_byte s i h = rw add-one (drop-cons s i 0 h)

-- a test of each element, of those from an index on
module _ (p : ℕ → Bool) where
  pub all-snoc : (s : List ℕ) (x : ℕ) → (all p s && p x) ≡ all p (s ++ (x ∷ []))
  all-snoc [] x = sym (and-true (p x))
  all-snoc (y ∷ s) x = and_assoc (p y) (all p s) (p x) ∙ ap (λ (t : Bool). p y && t) (all-snoc s x)

  all_drop : (n : ℕ) (s : List ℕ) → all p s ≡ true → all p (drop n s) ≡ true
  all_drop zero s h = h
  all_drop (suc n) [] h = h
  all_drop (suc n) (b ∷ s) h = all_drop n s (and_right (p b) (all p s) h)

  pub all-later : (s : List ℕ) (i j : ℕ) → i ≤ j → all p (drop i s) ≡ true → all p (drop j s) ≡ true
  all-later s i j h k = let e : i + (j - i) ≡ j = omega arith in rw (drop-drop, e) at (all_drop (j - i) (drop i s) k)
