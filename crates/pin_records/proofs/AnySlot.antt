-- A test of every slot in turn, by the records in them.
use mathlib.Core.Path.{◌≡◌, refl, ap, ◌∙◌}
use mathlib.Core.Bool.{Bool, true, false, not, ◌&&◌, ◌||◌}
use mathlib.Core.List.{List, [], ◌∷◌}
use mathlib.Core.Option.{Option, none, some}
use Prim.Native.Nat.{ℕ, zero, suc}
use native.Mathlib.Omega.{arith}
use lib.ListN.{length, get_or}
use Rattle.octets.specs.Octets.{any}
use Rattle.octets.specs.Search as search
use Rattle.pin_model.specs.Slots.{used}
use Rattle.pin_model.specs.Fits.{holds}

pub any-slot : {A : Type 0} (p : A → Bool) (l : List (Option A)) (n : ℕ) → length l ≡ n → search.some (λ i. holds p (get_or l i none)) n ≡ any p (used l)
unfolding search.some
any-slot p [] zero e = refl
any-slot p [] (suc n) e = absurd (omega arith)
any-slot p (x ∷ l) zero e = absurd (omega arith)
any-slot p (none ∷ l) (suc n) e = any-slot p l n (omega arith)
any-slot p (some a ∷ l) (suc n) e = ap (λ (b : Bool). p a || b) (any-slot p l n (omega arith))

-- all tests fail where none passes
pub every-not : (q : ℕ → Bool) (n : ℕ) → search.every (λ i. not (q i)) n ≡ not (search.some q n)
unfolding search.every search.some
every-not q zero = refl
every-not q (suc n) = ap (λ (b : Bool). not (q zero) && b) (every-not (λ i. q (suc i)) n) ∙ de_morgan (q zero) (search.some (λ i. q (suc i)) n)
  where
    de_morgan : (a b : Bool) → (not a && not b) ≡ not (a || b)
    de_morgan true b = refl
    de_morgan false b = refl
