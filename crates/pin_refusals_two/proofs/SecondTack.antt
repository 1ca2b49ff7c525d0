-- The second tack's refusal, behind the first's tests.
use mathlib.Core.Path.{◌≡◌, sym, ◌∙◌}
use mathlib.Core.Bool.{Bool, false, cond}
use mathlib.Core.List.{List, ◌++◌}
use mathlib.Core.Option.{none, some}
use Prim.Native.Nat.{ℕ}
use Rattle.pin_model.specs.Refusals.{first}
use Rattle.pin_model.proofs.First.{first-here, first-later}

pub second-refused : (twice : Bool) (of_first of_second last : List (Bool × ℕ)) {n : ℕ} → twice ≡ false → none ≡ first of_first → some n ≡ first of_second
    → some n ≡ cond twice (some 24) (first ((of_first ++ of_second) ++ last))
second-refused twice of_first of_second last {n} e passed d =
    rw e (sym (first-here (of_first ++ of_second) last n (first-later of_first of_second (sym passed) ∙ sym d)))
