-- The tally of a night: every answer has a count, so the counts are those of the list of answers.
use mathlib.Core.Path.{◌≡◌, refl, ap, ◌∙◌}
use mathlib.Core.Bool.{true, false}
use mathlib.Core.List.{List, [], ◌∷◌}
use Prim.Native.Nat.{ℕ, suc}
use lib.Dec.{ltb}
use lib.ListN.{length, get_or}
use Rattle.octets.specs.Octets.{all}
use Rattle.octets.proofs.Tests.{and_both}
use Rattle.tally.specs.Tally.{tallied, times, sum, none_full}
use Rattle.tally.proofs.Theorems.{each-exact, sum-is-calls}
use Rattle.pin_model.specs.Calls.{Call, judge, judge_two, delete, inspect, start}
use Rattle.pin_model.specs.Run.{area_of, number_of}
use Rattle.pin_model.specs.Demand1.{numbers_of}
use Rattle.pin_model.proofs.Demand1.{number-passes}
use Rattle.night_report.specs.Report.{numbers}

-- each number that a call may be answered has a count
numbers-count : (call : Call) → all (λ n. ltb n 32) (numbers_of call) ≡ true
numbers-count (judge c) = refl
numbers-count (judge_two c) = refl
numbers-count (delete name) = refl
numbers-count (inspect second name clock) = refl
numbers-count (start two) = refl

all-count : (calls : List Call) → all (λ n. ltb n 32) (numbers calls) ≡ true
unfolding numbers number_of
all-count [] = refl
all-count (call ∷ calls) = and_both _ _ (number-passes (λ n. ltb n 32) call (area_of false calls) (numbers-count call)) (all-count calls)

numbers-length : (calls : List Call) → length (numbers calls) ≡ length calls
unfolding numbers
numbers-length [] = refl
numbers-length (call ∷ calls) = ap (λ (n : ℕ). suc n) (numbers-length calls)

-- 'from zero, if none is full, its sum is the number of calls judged, and each count is the count in the list of answers'
pub record Exact (calls : List Call) : Type 0 where
  pub total : sum (tallied (numbers calls)) ≡ length calls
  pub each : (n : ℕ) → ltb n 32 ≡ true → get_or (tallied (numbers calls)) n 0 ≡ times n (numbers calls)

pub tally-exact : (calls : List Call) → none_full (tallied (numbers calls)) ≡ true → Exact calls
tally-exact calls h =
    record {
      total = sum-is-calls (numbers calls) (all-count calls) h ∙ numbers-length calls;
      each = λ n below. each-exact (numbers calls) n below h;
    }
