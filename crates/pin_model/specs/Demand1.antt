-- Demand 1: 'Any bytes, any clock, any table: each call ends with an answer or a numbered refusal from document 01. A refusal
-- changes nothing in the table. A full table never refuses a connection.' By document 02, Q-4, 23 of edition one changes one floor.
use Rattle.std.specs.Prelude.{◌≡◌, Bool, true, false, cond, not, ◌&&◌, List, [], ◌∷◌, ◌++◌, map, ℕ, eqb, leb, get_or}
use Rattle.octets.specs.Octets.{Bytes, any}
use Rattle.pin_model.specs.Table.{Table}
use Rattle.pin_model.specs.Layout.{decode}
use Rattle.pin_model.specs.Sound.{sound}
use Rattle.pin_model.specs.Calls.{Call, judge, judge_two, delete, inspect, start, in_two, tacks_of_call, is_verdict, answered, area_left}
use Rattle.pin_model.specs.OneFloor.{floor_for, is_floor_of, floors_raised}

-- 'What each number says', 0 to 7: the answers of a call that isn't refused. 4 is 'name not recorded', of inspection too.
abbrev pub results_of : Call → List ℕ
results_of (judge c) = 0 ∷ 1 ∷ 2 ∷ []
results_of (judge_two c) = 0 ∷ 1 ∷ 2 ∷ []
results_of (delete name) = 3 ∷ 4 ∷ []
results_of (inspect second name clock) = 4 ∷ 5 ∷ 6 ∷ []
results_of (start two) = 7 ∷ []

-- 'Deletion uses 10-12, inspection 10-13, starting 10 only', judging 10-23 and 27; in edition two 24 and no 17 (document 02, Q-3)
abbrev pub refusals_of : Call → List ℕ
refusals_of (judge c) = 10 ∷ 11 ∷ 12 ∷ 13 ∷ 14 ∷ 15 ∷ 16 ∷ 17 ∷ 18 ∷ 19 ∷ 20 ∷ 21 ∷ 22 ∷ 23 ∷ 27 ∷ []
refusals_of (judge_two c) = 10 ∷ 11 ∷ 12 ∷ 13 ∷ 14 ∷ 15 ∷ 16 ∷ 18 ∷ 19 ∷ 20 ∷ 21 ∷ 22 ∷ 23 ∷ 24 ∷ 27 ∷ []
refusals_of (delete name) = 10 ∷ 11 ∷ 12 ∷ []
refusals_of (inspect second name clock) = 10 ∷ 11 ∷ 12 ∷ 13 ∷ []
refusals_of (start two) = 10 ∷ []

-- 'an answer or a numbered refusal': every number that a call may be answered
abbrev pub numbers_of : Call → List ℕ
numbers_of call = results_of call ++ refusals_of call

-- whether a number is one of a list
abbrev pub is_one_of : List ℕ → ℕ → Bool
is_one_of numbers n = any (λ m. eqb m n) numbers

-- 'What each number says', from 10 on
abbrev pub is_refusal : ℕ → Bool
is_refusal n = leb 10 n

-- 'Mend it for edition one: 23 changes that floor and nothing else' (document 02, Q-4)
abbrev pub expired_in_one : Call → ℕ → Bool
expired_in_one call n = not (in_two call) && eqb n 23

-- what the refusals of a call ask of a table: its edition, its latest clock, and the floors of the keys that the call shows. They
-- ask neither for its names nor for its free slots.
pub record AskedAlike (call : Call) (t u : Table) : Type 0 where
  pub editions : t.two ≡ u.two
  pub latest : t.latest ≡ u.latest
  pub floors : map (floor_for t) (tacks_of_call call) ≡ map (floor_for u) (tacks_of_call call)

-- 'each call ends with an answer or a numbered refusal'; 'A refusal changes nothing in the table', but for 23 of edition one, which
-- changes one floor and, byte by byte, nothing else (there the list must be one of bytes: of others `encode` does not give back what
-- `decode` read); 'A full table never refuses a connection': where there is no room the call has a verdict, and on a sound table no
-- refusal comes of the room that is left
pub record Demand1 (call : Call) (b : List ℕ) : Type 0 where
  pub numbered : is_one_of (numbers_of call) (answered call b).number ≡ true
  pub unchanged : is_refusal (answered call b).number ≡ true → (expired_in_one call (answered call b).number ≡ true → Bytes b)
      → area_left call b ≡ cond (expired_in_one call (answered call b).number) (floors_raised (tacks_of_call call) b) b
  pub one_byte : expired_in_one call (answered call b).number ≡ true → Bytes b
      → (i : ℕ) → any (is_floor_of (decode b) i) (tacks_of_call call) ≡ false → get_or (area_left call b) i 0 ≡ get_or b i 0
  pub verdict_without_room : (answered call b).no_room ≡ true → is_verdict (answered call b).number ≡ true
  pub same_refusals : (other : List ℕ) → sound b ≡ true → sound other ≡ true → AskedAlike call (decode b) (decode other)
      → is_refusal (answered call b).number ≡ true → answered call other ≡ answered call b
