-- The numbers of each call: its refusals and its results are those of its lists.
use mathlib.Core.Path.{◌≡◌, refl, sym, ◌∙◌, subst}
use mathlib.Core.Bool.{Bool, true, false, cond, not, ◌&&◌, ◌||◌, false≢true}
use mathlib.Core.List.{List, [], ◌∷◌, ◌++◌, append_assoc}
use mathlib.Core.Option.{Option, none, some}
use Prim.Native.Nat.{ℕ}
use lib.Dec.{eqb}
use lib.ListN.{drop}
use borrow.Author.Tests.{eqb-true, not-true}
use Rattle.octets.specs.Octets.{all, any}
use Rattle.octets.proofs.Tests.{and_left, and_right}
use Rattle.pin_model.specs.Slots.{used}
use Rattle.pin_model.specs.Table.{KeyRecord, NameRecord, Table, name_is, name_recorded}
use Rattle.pin_model.specs.Layout.{decode}
use Rattle.pin_model.specs.Connection.{Connection, tack_shown, shows, ConnectionTwo, tacks_shown}
use Rattle.pin_model.specs.Refusals.{tack_tests, part_tests}
use Rattle.pin_model.specs.Judge.{active_of, judged, verdict}
use Rattle.pin_model.specs.JudgeTwo.{raised_two, contradicted, verdict_two}
use Rattle.pin_model.specs.Calls.{Call, judge, judge_two, delete, inspect, start, is_verdict, Answer, plain, area_tests_of, table_tests_of, tests_of, refusal, floor_of, inspected_with, inspected_in, inspected_second, inspected_by, unrefused}
use Rattle.pin_model.specs.Demand1.{results_of, refusals_of, is_one_of, is_refusal}
use Rattle.pin_model.proofs.Lists.{cond_either, any-drop, all-implied, all_append}
use Rattle.pin_model.proofs.First.{first-number}
use Rattle.pin_model.proofs.TableCalls.{table_refusal}

-- what every number of a list passes, each of them does
pub one_of : (q : ℕ → Bool) (numbers : List ℕ) (n : ℕ) → all q numbers ≡ true → is_one_of numbers n ≡ true → q n ≡ true
one_of q [] n h e = absurd (false≢true e)
one_of q (m ∷ numbers) n h e = go (eqb m n) refl e (one_of q numbers n (and_right (q m) (all q numbers) h))
  where
    go : (b : Bool) → eqb m n ≡ b → (b || is_one_of numbers n) ≡ true → (is_one_of numbers n ≡ true → q n ≡ true) → q n ≡ true
    go true d f ih = subst (λ (k : ℕ). q k ≡ true) (eqb-true m n d) (and_left (q m) (all q numbers) h)
    go false d f ih = ih f

-- the tests of a table: 10 and 11 are of the area
abbrev pub table_numbers : Call → List ℕ
table_numbers call = drop 2 (refusals_of call)

module _ (numbers : List ℕ) where
  abbrev Listed : List (Bool × ℕ) → Type 0
  Listed tests = all (λ x. is_one_of numbers x.1) tests ≡ true

tack-listed : (c : Connection) (t : Table) (o : Option (List ℕ))
    → Listed (table_numbers (judge c)) (tack_tests c.clock c.hash c.checks t o)
tack-listed c t none = refl
tack-listed c t (some tack) = refl

abbrev listed_two : ConnectionTwo → List (Bool × ℕ) → Bool
listed_two c tests = all (λ x. is_one_of (table_numbers (judge_two c)) x.1) tests

part-listed : (c : ConnectionTwo) (is_point is_correct : Bool) (bytes : List ℕ) (later : List (Bool × ℕ))
    → listed_two c (part_tests c.clock c.hash is_point is_correct bytes ++ later) ≡ listed_two c later
part-listed c is_point is_correct [] later = refl
part-listed c is_point is_correct (b ∷ bs) later = refl

table-listed : (call : Call) (t : Table) → Listed (table_numbers call) (table_tests_of call t)
table-listed (judge c) t = tack-listed c t (tack_shown c)
table-listed (judge_two c) t = simp (append_assoc, part-listed)
table-listed (delete name) t = refl
table-listed (inspect second name clock) t = refl
table-listed (start two) t = refl

pub table-refusal : (q : ℕ → Bool) (call : Call) (t : Table) (n : ℕ) → all q (table_numbers call) ≡ true
    → table_refusal call t ≡ some n → q n ≡ true
unfolding table_refusal
table-refusal q call t n h e =
    one_of q (table_numbers call) n h (first-number (is_one_of (table_numbers call)) (table_tests_of call t) n (table-listed call t) e)

-- the tests of the area stand before them
area-listed : (call : Call) (b : List ℕ) → Listed (refusals_of call) (area_tests_of call b)
area-listed (judge c) b = refl
area-listed (judge_two c) b = refl
area-listed (delete name) b = refl
area-listed (inspect second name clock) b = refl
area-listed (start two) b = refl

pub refusal-listed : (call : Call) (b : List ℕ) (n : ℕ) → refusal call b ≡ some n → is_one_of (refusals_of call) n ≡ true
unfolding refusal
refusal-listed call b n e =
    first-number (is_one_of (refusals_of call)) (tests_of call b) n
    (all_append (λ x. is_one_of (refusals_of call) x.1) (area_tests_of call b) (table_tests_of call (decode b)) (area-listed call b)
    (all-implied (λ x. is_one_of (table_numbers call) x.1) (λ x. is_one_of (refusals_of call) x.1)
    (λ x. any-drop (λ m. eqb m x.1) 2 (refusals_of call)) (table_tests_of call (decode b)) (table-listed call (decode b))))
    e

-- 'Verdicts are 0, 1 and 2'
abbrev verdicts : List ℕ
verdicts = 0 ∷ 1 ∷ 2 ∷ []

verdict-listed : (c : Connection) (t : Table) → is_one_of verdicts (verdict c t) ≡ true
unfolding verdict
verdict-listed c t =
    let Right : ℕ → Type 0 = λ n. is_one_of verdicts n ≡ true in
    let shown = any (λ r. active_of c.name c.clock r && shows (tack_shown c) r.key) (used t.names) in
    cond_either Right (any (active_of c.name c.clock) (used t.names)) (cond shown 1 2) 0
    (cond_either Right shown 1 2 refl refl) refl

verdict-two-listed : (c : ConnectionTwo) (t : Table) → is_one_of verdicts (verdict_two c t) ≡ true
unfolding verdict_two
verdict-two-listed c t =
    let Right : ℕ → Type 0 = λ n. is_one_of verdicts n ≡ true in
    let pinned = any (active_of c.name c.clock) (used (raised_two c t).names) in
    cond_either Right (contradicted c.name c.clock (tacks_shown c) (raised_two c t)) 2 (cond pinned 1 0)
    refl (cond_either Right pinned 1 0 refl refl)

pub verdict-number : (c : Connection) (t : Table) → is_verdict (verdict c t) ≡ true
verdict-number c t = one_of is_verdict verdicts (verdict c t) refl (verdict-listed c t)

pub verdict-two-number : (c : ConnectionTwo) (t : Table) → is_verdict (verdict_two c t) ≡ true
verdict-two-number c t = one_of is_verdict verdicts (verdict_two c t) refl (verdict-two-listed c t)

-- in edition two it is 2 exactly if contradicted
pub verdict-is-2 : (c : ConnectionTwo) (t : Table)
    → contradicted c.name c.clock (tacks_shown c) (raised_two c t) ≡ eqb (verdict_two c t) 2
unfolding verdict_two
verdict-is-2 c t =
    go (contradicted c.name c.clock (tacks_shown c) (raised_two c t))
    (any (active_of c.name c.clock) (used (raised_two c t).names))
  where
    go : (a b : Bool) → a ≡ eqb (cond a 2 (cond b 1 0)) 2
    go true b = refl
    go false true = refl
    go false false = refl

-- an inspection answers 4, or 5 or 6 with a record's fields
module _ (P : Answer → Type 0) (None-found : P (plain 4)) (clock : ℕ)
    (found : (floor initial : ℕ) (end : Option ℕ) → P (inspected_with clock floor initial end))
    (name : List ℕ) (keys : List KeyRecord) where
  inspected-either : (names : List NameRecord) → P (inspected_in name clock keys names)
  inspected-either [] = None-found
  inspected-either (r ∷ rs) =
      cond_either P (name_is name r) (inspected_with clock (floor_of r.key keys) r.initial r.end)
      (inspected_in name clock keys rs) (found (floor_of r.key keys) r.initial r.end) (inspected-either rs)

  second-either : (names : List NameRecord) → P (inspected_second name clock keys names)
  second-either [] = None-found
  second-either (r ∷ rs) =
      cond_either P (name_is name r) (inspected_in name clock keys rs) (inspected_second name clock keys rs)
      (inspected-either rs) (second-either rs)

  by-either : (second : Bool) (names : List NameRecord) → P (inspected_by second name clock keys names)
  by-either false = inspected-either
  by-either true = second-either

-- a call that isn't refused
pub result-listed : (call : Call) (t : Table) → is_one_of (results_of call) (unrefused call t).number ≡ true
result-listed (judge c) t = verdict-listed c (judged c t)
result-listed (judge_two c) t = verdict-two-listed c t
result-listed (delete name) t = cond_either (λ (n : ℕ). is_one_of (3 ∷ 4 ∷ []) n ≡ true) (name_recorded name t) _ _ refl refl
result-listed (inspect second name clock) t =
    by-either (λ a. is_one_of (4 ∷ 5 ∷ 6 ∷ []) a.number ≡ true) refl clock found name (used t.keys) second (used t.names)
  where
    found : (floor initial : ℕ) (end : Option ℕ) → is_one_of (4 ∷ 5 ∷ 6 ∷ []) (inspected_with clock floor initial end).number ≡ true
    found floor initial none = refl
    found floor initial (some end) = refl
result-listed (start two) t = refl

-- and "no room" is a judgement's
pub result-room : (call : Call) (t : Table) → (unrefused call t).no_room ≡ true → is_verdict (unrefused call t).number ≡ true
result-room (judge c) t e = verdict-number c (judged c t)
result-room (judge_two c) t e = verdict-two-number c t
result-room (delete name) t e = absurd (false≢true e)
result-room (inspect second name clock) t e =
    absurd (false≢true (sym (by-either (λ a. a.no_room ≡ false) refl clock found name (used t.keys) second (used t.names)) ∙ e))
  where
    found : (floor initial : ℕ) (end : Option ℕ) → (inspected_with clock floor initial end).no_room ≡ false
    found floor initial none = refl
    found floor initial (some end) = refl
result-room (start two) t e = absurd (false≢true e)

-- 0 to 7 are results, 10 and above refusals
results-low : (call : Call) → all (λ n. not (is_refusal n)) (results_of call) ≡ true
results-low (judge c) = refl
results-low (judge_two c) = refl
results-low (delete name) = refl
results-low (inspect second name clock) = refl
results-low (start two) = refl

pub result_low : (call : Call) (t : Table) → is_refusal (unrefused call t).number ≡ false
result_low call t =
    not-true (is_refusal (unrefused call t).number)
    (one_of (λ n. not (is_refusal n)) (results_of call) (unrefused call t).number (results-low call) (result-listed call t))
