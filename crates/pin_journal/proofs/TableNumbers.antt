-- The numbers of a call on a table: no refusal is a verdict, and no call is answered 10 or 11.
use mathlib.Core.Path.{◌≡◌, refl, sym, ◌∙◌}
use mathlib.Core.Bool.{Bool, true, false, not, ◌||◌, true≢false}
use mathlib.Core.Option.{Option, none, some}
use Prim.Native.Nat.{ℕ, ◌<◌}
use native.Mathlib.Omega.{arith}
use lib.Dec.{eqb}
use borrow.Author.Tests.{leb-false, not-true, ne_eqb}
use Rattle.octets.specs.Octets.{all}
use Rattle.pin_model.specs.Table.{Table}
use Rattle.pin_model.specs.Calls.{Call, in_two, judge, judge_two, delete, inspect, start, is_verdict, unrefused, answer_by}
use Rattle.pin_model.specs.Demand1.{is_refusal}
use Rattle.pin_model.proofs.Numbers.{table_numbers, table-refusal, result_low}
use Rattle.pin_model.proofs.TableCalls.{table_refusal, table_answer}

no-verdicts : (call : Call) → all (λ n. not (is_verdict n)) (table_numbers call) ≡ true
no-verdicts (judge c) = refl
no-verdicts (judge_two c) = refl
no-verdicts (delete name) = refl
no-verdicts (inspect second name clock) = refl
no-verdicts (start two) = refl

pub refused-number : (call : Call) (t : Table) (n : ℕ) → table_refusal call t ≡ some n → is_verdict n ≡ false
refused-number call t n e = not-true (is_verdict n) (table-refusal (λ m. not (is_verdict m)) call t n (no-verdicts call) e)

pub verdict-passed : (call : Call) (t : Table) → is_verdict (table_answer call t).number ≡ true → table_refusal call t ≡ none
unfolding table_answer
verdict-passed call t e = go (table_refusal call t) refl e
  where
    go : (o : Option ℕ) → table_refusal call t ≡ o → is_verdict (answer_by (in_two call) o (unrefused call t)).number ≡ true → o ≡ none
    go none d h = refl
    go (some n) d h = absurd (true≢false (sym h ∙ refused-number call t n d))

-- 'area isn't 39,432 bytes', 'table damaged'
abbrev pub of_the_area : ℕ → Bool
of_the_area n = eqb n 10 || eqb n 11

others : (call : Call) → all (λ n. not (of_the_area n)) (table_numbers call) ≡ true
others (judge c) = refl
others (judge_two c) = refl
others (delete name) = refl
others (inspect second name clock) = refl
others (start two) = refl

low-not : (n : ℕ) → is_refusal n ≡ false → of_the_area n ≡ false
low-not n e =
    let low : n < 10 = leb-false 10 n e in
    rw (ne_eqb n 10 (λ d. omega arith), ne_eqb n 11 (λ d. omega arith))

pub table-number-not : (call : Call) (t : Table) → of_the_area (table_answer call t).number ≡ false
unfolding table_answer
table-number-not call t = go (table_refusal call t) refl
  where
    go : (o : Option ℕ) → table_refusal call t ≡ o → of_the_area (answer_by (in_two call) o (unrefused call t)).number ≡ false
    go none e = low-not (unrefused call t).number (result_low call t)
    go (some n) e = not-true (of_the_area n) (table-refusal (λ m. not (of_the_area m)) call t n (others call) e)
