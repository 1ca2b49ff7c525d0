-- The invariant of a run, and what keeps it: nothing done, a judgement with a verdict, an expired tack, a deletion, a start.
use mathlib.Core.Path.{◌≡◌, refl, sym, ◌∙◌, ap, subst}
use mathlib.Core.Bool.{Bool, true, false, cond, false≢true}
use mathlib.Core.List.{List, [], ◌∷◌}
use Prim.Native.Nat.{ℕ, ◌≤◌, max}
use native.Mathlib.Omega.{arith}
use lib.Dec.{eqb}
use borrow.Author.Tests.{eqb-true}
use Rattle.pin_model.specs.Table.{clock_limit, Table, empty, without}
use Rattle.pin_model.specs.Connection.{Connection, tack_shown, enabled, may_record, broken_keys, ConnectionTwo, tacks_shown}
use Rattle.pin_model.specs.Judge.{raise_shown, judged}
use Rattle.pin_model.specs.JudgeTwo.{raised_two, contradicted, judged_two}
use Rattle.pin_model.specs.Calls.{Call, judge, judge_two, delete, start, is_verdict, tacks_of_call}
use Rattle.pin_model.proofs.Lists.{struck-any}
use Rattle.pin_model.proofs.SoundFacts.{SoundFacts}
use Rattle.pin_model.proofs.TwoFacts.{ConnectionTwoFacts}
use Rattle.pin_journal.specs.Journal.{Row, Entry, row_of, row_key, entered, unbroken, journal, stands, since, is_counted, highest, entered_two, shown_under}
use Rattle.pin_journal.proofs.Agreement.{Agrees, refloored}
use Rattle.pin_journal.proofs.Steps.{without-agrees}
use Rattle.pin_journal.proofs.Judging.{Learned, raised-learned, judged-learned}
use Rattle.pin_journal.proofs.JudgingTwo.{judged-two-learned}

abbrev pub Invariant : Table → List Entry → Type 0
Invariant t entries = Agrees t (journal entries) (λ k. highest k (since k entries))

abbrev pub entry : Call → ℕ → Entry
entry call n = record { call = call; number = n }

-- what one call with its number showed under a key
abbrev pub shown_by : List ℕ → Entry → ℕ
shown_by k e = cond (is_counted e.call e.number) (shown_under k (tacks_of_call e.call)) 0

-- 'since that record was made, the making call included', one call later
pub highest-since : (k : List ℕ) (e : Entry) (es : List Entry) → stands k (journal (e ∷ es)) ≡ true
    → highest k (since k (e ∷ es)) ≡ max (shown_by k e) (cond (stands k (journal es)) (highest k (since k es)) 0)
unfolding since
highest-since k e es h =
    ap (λ (b : Bool). highest k (cond b (e ∷ cond (stands k (journal es)) (since k es) []) [])) h ∙ go (stands k (journal es))
  where
    go : (b : Bool) → max (shown_by k e) (highest k (cond b (since k es) [])) ≡ max (shown_by k e) (cond b (highest k (since k es)) 0)
    go true = refl
    go false = refl

-- the invariant after one more call, from its floors
invariant-after : (t : Table) (e : Entry) (es : List Entry) (floor : List ℕ → ℕ) → Agrees t (journal (e ∷ es)) floor
    → ((k : List ℕ) → stands k (journal (e ∷ es)) ≡ true
    → floor k ≡ max (shown_by k e) (cond (stands k (journal es)) (highest k (since k es)) 0))
    → Invariant t (e ∷ es)
invariant-after t e es floor agrees h =
    refloored agrees (λ k. highest k (since k (e ∷ es))) (λ k stood. h k stood ∙ sym (highest-since k e es stood))

-- a call that changes neither the table nor the rows, and showed nothing
pub idle : (t : Table) (e : Entry) (es : List Entry) → Invariant t es → journal (e ∷ es) ≡ journal es → ((k : List ℕ) → shown_by k e ≡ 0)
    → Invariant t (e ∷ es)
idle t e es invariant rows nothing =
    invariant-after t e es (λ k. highest k (since k es))
    (subst (λ (r : List Row). Agrees t r (λ k. highest k (since k es))) (sym rows) invariant)
    (λ k stood. rw (nothing k, sym (ap (stands k) rows) ∙ stood) (omega arith))

-- 'It begins empty.'
pub begin : (two : Bool) → Invariant (empty two) []
unfolding journal since
begin two =
    record {
      same_names = λ p. refl;
      same_floors = λ k p. refl;
    }

-- 'starting strikes all rows'
pub start-invariant : (two : Bool) (es : List Entry) → Invariant (empty two) (entry (start two) 7 ∷ es)
unfolding journal since
start-invariant two es = invariant-after (empty two) (entry (start two) 7) es (λ k. 0) (begin two) (λ k stood. absurd (false≢true stood))

-- 'Deletion strikes the name's row'
pub delete-invariant : (name : List ℕ) (t : Table) (es : List Entry) → Invariant t es → Invariant (without name t) (entry (delete name) 3 ∷ es)
unfolding journal
delete-invariant name t es invariant =
    invariant-after (without name t) (entry (delete name) 3) es (λ k. highest k (since k es)) (without-agrees name invariant)
    (λ k stood. rw (struck-any (row_key k) (row_of name) (journal es) stood) (omega arith))

-- a judged call that is counted: its rows, and what it leaves
learned-invariant : (call : Call) (n : ℕ) (after : Table) (rows_after : List Row) (es : List Entry)
    → journal (entry call n ∷ es) ≡ rows_after → is_counted call n ≡ true
    → Learned (tacks_of_call call) (journal es) (λ k. highest k (since k es)) after rows_after → Invariant after (entry call n ∷ es)
learned-invariant call n after rows_after es rows counted l =
    invariant-after after (entry call n) es l.floor_after
    (subst (λ (r : List Row). Agrees after r l.floor_after) (sym rows) l.agrees)
    (λ k stood.
    l.highest k (sym (ap (stands k) rows) ∙ stood)
    ∙ ap (λ (b : Bool). max (cond b (shown_under k (tacks_of_call call)) 0) (cond (stands k (journal es)) (highest k (since k es)) 0)) (sym counted))

-- 'Judging with a verdict'
pub judge-invariant : (c : Connection) (t : Table) (es : List Entry) (n : ℕ) → is_verdict n ≡ true → Invariant t es → SoundFacts t
    → t.two ≡ false → t.latest ≤ c.clock → c.clock ≤ clock_limit → Invariant (judged c t) (entry (judge c) n ∷ es)
unfolding journal
judge-invariant c t es n verdict invariant facts one in_order in_limit =
    learned-invariant (judge c) n (judged c t)
    (unbroken (broken_keys c) (entered (enabled c) (may_record c) c.name c.clock (tack_shown c) (journal es))) es (rw verdict) (rw verdict)
    (judged-learned c t (journal es) (λ k. highest k (since k es)) invariant facts one in_order in_limit)

-- 'an expired .. tack with a higher min_generation must raise the floor of a standing key record' (document 02, Q-4); no row changes
pub expired-invariant : (c : Connection) (t : Table) (es : List Entry) (n : ℕ) → is_verdict n ≡ false → eqb n 23 ≡ true → Invariant t es
    → Invariant (raise_shown (tack_shown c) t) (entry (judge c) n ∷ es)
unfolding journal
expired-invariant c t es n refused expired invariant =
    learned-invariant (judge c) n (raise_shown (tack_shown c) t) (journal es) es (rw refused)
    (ap (is_counted (judge c)) (eqb-true n 23 expired))
    (raised-learned (tack_shown c) t (journal es) (λ k. highest k (since k es)) invariant)

pub judge-two-invariant : (c : ConnectionTwo) (t : Table) (es : List Entry) (n : ℕ) → is_verdict n ≡ true → contradicted c.name c.clock (tacks_shown c) (raised_two c t) ≡ eqb n 2
    → Invariant t es → SoundFacts t → ConnectionTwoFacts c t → Invariant (judged_two c t) (entry (judge_two c) n ∷ es)
unfolding journal
judge-two-invariant c t es n verdict its invariant facts passed =
    learned-invariant (judge_two c) n (judged_two c t) (entered_two c.name c.clock (tacks_shown c) n (journal es)) es (rw verdict) (rw verdict)
    (judged-two-learned c t (journal es) (λ k. highest k (since k es)) invariant facts passed n its)
