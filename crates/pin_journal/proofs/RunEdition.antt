-- 'Demand 3's list may begin with either empty table, and a start in it sets the edition' (document 02, Q-3).
use mathlib.Core.Path.{◌≡◌, refl, sym, ◌∙◌, ap}
use mathlib.Core.Bool.{Bool}
use mathlib.Core.List.{List, [], ◌∷◌}
use mathlib.Core.Option.{Option, none, some}
use Prim.Native.Nat.{ℕ}
use Rattle.pin_model.specs.Table.{Table}
use Rattle.pin_model.specs.Layout.{of_two}
use Rattle.pin_model.specs.Calls.{Call, judge, judge_two, delete, inspect, start, folded}
use Rattle.pin_model.specs.Run.{area_of}
use Rattle.pin_model.proofs.Editions.{edition_after, after-edition}
use Rattle.pin_model.proofs.RefusedTable.{refused-keeps}
use Rattle.pin_model.proofs.TableCalls.{table_refusal, table_by, table_next}
use Rattle.pin_journal.proofs.TableRun.{table_run}
use Rattle.pin_journal.proofs.Run.{table-run}

-- that of the latest start, or the one that the list began with
abbrev pub edition_of : Bool → List Call → Bool
edition_of two [] = two
edition_of two (call ∷ calls) = edition_after call (edition_of two calls)

-- a refusal keeps the edition, and a call that may be refused here is no start
next-kept : (call : Call) (t : Table) → edition_after call t.two ≡ t.two → (table_next call t).two ≡ edition_after call t.two
unfolding table_next
next-kept call t same = go (table_refusal call t)
  where
    go : (o : Option ℕ) → (table_by call o t).two ≡ edition_after call t.two
    go none = after-edition call t
    go (some n) = refused-keeps (λ u. u.two ≡ t.two) t refl (λ tack. refl) call n ∙ sym same

next-edition : (call : Call) (t : Table) → (table_next call t).two ≡ edition_after call t.two
unfolding table_next table_refusal
next-edition (judge c) t = next-kept (judge c) t refl
next-edition (judge_two c) t = next-kept (judge_two c) t refl
next-edition (delete name) t = next-kept (delete name) t refl
next-edition (inspect second name clock) t = next-kept (inspect second name clock) t refl
next-edition (start edition) t = refl

folded-edition : (call : Call) (two : Bool) → edition_after (folded call) two ≡ edition_after call two
folded-edition (judge c) two = refl
folded-edition (judge_two c) two = refl
folded-edition (delete name) two = refl
folded-edition (inspect second name clock) two = refl
folded-edition (start edition) two = refl

run-edition : (two : Bool) (calls : List Call) → (table_run two calls).two ≡ edition_of two calls
unfolding table_run
run-edition two [] = refl
run-edition two (call ∷ calls) =
    next-edition (folded call) (table_run two calls) ∙ folded-edition call (table_run two calls).two ∙ ap (edition_after call) (run-edition two calls)

pub area-edition : (two : Bool) (calls : List Call) → of_two (area_of two calls) ≡ edition_of two calls
area-edition two calls = ap (λ (t : Table). t.two) (table-run two calls) ∙ run-edition two calls
