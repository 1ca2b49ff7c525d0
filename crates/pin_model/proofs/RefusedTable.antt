-- What a refusal leaves of a table: the table as it was, but for 23 of edition one, which takes step 1.
use mathlib.Core.Path.{◌≡◌, refl, ap}
use mathlib.Core.Bool.{Bool, true, false, cond}
use mathlib.Core.List.{List}
use mathlib.Core.Option.{Option, none, some}
use Prim.Native.Nat.{ℕ}
use lib.Dec.{eqb}
use Rattle.pin_model.specs.Table.{Table}
use Rattle.pin_model.specs.Layout.{encode, decode}
use Rattle.pin_model.specs.Connection.{tack_shown}
use Rattle.pin_model.specs.Judge.{raise, raise_shown}
use Rattle.pin_model.specs.Calls.{Call, judge, judge_two, delete, inspect, start, refused_area}
use Rattle.pin_model.proofs.Lists.{cond_either}

abbrev pub refused_table : Call → ℕ → Table → Table
refused_table (judge c) n t = cond (eqb n 23) (raise_shown (tack_shown c) t) t
refused_table (judge_two c) n t = t
refused_table (delete name) n t = t
refused_table (inspect second name clock) n t = t
refused_table (start two) n t = t

-- what step 1 keeps, a refusal keeps
module _ (P : Table → Type 0) (t : Table) (before : P t) (raised : (tack : List ℕ) → P (raise tack t)) where
  shown-keeps : (shown : Option (List ℕ)) → P (raise_shown shown t)
  shown-keeps none = before
  shown-keeps (some tack) = raised tack

  pub refused-keeps : (call : Call) (n : ℕ) → P (refused_table call n t)
  refused-keeps (judge c) n = cond_either P (eqb n 23) (raise_shown (tack_shown c) t) t (shown-keeps (tack_shown c)) before
  refused-keeps (judge_two c) n = before
  refused-keeps (delete name) n = before
  refused-keeps (inspect second name clock) n = before
  refused-keeps (start two) n = before

-- the area that a refusal leaves is the one that was, or that of such a table
pub refused-area-either : (P : List ℕ → Type 0) (call : Call) (n : ℕ) (b : List ℕ) → P b → P (encode (refused_table call n (decode b)))
    → P (refused_area call n b)
refused-area-either P (judge c) n b same other = go (eqb n 23) other
  where
    raised : Table
    raised = raise_shown (tack_shown c) (decode b)

    go : (expired : Bool) → P (encode (cond expired raised (decode b))) → P (cond expired (encode raised) b)
    go true h = h
    go false h = same
refused-area-either P (judge_two c) n b same other = same
refused-area-either P (delete name) n b same other = same
refused-area-either P (inspect second name clock) n b same other = same
refused-area-either P (start two) n b same other = same

-- of an area that is a table's encoding it is always the latter
pub refused-encoded : (call : Call) (n : ℕ) (t : Table) → decode (encode t) ≡ t → refused_area call n (encode t) ≡ encode (refused_table call n t)
refused-encoded (judge c) n t e = go (eqb n 23)
  where
    go : (expired : Bool) → cond expired (encode (raise_shown (tack_shown c) (decode (encode t)))) (encode t) ≡ encode (cond expired (raise_shown (tack_shown c) t) t)
    go true = ap (λ (u : Table). encode (raise_shown (tack_shown c) u)) e
    go false = refl
refused-encoded (judge_two c) n t e = refl
refused-encoded (delete name) n t e = refl
refused-encoded (inspect second name clock) n t e = refl
refused-encoded (start two) n t e = refl
