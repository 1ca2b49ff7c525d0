-- Where records stand among the slots. Cited by the functions between the open ones and the bytes: a reader of the open
-- contracts can skip this file.
use Rattle.std.specs.Prelude.{Bool, true, false, cond, List, [], ◌∷◌, ℕ, suc, ltb, Some, None}
use Rattle.std.specs.Prelude as answer
use Rattle.std.proofs.Math.Option.{Option, none, some}
use Rattle.pin_model.specs.Table.{NameRecord}

module _ {A : Type 0} where
  abbrev pub is_free : Option A → Bool
  is_free none = true
  is_free (some a) = false

  -- the first slot that passes the test, or the number of slots
  unfoldable pub first_slot : (Option A → Bool) → List (Option A) → ℕ
  first_slot p [] = 0
  first_slot p (s ∷ slots) = cond (p s) 0 (suc (first_slot p slots))

  -- the second that does
  unfoldable pub second_slot : (Option A → Bool) → List (Option A) → ℕ
  second_slot p [] = 0
  second_slot p (s ∷ slots) = suc (cond (p s) (first_slot p slots) (second_slot p slots))

-- a place below the number of slots
unfoldable pub slot_found : ℕ → ℕ → answer.Option ℕ
slot_found count k = cond (ltb k count) (Some k) None

-- what stands in a slot, where it is used
abbrev pub initial_at : Option NameRecord → ℕ
initial_at none = 0
initial_at (some r) = r.initial

abbrev pub end_at : Option NameRecord → Option ℕ
end_at none = none
end_at (some r) = r.end
