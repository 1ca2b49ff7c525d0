-- Inspection of one slot. Cited by private functions alone: a reader of the open contracts can skip this file.
use Rattle.std.specs.Prelude.{Bool, true, false, List, ℕ}
use Rattle.std.proofs.Math.Option.{Option, none, some}
use Rattle.pin_model.specs.Slots.{used}
use Rattle.pin_model.specs.Table.{KeyRecord, NameRecord, name_is}
use Rattle.pin_model.specs.Fits.{holds}
use Rattle.pin_model.specs.Calls.{Answer, plain, floor_of, inspected_with}
use Rattle.pin_records.specs.Find.{first_slot, second_slot}

-- the slot of a name's first record, or of its second
abbrev pub record_slot : Bool → List ℕ → List (Option NameRecord) → ℕ
record_slot false name names = first_slot (holds (name_is name)) names
record_slot true name names = second_slot (holds (name_is name)) names

abbrev pub inspected_slot : ℕ → List (Option KeyRecord) → Option NameRecord → Answer
inspected_slot clock keys none = plain 4
inspected_slot clock keys (some r) = inspected_with clock (floor_of r.key (used keys)) r.initial r.end
