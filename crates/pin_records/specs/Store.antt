-- Records as the stores write them. Cited by the functions between the open ones and the bytes: a reader of the open contracts
-- can skip this file.
use Rattle.std.specs.Prelude.{◌≡◌, Bool, false, List, ℕ, ◌<◌, set}
use Rattle.std.proofs.Math.Option.{Option, none, some}
use Rattle.octets.specs.Octets.{any}
use Rattle.pin_model.specs.Slots.{count, used}
use Rattle.pin_model.specs.Table.{KeyRecord, key_record, NameRecord, name_record, name_is, pin_is, records_of_a_name}

-- a used slot with another floor, or another end
abbrev pub with_floor : ℕ → Option KeyRecord → Option KeyRecord
with_floor m none = none
with_floor m (some k) = some (key_record k.key m)

abbrev pub with_end : ℕ → Option NameRecord → Option NameRecord
with_end e none = none
with_end e (some r) = some (name_record r.name r.key r.initial (some e))

-- slot n may take a record of the name and the key: of the other slots fewer have the name than the edition allows, and none has
-- both
pub record Fresh (two : Bool) (name key : List ℕ) (n : ℕ) (names : List (Option NameRecord)) : Type 0 where
  pub fewer : count (name_is name) (used (set names n none)) < records_of_a_name two
  pub unpinned : any (pin_is name key) (used (set names n none)) ≡ false
