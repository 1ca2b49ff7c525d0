-- What a step does to one slot, or to the key slots alone. Cited by the functions below the open one: a reader of the open contract can
-- skip this file.
use Rattle.std.specs.Prelude.{Bool, List, [], ℕ}
use Rattle.std.proofs.Math.Option.{Option, none, some}
use Rattle.pin_model.specs.Table.{KeyRecord, NameRecord, Table, holding}
use Rattle.pin_model.specs.Connection.{unless_empty, shows}
use Rattle.pin_model.specs.Judge.{extended_to}

-- the record of a slot with its end by step 2(i)
abbrev pub extended_at : ℕ → Option NameRecord → Option NameRecord
extended_at clock none = none
extended_at clock (some r) = some (extended_to clock r)

-- the key that a used name slot is pinned to
abbrev pub key_of_name : Option NameRecord → List ℕ
key_of_name none = []
key_of_name (some r) = r.key

-- a table with other key slots
abbrev pub with_keys : List (Option KeyRecord) → Table → Table
with_keys keys t = holding t keys t.names

-- whether a record's key is that of the tack
abbrev pub shown_for : List ℕ → NameRecord → Bool
shown_for tack r = shows (unless_empty tack) r.key
