-- Whether the tacks of a call show the key of a record. Cited by the functions below the open one: a reader of the open contract can
-- skip this file.
use Rattle.std.specs.Prelude.{Bool, List}
use Rattle.pin_model.specs.Table.{NameRecord}
use Rattle.pin_model.specs.Connection.{Shown, key_shown, key_enabled}

-- whether a tack shows the key of a record, and whether one that is enabled does
abbrev pub shown_for : List Shown → NameRecord → Bool
shown_for tacks r = key_shown tacks r.key

abbrev pub enabled_for : List Shown → NameRecord → Bool
enabled_for tacks r = key_enabled tacks r.key
