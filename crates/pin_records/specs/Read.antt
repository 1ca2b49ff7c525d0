-- What a record says, as the functions answer it. Cited by the functions between the open ones and the bytes: a reader of the
-- open contracts can skip this file.
use Rattle.std.specs.Prelude.{List, ℕ, Some, None}
use Rattle.std.specs.Prelude as answer
use Rattle.std.proofs.Math.Option.{Option, none, some}
use Rattle.pin_model.specs.Table.{KeyRecord, NameRecord}
use Rattle.pin_model.specs.Layout.{place_of}
use Rattle.pin_table.specs.declared.minutes.Minutes.{Minutes}

abbrev pub end_found : Option ℕ → answer.Option Minutes
end_found none = None
end_found (some end) = Some (record { 0 = end })

-- the place of a record's key
abbrev pub pinned_key : List (Option KeyRecord) → Option NameRecord → ℕ
pinned_key keys none = 0
pinned_key keys (some r) = place_of r.key keys
