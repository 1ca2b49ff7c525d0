-- The name record of a row of the journal: t and i make its end.
use mathlib.Core.Path.{◌≡◌, refl}
use mathlib.Core.Option.{Option, none, some}
use Prim.Native.Nat.{ℕ, ◌+◌, ◌-◌, min}
use Rattle.pin_model.specs.Table.{NameRecord, name_record, before, active}
use Rattle.pin_model.specs.Judge.{extended_to}
use Rattle.pin_journal.specs.Journal.{Row, live_by, live, seen_at}

-- 't + min(43,200, t - i)'
abbrev pub end_of : ℕ → Option ℕ → Option ℕ
end_of i none = none
end_of i (some t) = some (t + min 43200 (t - i))

abbrev pub record_of : Row → NameRecord
record_of r = name_record r.name r.key r.i (end_of r.i r.t)

live-before : (clock i : ℕ) (t : Option ℕ) → live_by clock i t ≡ before clock (end_of i t)
live-before clock i none = refl
live-before clock i (some t) = refl

-- a row is live while its record is active
pub live-active : (clock : ℕ) (r : Row) → live clock r ≡ active clock (record_of r)
live-active clock r = live-before clock r.i r.t

-- an end is set in the table as t is in the journal
pub extended-record : (clock : ℕ) (r : Row) → extended_to clock (record_of r) ≡ record_of (seen_at clock r)
extended-record clock r = refl
