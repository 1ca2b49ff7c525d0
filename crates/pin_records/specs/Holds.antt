-- An area that stores a table, and the table with one slot set. Cited by the functions between the open ones and the bytes:
-- a reader of the open contracts can skip this file.
use Rattle.std.specs.Prelude.{◌≡◌, Bool, List, ℕ, ◌≤◌, length, set}
use Rattle.std.proofs.Math.Option.{Option}
use Rattle.pin_model.specs.Slots.{count, used}
use Rattle.pin_model.specs.Table.{KeyRecord, NameRecord, Table, holding, name_is, pin_is, records_of_a_name, keys_named_by}
use Rattle.pin_model.specs.Layout.{area_length, encode, decode}
use Rattle.pin_model.specs.Fits.{Fits}

-- no name has more records than its edition allows, and none has two with one key
pub record Distinct (two : Bool) (names : List (Option NameRecord)) : Type 0 where
  pub few : (n : List ℕ) → count (name_is n) (used names) ≤ records_of_a_name two
  pub once : (n k : List ℕ) → count (pin_is n k) (used names) ≤ 1

-- b is the encoding of t, which decode gives back. That every key has a name is left out, so that it also holds between the
-- removal of a name and that of its key.
pub record Holds (b : List ℕ) (t : Table) : Type 0 where
  pub bytes : b ≡ encode t
  pub long : length b ≡ area_length
  pub fits : Fits t
  pub distinct : Distinct t.two t.names

abbrev pub Stored : List ℕ → Type 0
Stored b = Holds b (decode b)

-- a table with one slot set
abbrev pub with_key : Table → ℕ → Option KeyRecord → Table
with_key t k x = holding t (set t.keys k x) t.names

abbrev pub with_name : Table → ℕ → Option NameRecord → Table
with_name t n x = holding t t.keys (set t.names n x)

-- without the keys that no name is left on
abbrev pub without_unnamed : Table → Table
without_unnamed t = holding t (keys_named_by t.names t.keys) t.names
