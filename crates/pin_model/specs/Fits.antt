-- Slots that pass a test; tables that fit the layout: what `encode` needs so that `decode` gives the table back. Cited by the functions between the open ones and
-- the bytes: a reader of the open contracts can skip this file.
use Rattle.std.specs.Prelude.{◌≡◌, Bool, true, false, ◌&&◌, List, ℕ, ◌≤◌, ◌<◌, eqb, leb, ltb, length}
use Rattle.std.proofs.Math.Option.{Option, none, some}
use Rattle.octets.specs.Octets.{all, any}
use Rattle.pin_model.specs.Slots.{count, used}
use Rattle.pin_model.specs.Table.{KeyRecord, NameRecord, Table, key_is}
use Rattle.pin_model.specs.Layout.{or_zero}

-- whether a slot is used and passes the test
abbrev pub holds : {A : Type 0} → (A → Bool) → Option A → Bool
holds p none = false
holds p (some a) = p a

-- the floor in a slot, 0 in a free one
abbrev pub floor_at : Option KeyRecord → ℕ
floor_at none = 0
floor_at (some k) = k.floor

-- what four bytes hold is below this
abbrev pub four_bytes : ℕ
four_bytes = 4294967296

abbrev pub key_fits : KeyRecord → Bool
key_fits k = eqb (length k.key) 64

abbrev pub keys_whole : Table → Bool
keys_whole t = all key_fits (used t.keys)

abbrev pub name_fits : List (Option KeyRecord) → NameRecord → Bool
name_fits keys r =
    leb (length r.name) 253
    && (any (key_is r.key) (used keys) && (ltb r.initial four_bytes && ltb (or_zero r.end) four_bytes))

pub record Fits (t : Table) : Type 0 where
  pub key_slots : length t.keys ≡ 64
  pub name_slots : length t.names ≡ 128
  pub latest_fits : t.latest < four_bytes
  pub keys_fit : all key_fits (used t.keys) ≡ true
  pub names_fit : all (name_fits t.keys) (used t.names) ≡ true
  pub key_once : (k : List ℕ) → count (key_is k) (used t.keys) ≤ 1
