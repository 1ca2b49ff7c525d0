-- A test of the name slots while those that pass are cleared. Cited by the functions between the open ones and the bytes: a reader of
-- the open contracts can skip this file.
use Rattle.std.specs.Prelude.{◌≡◌, ◌<◌, Bool, List, ℕ, get_or}
use Rattle.std.specs.Borrow.{Bor}
use Rattle.std.proofs.Math.Option.{none}
use Rattle.pin_model.specs.Table.{NameRecord, Table}
use Rattle.pin_model.specs.Layout.{decode}
use Rattle.pin_model.specs.Fits.{holds}
use Rattle.pin_records.specs.Holds.{Stored}

-- the area by then stores a table with the keys of t, of t's edition
pub record Clearing (t : Table) (b : List ℕ) : Type 0 where
  pub stored : Stored b
  pub keys : (decode b).keys ≡ t.keys
  pub two : (decode b).two ≡ t.two

-- of each such area and each slot the test may be asked
abbrev pub IsAsked : (Bor (List ℕ) → ℕ → Type 0) → Table → Type 0
IsAsked pre t = (b : Bor (List ℕ)) (n : ℕ) → n < 128 → Clearing t b.now → pre b n

-- and tells whether the slot's record passes
abbrev pub Tells : (Bor (List ℕ) → ℕ → Bool → Type 0) → Table → (NameRecord → Bool) → Type 0
Tells post t passes =
    (b : Bor (List ℕ)) (n : ℕ) (v : Bool) → n < 128 → Clearing t b.now → post b n v → v ≡ holds passes (get_or (decode b.now).names n none)
