-- What is known of a call where its first refusals have passed. Cited by private functions alone: a reader of the open contract can
-- skip this file.
use Rattle.std.specs.Prelude.{◌≡◌, true, false, List, ℕ, ◌≤◌}
use Rattle.host_name.specs.Name.{well_formed}
use Rattle.pin_model.specs.Table.{clock_limit}
use Rattle.pin_model.specs.Layout.{decode}
use Rattle.pin_model.specs.SoundTable.{sound_table}
use Rattle.pin_records.specs.Holds.{Stored}

-- 10, 11, 27, 12 and 13: the area and its edition, the name, and the clock's limit
pub record Admitted (area name : List ℕ) (clock : ℕ) : Type 0 where
  pub stored : Stored area
  pub table_sound : sound_table (decode area) ≡ true
  pub of_one : (decode area).two ≡ false
  pub name_formed : well_formed name ≡ true
  pub clock_in_limit : clock ≤ clock_limit

-- and 14
pub record InOrder (area name : List ℕ) (clock : ℕ) : Type 0 where
  pub admitted : Admitted area name clock
  pub clock_in_order : (decode area).latest ≤ clock
