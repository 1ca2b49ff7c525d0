-- The table that the steps from the verdict on meet. Cited by the functions below the open one: a reader of the open contract can skip
-- this file.
use Rattle.std.specs.Prelude.{◌≡◌, true, ℕ}
use Rattle.pin_model.specs.Table.{Table}
use Rattle.pin_model.specs.SoundTable.{sound_table}

-- 'After the floors are raised and latest set' (document 02, Q-3): a sound table of edition two whose latest is the clock
pub record SettledTwo (clock : ℕ) (t : Table) : Type 0 where
  pub table_sound : sound_table t ≡ true
  pub settled : t.latest ≡ clock
  pub two : t.two ≡ true
