-- A caller's clock, by document 01: 'whole minutes since 1970, at most 4,294,924,095'.
use Rattle.std.specs.Prelude.{ℕ, cond, leb, Option, Some, None}
use Rattle.pin_model.specs.Table.{clock_limit}
use Rattle.pin_table.specs.declared.minutes.Minutes.{Minutes}

unfoldable pub clock_of : ℕ → Option Minutes
clock_of n = cond (leb n clock_limit) (Some (record { 0 = n })) None
