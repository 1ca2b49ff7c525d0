-- The outer loop's invariant: the keys below i that no name is left on are gone. The inner one's: none of the first j names is pinned to the key.
use Rattle.std.proofs.Common.{◌≡◌, ℕ, ◌<◌, false, get_or}
use Rattle.std.proofs.Math.Option.{none}
use Rattle.pin_model.specs.Table.{pinned_to}
use Rattle.pin_model.specs.Layout.{decode, key_at}
use Rattle.pin_model.specs.Fits.{holds}
use Rattle.pin_records.specs.Holds.{Holds}
use Rattle.pin_records.proofs.Cleared.{stage}
use Rattle.pin_records.proofs.remove.drop_unnamed.Given as goal

abbrev pub invariant-names : goal.invariant-names
invariant-names l = (m : ℕ) → m < l.j → holds (pinned_to (key_at (get_or (decode l.area).keys l.k none))) (get_or (decode l.area).names m none) ≡ false

abbrev pub invariant-keys : goal.invariant-keys
invariant-keys l = Holds l.area (stage (decode l.initial.area) l.i)
