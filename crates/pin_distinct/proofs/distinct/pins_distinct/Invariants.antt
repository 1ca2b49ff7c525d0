-- The loop's invariant: none of the first i slots says what one before it says, and their marks are seen.
use Rattle.std.proofs.Common.{◌≡◌, ℕ, ◌<◌, false}
use Rattle.pin_model.specs.Layout.{of_two}
use Rattle.pin_distinct.specs.Pins.{pin_again}
use Rattle.pin_distinct.proofs.Doubles.{PinsSeen}
use Rattle.pin_distinct.proofs.distinct.pins_distinct.Given as goal

abbrev pub invariant-loop-i : goal.invariant-loop-i
invariant-loop-i l = PinsSeen (of_two l.area) l.area l.seen.words l.i × ((j : ℕ) → j < l.i → pin_again (of_two l.area) l.area j ≡ false)
