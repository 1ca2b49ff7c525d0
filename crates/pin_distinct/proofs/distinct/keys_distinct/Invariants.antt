-- The loop's invariant: none of the first n slots has the key of one before it, and their marks are seen.
use Rattle.std.proofs.Common.{◌≡◌, ℕ, ◌<◌, false}
use Rattle.pin_model.specs.Sound.{key_twice}
use Rattle.pin_distinct.proofs.Doubles.{KeysSeen}
use Rattle.pin_distinct.proofs.distinct.keys_distinct.Given as goal

abbrev pub invariant-loop-n : goal.invariant-loop-n
invariant-loop-n l = KeysSeen l.area l.seen.words l.n × ((j : ℕ) → j < l.n → key_twice l.area j ≡ false)
