-- The invariant: the keys of the first break signatures are gone, with their names.
use Rattle.pin_model.specs.Layout.{decode}
use Rattle.pin_model.specs.Judge.{break}
use Rattle.pin_records.specs.Holds.{Holds}
use Rattle.pin_steps.proofs.BreakParts.{first_broken}
use Rattle.pin_steps.proofs.breaks.break_keys.Given as goal

abbrev pub invariant-loop-signed : goal.invariant-loop-signed
invariant-loop-signed l = Holds l.area (break (first_broken l.breaks l.signed-index) (decode l.initial.area))
