-- The area of no calls is the empty table of edition one.
use mathlib.Core.Path.{refl, sym}
use native.Mathlib.Omega.{arith}
use Rattle.pin_model.specs.Run.{area_of}
use Rattle.pin_model.proofs.SoundTable.{empty-zeros}
use Rattle.replay.proofs.Steps.{at-start}
use Rattle.replay.proofs.turns.Progress.new.Goals as goal

pub returns : goal.returns
unfolding area_of
returns c = (record { room = omega arith; reached = at-start (sym empty-zeros) c.new-2.ensures }, refl)
