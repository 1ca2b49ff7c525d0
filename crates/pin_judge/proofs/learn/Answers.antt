-- Where no tack is shown nothing changes.
use mathlib.Core.Path.{refl}
use Rattle.pin_judge.proofs.learn.Goals as goal

pub returns-in-None : goal.returns-in-None
returns-in-None c = rw c.in-None.is (refl, c.requires.admitted.stored)

pub returns-in-Some : goal.returns-in-Some
returns-in-Some c = rw c.in-Some.is c.learn_tack.ensures
