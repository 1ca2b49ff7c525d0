-- What came, read; and what stands for an extension that did not come.
use mathlib.Core.Path.{refl}
use Rattle.pin_model.specs.Connection.{parts_of}
use Rattle.pin_judge.proofs.read_extension.Goals as goal

pub returns-in-Some : goal.returns-in-Some
unfolding parts_of
returns-in-Some c = rw c.in-Some.is c.read.ensures

pub returns-in-None : goal.returns-in-None
unfolding parts_of
returns-in-None c = rw c.in-None.is refl
