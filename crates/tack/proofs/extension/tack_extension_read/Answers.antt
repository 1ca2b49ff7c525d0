-- Each case has the number, the alert and the activation of the definition.
use mathlib.Core.Path.{ap}
use Rattle.tack_extension.specs.Answers.{alert_of}
use Rattle.tack.specs.Extension.{reading_answer}
use Rattle.tack.proofs.extension.tack_extension_read.Goals as goal

pub returns-in-Some : goal.returns-in-Some
unfolding reading_answer alert_of
returns-in-Some c = ap reading_answer c.in-Some.ensures

pub returns-in-None : goal.returns-in-None
unfolding reading_answer alert_of
returns-in-None c = ap reading_answer c.in-None.ensures
