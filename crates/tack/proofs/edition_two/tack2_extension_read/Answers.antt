-- Each case has the number, the alert and the flags of the definition.
use mathlib.Core.Path.{ap}
use Rattle.tack_extension.specs.Answers.{alert_of, alert_of_two}
use Rattle.tack.specs.ExtensionTwo.{reading_two_answer}
use Rattle.tack.proofs.edition_two.tack2_extension_read.Goals as goal

pub returns-in-Some : goal.returns-in-Some
unfolding reading_two_answer alert_of_two alert_of
returns-in-Some c = ap reading_two_answer c.in-Some.ensures

pub returns-in-None : goal.returns-in-None
unfolding reading_two_answer alert_of_two alert_of
returns-in-None c = ap reading_two_answer c.in-None.ensures
