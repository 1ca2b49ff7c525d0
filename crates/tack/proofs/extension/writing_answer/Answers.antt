-- Each case has the number, the alert and the count of the definition.
use mathlib.Core.Path.{sym, ap, ◌∙◌}
use Rattle.std.specs.Prelude.{Err}
use Rattle.tack_extension.specs.Answers.{alert_of}
use Rattle.tack.specs.Extension.{writing_answer}
use Rattle.tack.proofs.extension.writing_answer.Goals as goal

pub returns-in-Ok : goal.returns-in-Ok
unfolding writing_answer alert_of
returns-in-Ok c = ap writing_answer (sym c.in-Ok.is)

pub returns-in-BadPart : goal.returns-in-BadPart
unfolding writing_answer alert_of
returns-in-BadPart c = ap writing_answer (sym (c.in-Err.is ∙ ap Err c.in-BadPart.is))

pub returns-in-NoSpace : goal.returns-in-NoSpace
unfolding writing_answer alert_of
returns-in-NoSpace c = ap writing_answer (sym (c.in-Err.is ∙ ap Err c.in-NoSpace.is))
