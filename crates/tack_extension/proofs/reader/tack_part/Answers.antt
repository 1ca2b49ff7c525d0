use Rattle.std.proofs.Common.{ap, sym, ◌∙◌}
use Rattle.tack_extension.specs.Extension.{tack_of, tack_part}
use Rattle.tack_extension.specs.Answers.{tack_bytes}
use Rattle.tack_extension.proofs.reader.tack_part.Goals as goal

pub returns-in_default : goal.returns-in_default
unfolding tack_part
returns-in_default c = ap tack_of c.in_default.ensures

pub returns-in-Some-tack : goal.returns-in-Some-tack
unfolding tack_part
returns-in-Some-tack c = ap tack_bytes (sym c.in-Some-tack.is) ∙ ap tack_of c.in-Some.ensures

pub returns-in-None : goal.returns-in-None
unfolding tack_part
returns-in-None c = ap tack_bytes (sym c.in-None.is) ∙ ap tack_of c.in-Some.ensures
