use Rattle.std.proofs.Common.{ap}
use Rattle.tack_extension.specs.Extension.{breaks_of, breaks_part}
use Rattle.tack_extension.proofs.reader.breaks_part.Goals as goal

pub returns-in-Some : goal.returns-in-Some
unfolding breaks_part
returns-in-Some c = ap breaks_of c.in-Some.ensures

pub returns-in-None : goal.returns-in-None
unfolding breaks_part
returns-in-None c = ap breaks_of c.in-None.ensures
