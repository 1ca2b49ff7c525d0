use Rattle.std.proofs.Common.{refl}
use Rattle.tally.specs.Tally.{tallied}
use Rattle.tally.proofs.Tally.new.Goals as goal

pub returns : goal.returns
unfolding tallied
returns c = refl
