-- Of a name that is cut the answer is that of the whole.
use Rattle.host_name.specs.Folding.{folded_name}
use Rattle.host_name.proofs.Cut.{cut-formed}
use Rattle.host_name.proofs.folding.well_formed.Goals as goal

pub returns : goal.returns
returns c = cc (cut-formed (folded_name c.args.name.now))
