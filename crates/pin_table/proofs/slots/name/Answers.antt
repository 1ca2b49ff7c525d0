-- The name is lent whole.
use Rattle.std.proofs.Common.{get_or, arith}
use Rattle.octets.proofs.Parts.{part-lent}
use Rattle.pin_table.proofs.slots.name.Goals as goal

pub returns : goal.returns
returns c = part-lent c.args.s.now 16 (get_or c.args.s.now 2 0) _ (omega arith) (omega arith)
