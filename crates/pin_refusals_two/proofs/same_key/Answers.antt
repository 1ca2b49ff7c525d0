-- Their keys, compared.
use mathlib.Core.Path.{◌∙◌}
use native.Mathlib.Omega.{arith}
use Rattle.pin_refusals_two.proofs.OneKey.{one-key-both}
use Rattle.pin_refusals_two.proofs.same_key.Goals as goal

pub returns : goal.returns
returns c = c.same_64_at.ensures ∙ one-key-both c.args.first.now c.args.second.now (omega arith) (omega arith) c.public_key.ensures
