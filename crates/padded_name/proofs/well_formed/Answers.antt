-- By the name's length.
use mathlib.Core.Path.{sym, ap, ◌∙◌}
use native.Mathlib.Omega.{arith}
use Rattle.octets.proofs.Parts.{part-lent}
use Rattle.host_name.specs.Name.{well_formed}
use Rattle.padded_name.proofs.PaddedNames.{none-formed}
use Rattle.padded_name.proofs.well_formed.Goals as goal

pub returns-then-n-eq0 : goal.returns-then-n-eq0
returns-then-n-eq0 c = sym (none-formed c.args.padded.now c.args.n _ c.if-n-eq0.true)

pub returns-then-not-well_formed : goal.returns-then-not-well_formed
returns-then-not-well_formed c =
    sym (rw (sym (ap well_formed (part-lent c.args.padded.now 0 c.args.n c.args.n (omega arith) (omega arith)).0) ∙ sym c.if-not-well_formed.ensures))

pub returns : goal.returns
returns c =
    c.zeros_at.ensures
    ∙ sym (rw (sym (ap well_formed (part-lent c.args.padded.now 0 c.args.n c.args.n (omega arith) (omega arith)).0) ∙ sym c.if-not-well_formed.ensures))
