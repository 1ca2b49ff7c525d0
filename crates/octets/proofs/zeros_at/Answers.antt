use Rattle.std.proofs.Common.{ℕ, refl, ap, ◌∙◌}
use Rattle.std.specs.Prelude.{eqb}
use Rattle.octets.specs.Octets.{all_zero}
use Rattle.octets.proofs.Equal.{greatest-zero}
use Rattle.octets.proofs.Parts.{part-lent}
use Rattle.octets.proofs.zeros_at.Goals as goal

pub returns : goal.returns
returns c =
    ap (λ (n : ℕ). eqb n 0) c.greatest.ensures ∙ greatest-zero _ ∙ ap all_zero (part-lent c.args.s.now c.args.at c.args.n _ refl c.requires).0
