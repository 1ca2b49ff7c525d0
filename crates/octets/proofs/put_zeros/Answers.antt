use Rattle.std.proofs.Common.{ℕ, refl, arith, replicate}
use lib.ListN.{length-replicate}
use Rattle.octets.proofs.Parts.{part-lent, put-lent}
use Rattle.octets.proofs.put_zeros.Goals as goal

pub returns : goal.returns
returns c =
    let a = c.args in
    let size = (part-lent a.s.now a.at a.n _ refl c.requires).1 in
    (refl, rw (c.fill.ensures.after (λ y h. h), size) (put-lent _ _ _ (replicate a.n 0) (omega (arith, length-replicate {A = ℕ} a.n 0))))
