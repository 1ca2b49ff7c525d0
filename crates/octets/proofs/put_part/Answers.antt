use Rattle.std.proofs.Common.{refl, sym, ap, arith, ◌∙◌}
use lib.ListN.{length-set}
use lib.Seq.{take_all}
use Rattle.octets.specs.Octets.{put}
use Rattle.octets.proofs.Parts.{put-none, copy_step}
use Rattle.octets.proofs.put_part.Goals as goal

pub loop-i-init : goal.loop-i-init
loop-i-init c = (refl, sym (put-none _ _))

pub loop-i-preserved : goal.loop-i-preserved
loop-i-preserved c = (simp length-set c.loop-i.invariant.0, rw c.loop-i.invariant.1 (copy_step _ _ _ c.loop-i.i (omega arith) (omega arith)))

pub shape_of-s : goal.shape_of-s
shape_of-s c = c.loop-i.invariant.0

pub returns : goal.returns
returns c = (refl, c.loop-i.invariant.1 ∙ ap (put _ _) (take_all _ _ (omega arith)))
