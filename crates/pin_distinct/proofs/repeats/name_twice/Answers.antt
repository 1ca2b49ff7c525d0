-- The slots before it are asked in turn.
use Rattle.std.proofs.Common.{rules}
use Rattle.pin_model.specs.Layout.{name_slot}
use Rattle.pin_model.specs.Sound.{same_name, name_twice}
use Rattle.pin_table.proofs.Ranges.{any-below, below}
use Rattle.pin_distinct.proofs.repeats.name_twice.Goals as goal

pub returns : goal.returns
unfolding name_twice
returns c =
    any-below (λ m. same_name (name_slot c.args.area.now c.args.n) (name_slot c.args.area.now m)) c.args.n _ _ _ c.any.ensures.ran (below _ cc) (λ x b q k. search rules)
