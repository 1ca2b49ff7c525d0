-- The slots before it are asked in turn.
use Rattle.std.proofs.Common.{rules}
use Rattle.pin_model.specs.Layout.{key_slot}
use Rattle.pin_model.specs.Sound.{same_key, key_twice}
use Rattle.pin_table.proofs.Ranges.{any-below, below}
use Rattle.pin_distinct.proofs.key_repeats.key_twice.Goals as goal

pub returns : goal.returns
unfolding key_twice
returns c =
    any-below (λ j. same_key (key_slot c.args.area.now c.args.k) (key_slot c.args.area.now j)) c.args.k _ _ _ c.any.ensures.ran (below _ cc) (λ x b q k. search rules)
