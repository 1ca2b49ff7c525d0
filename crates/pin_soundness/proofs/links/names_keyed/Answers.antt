-- The slots are asked in turn.
use Rattle.std.proofs.Common.{refl, rules}
use Rattle.pin_model.specs.Layout.{name_slot}
use Rattle.pin_model.specs.Sound.{name_keyed, names_keyed}
use Rattle.pin_table.proofs.Ranges.{all-below, below}
use Rattle.pin_soundness.proofs.links.names_keyed.Goals as goal

pub returns : goal.returns
unfolding names_keyed
returns c = all-below (λ i. name_keyed c.args.area.now (name_slot c.args.area.now i)) 128 _ _ _ c.all.ensures.ran (below 128 refl) (λ x b q k. search rules)
