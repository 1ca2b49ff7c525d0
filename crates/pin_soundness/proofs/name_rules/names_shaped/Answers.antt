-- The slots are asked in turn.
use Rattle.std.proofs.Common.{refl, rules}
use Rattle.pin_model.specs.Layout.{latest_in, name_slot}
use Rattle.pin_model.specs.Sound.{name_shaped, names_shaped}
use Rattle.pin_table.proofs.Ranges.{all-below, below}
use Rattle.pin_soundness.proofs.name_rules.names_shaped.Goals as goal

pub returns : goal.returns
unfolding names_shaped
returns c = all-below (λ i. name_shaped (latest_in c.args.area.now) (name_slot c.args.area.now i)) 128 _ _ _ c.all.ensures.ran (below 128 refl) (λ x b q k. search rules)
