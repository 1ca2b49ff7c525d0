-- The slots are asked in turn.
use Rattle.std.proofs.Common.{refl, rules}
use Rattle.pin_model.specs.Layout.{key_slot}
use Rattle.pin_model.specs.Sound.{key_shaped, keys_shaped}
use Rattle.pin_table.proofs.Ranges.{all-below, below}
use Rattle.pin_soundness.proofs.key_rules.keys_shaped.Goals as goal

pub returns : goal.returns
unfolding keys_shaped
returns c = all-below (λ i. key_shaped (key_slot c.args.area.now i)) 64 _ _ _ c.all.ensures.ran (below 64 refl) (λ x b q k. search rules)
