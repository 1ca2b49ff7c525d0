-- The keys are asked in turn, by the marks.
use Rattle.std.proofs.Common.{refl, rules, ap, ◌∙◌, ◌||◌, not, get_or, Bool, false}
use Rattle.pin_model.specs.Layout.{key_slot, is_used}
use Rattle.pin_model.specs.Sound.{key_named, keys_named}
use Rattle.pin_table.proofs.Ranges.{all-below, below, every-same}
use Rattle.pin_soundness.proofs.links.keys_named.Goals as goal

pub returns : goal.returns
unfolding keys_named key_named
returns c =
    all-below (λ i. not (is_used (key_slot c.args.area.now i)) || get_or c.marked_keys-marked.result i false) 64 _ _ _ c.all.ensures.ran (below 64 refl) (λ x b q k. search rules)
    ∙ every-same _ (key_named c.args.area.now) 64 (λ i l. ap (λ (y : Bool). not (is_used (key_slot c.args.area.now i)) || y) (c.marked_keys-marked.ensures.right i l))
