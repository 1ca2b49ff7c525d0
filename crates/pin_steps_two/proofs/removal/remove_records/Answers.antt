-- The names go, and then the keys that no name is left on.
use Rattle.pin_model.specs.Layout.{decode}
use Rattle.pin_model.specs.JudgeTwo.{is_removed}
use Rattle.pin_records.proofs.HeldSlots.{holds-stored}
use Rattle.pin_refusals_two.specs.Parts.{tacks_in_order}
use Rattle.pin_steps_two.proofs.Settled.{keys-dropped}
use Rattle.pin_steps_two.proofs.removal.remove_records.Goals as goal

pub drop_unnamed-requires : goal.drop_unnamed-requires
drop_unnamed-requires c = holds-stored c.drop_names.ensures

pub returns : goal.returns
returns c =
    keys-dropped (is_removed c.args.name.now c.args.clock.0 (tacks_in_order c.args.tacks)) (decode c.args.area.now) c.drop_names.ensures c.drop_unnamed.ensures
