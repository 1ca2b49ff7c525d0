-- The second tack on what the first leaves.
use Rattle.tack_extension.specs.Answers.{tack_bytes}
use Rattle.pin_model.specs.Layout.{decode}
use Rattle.pin_records.proofs.HeldSlots.{holds-stored}
use Rattle.pin_steps_two.proofs.OwnPins.{learned-settled, learned-both}
use Rattle.pin_steps_two.proofs.learn.learn_each.Goals as goal

pub learn_enabled-second_lacks-requires : goal.learn_enabled-second_lacks-requires
learn_enabled-second_lacks-requires c =
    let h = c.learn_enabled-first_lacks.ensures.1 in
    (holds-stored h, learned-settled c.args.name.now _ (tack_bytes c.args.tacks.first) h c.requires.2 c.requires.1, c.requires.2)

pub returns : goal.returns
returns c =
    let a = c.args in
    let f = c.learn_enabled-first_lacks.ensures in
    let g = c.learn_enabled-second_lacks.ensures in
    learned-both a.name.now a.clock.0 (decode a.area.now) (tack_bytes a.tacks.first) (tack_bytes a.tacks.second) a.tacks.flags f.0 f.1 g.0 g.1
