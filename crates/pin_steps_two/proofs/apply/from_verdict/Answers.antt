-- By whether a record contradicts: nothing more changes, or the records go, and the tacks are learned on what is left.
use mathlib.Core.Path.{sym, ◌∙◌, ap}
use mathlib.Core.Bool.{true, false}
use Rattle.tack_extension.specs.Answers.{tack_bytes}
use Rattle.pin_model.specs.Layout.{decode}
use Rattle.pin_model.specs.JudgeTwo.{no_room_each}
use Rattle.pin_records.proofs.HeldSlots.{holds-decode, holds-stored}
use Rattle.pin_refusals_two.specs.Parts.{tacks_in_order}
use Rattle.pin_steps_two.proofs.ShownTacks.{contradicted-same}
use Rattle.pin_steps_two.proofs.Settled.{judged-contradicted, judged-passed, dropped-settled, learned-from}
use Rattle.pin_steps_two.proofs.apply.from_verdict.Goals as goal

pub returns-then-is_contradicted : goal.returns-then-is_contradicted
returns-then-is_contradicted c =
    let a = c.args in
    let same = contradicted-same (tack_bytes a.tacks.first) (tack_bytes a.tacks.second) a.tacks.flags a.name.now a.clock.0 (decode a.area.now) in
    judged-contradicted a.name.now a.clock.0 (tacks_in_order a.tacks) (decode a.area.now) _ (sym same ∙ sym c.if-is_contradicted.ensures) c.requires.0

pub learn_each-no_room-requires : goal.learn_each-no_room-requires
learn_each-no_room-requires c =
    let h = c.remove_records.ensures in
    (holds-stored h, dropped-settled c.args.name.now c.requires.2 _ h c.requires.1, c.requires.2)

pub returns-then-pinned : goal.returns-then-pinned
returns-then-pinned c =
    let a = c.args in
    let same = contradicted-same (tack_bytes a.tacks.first) (tack_bytes a.tacks.second) a.tacks.flags a.name.now a.clock.0 (decode a.area.now) in
    judged-passed a.name.now a.clock.0 (tacks_in_order a.tacks) (decode a.area.now) _ true (sym same ∙ sym c.if-is_contradicted.ensures) (sym c.is_pinned-pinned.ensures ∙ c.if-pinned.true)
    (c.learn_each-no_room.ensures.0 ∙ ap (no_room_each a.name.now a.clock.0 (tacks_in_order a.tacks)) (holds-decode c.remove_records.ensures))
    (learned-from a.name.now a.clock.0 (tacks_in_order a.tacks) c.remove_records.ensures c.learn_each-no_room.ensures.1)

pub returns-else-pinned : goal.returns-else-pinned
returns-else-pinned c =
    let a = c.args in
    let same = contradicted-same (tack_bytes a.tacks.first) (tack_bytes a.tacks.second) a.tacks.flags a.name.now a.clock.0 (decode a.area.now) in
    judged-passed a.name.now a.clock.0 (tacks_in_order a.tacks) (decode a.area.now) _ false (sym same ∙ sym c.if-is_contradicted.ensures) (sym c.is_pinned-pinned.ensures ∙ c.if-pinned.false)
    (c.learn_each-no_room.ensures.0 ∙ ap (no_room_each a.name.now a.clock.0 (tacks_in_order a.tacks)) (holds-decode c.remove_records.ensures))
    (learned-from a.name.now a.clock.0 (tacks_in_order a.tacks) c.remove_records.ensures c.learn_each-no_room.ensures.1)
