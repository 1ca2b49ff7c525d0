-- One step after the other.
use mathlib.Core.Bool.{◌||◌}
use native.Mathlib.Omega.{arith}
use Rattle.pin_model.specs.Layout.{decode}
use Rattle.pin_records.specs.Holds.{Holds}
use Rattle.pin_records.proofs.HeldSlots.{holds-decode, holds-stored}
use Rattle.pin_judge.proofs.Steps.{ready-to-extend, prolonged, extended, unextended, ready-to-create, created}
use Rattle.pin_judge.proofs.learn_tack.Goals as goal
use Rattle.pin_judge.proofs.learn_tack.Goals.{then-enabled, else-enabled}

pub extend_pin-requires : goal.extend_pin-requires
extend_pin-requires c =
    let raised = c.raise_floor.ensures in
    let ready = ready-to-extend c.args.tack.now _ (holds-decode raised) c.requires in
    (holds-stored raised, ready.0, ready.1)

pub create_record-requires : goal.create_record-requires
create_record-requires c =
    let a = c.args in
    let k = c.requires in
    let t = decode a.area.now in
    let raised = c.raise_floor.ensures in
    let two : Holds c.if-enabled.area (prolonged a.enabled a.name.now a.clock.0 a.tack.now t) =
    elim c.if-enabled.branch [
      | then-enabled w ↦ rw w.area-is (extended a.enabled a.name.now a.clock.0 a.tack.now t w.if-enabled.true raised w.extend_pin.ensures)
      | else-enabled w ↦ rw w.area-is (unextended a.enabled a.name.now a.clock.0 a.tack.now t w.if-enabled.false raised)
    ] in
    let ready = ready-to-create a.enabled a.name.now a.clock.0 a.tack.now t two k.admitted.table_sound k.admitted.of_one k.clock_in_order k.admitted.clock_in_limit in
    (holds-stored two, k.admitted.name_formed, ready.0, ready.1)

pub returns : goal.returns
returns c =
    let a = c.args in
    let t = decode a.area.now in
    let raised = c.raise_floor.ensures in
    let two : Holds c.if-enabled.area (prolonged a.enabled a.name.now a.clock.0 a.tack.now t) =
    elim c.if-enabled.branch [
      | then-enabled w ↦ rw w.area-is (extended a.enabled a.name.now a.clock.0 a.tack.now t w.if-enabled.true raised w.extend_pin.ensures)
      | else-enabled w ↦ rw w.area-is (unextended a.enabled a.name.now a.clock.0 a.tack.now t w.if-enabled.false raised)
    ] in
    created a.enabled a.name.now a.clock.0 a.tack.now t two (a.enabled || a.learn_disabled) (omega arith) c.create_record.ensures
