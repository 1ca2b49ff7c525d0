-- One step after the other.
use mathlib.Core.Bool.{◌||◌}
use lib.Dec.{eqb}
use Rattle.tack_extension.specs.Answers.{tack_bytes}
use Rattle.pin_model.specs.Layout.{decode}
use Rattle.pin_records.proofs.HeldSlots.{holds-stored}
use Rattle.pin_judge.proofs.Steps.{still_one, applied}
use Rattle.pin_judge.proofs.apply.Goals as goal

pub break_keys-requires : goal.break_keys-requires
break_keys-requires c = (holds-stored c.learn-no_room.ensures.1, c.requires.1)

pub store_latest-requires : goal.store_latest-requires
store_latest-requires c = holds-stored c.break_keys.ensures

pub verdict_for-requires : goal.verdict_for-requires
verdict_for-requires c =
    let a = c.args in
    let on = eqb a.shown.activation 1 in (
      holds-stored c.store_latest.ensures,
      still_one on (on || a.learn_disabled) a.name.now a.clock.0 (tack_bytes a.shown.tack) a.shown.breaks.now (decode a.area.now)
          c.learn-no_room.ensures c.break_keys.ensures c.store_latest.ensures c.requires.0.admitted.of_one,
    )

pub returns : goal.returns
returns c =
    let a = c.args in
    let on = eqb a.shown.activation 1 in
    applied on (on || a.learn_disabled) a.name.now a.clock.0 (tack_bytes a.shown.tack) a.shown.breaks.now (decode a.area.now)
    c.learn-no_room.ensures c.break_keys.ensures c.store_latest.ensures _ c.verdict_for.ensures
