-- By the tacks that are there: each raises a floor, and latest is stored at the end.
use mathlib.Core.Bool.{true}
use Rattle.tack_extension.specs.Answers.{tack_bytes}
use Rattle.pin_model.specs.Layout.{decode}
use Rattle.pin_model.specs.Connection.{shown_in}
use Rattle.pin_model.specs.JudgeTwo.{raise_each}
use Rattle.pin_records.specs.Holds.{Holds, Stored}
use Rattle.pin_records.proofs.HeldSlots.{holds-stored}
use Rattle.pin_steps_two.proofs.ShownTacks.{raised_both}
use Rattle.pin_steps_two.proofs.raise.raise_floors.Goals as goal
use Rattle.pin_steps_two.proofs.raise.raise_floors.Goals.{in-Some, in_default, in-Some-second, in_default-second}

pub raise_shown-requires-in-Some-second : goal.raise_shown-requires-in-Some-second
raise_shown-requires-in-Some-second c =
    elim c.match-tacks.branch [ in-Some w ↦ rw w.area-is (holds-stored w.raise_shown.ensures) | in_default w ↦ rw w.area-is c.requires ]

pub store_latest-requires : goal.store_latest-requires
store_latest-requires c =
    let f : Stored c.match-tacks.area =
    elim c.match-tacks.branch [ in-Some w ↦ rw w.area-is (holds-stored w.raise_shown.ensures) | in_default w ↦ rw w.area-is c.requires ] in
    elim c.match-tacks-2.branch [
      | in-Some-second w ↦ rw w.area-is (holds-stored w.raise_shown-in-Some-second.ensures)
      | in_default-second w ↦ rw w.area-is f
    ]

pub returns : goal.returns
returns c =
    let t = decode c.args.area.now in
    let u = decode c.match-tacks.area in
    let f : Holds c.match-tacks.area (raise_each (shown_in true (tack_bytes c.args.tacks.first)) t) =
    elim c.match-tacks.branch [
      | in-Some w ↦ rw (w.area-is, w.in-Some.is) w.raise_shown.ensures
      | in_default w ↦ rw (w.area-is, w.in_default.is) c.requires
    ] in
    let g : Holds c.match-tacks-2.area (raise_each (shown_in true (tack_bytes c.args.tacks.second)) u) =
    elim c.match-tacks-2.branch [
      | in-Some-second w ↦ rw (w.area-is, w.in-Some-second.is) w.raise_shown-in-Some-second.ensures
      | in_default-second w ↦ rw (w.area-is, w.in_default-second.is) (holds-stored f)
    ] in
    raised_both (tack_bytes c.args.tacks.first) (tack_bytes c.args.tacks.second) c.args.clock.0 t f g c.store_latest.ensures
