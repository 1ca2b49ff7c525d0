-- The floors are raised whatever the flags are, and the rest is judged on that table.
use Rattle.tack_extension.specs.Answers.{tack_bytes}
use Rattle.pin_model.specs.Layout.{decode}
use Rattle.pin_records.proofs.HeldSlots.{holds-stored}
use Rattle.pin_steps_two.specs.SettledTwo.{SettledTwo}
use Rattle.pin_steps_two.proofs.Settled.{raised-as, judged-from}
use Rattle.pin_steps_two.proofs.apply.apply.Goals as goal

pub from_verdict-requires : goal.from_verdict-requires
from_verdict-requires c =
    let a = c.args in
    let h = c.raise_floors.ensures in
    let settled =
    raised-as (tack_bytes a.tacks.first) (tack_bytes a.tacks.second) a.tacks.flags a.clock.0 (decode a.area.now) (SettledTwo a.clock.0) h c.requires.1 in
    (holds-stored h, settled, c.requires.2)

pub returns : goal.returns
returns c =
    let a = c.args in
    judged-from (tack_bytes a.tacks.first) (tack_bytes a.tacks.second) a.tacks.flags a.clock.0 (decode a.area.now) a.name.now c.raise_floors.ensures
    c.from_verdict.ensures.0 c.from_verdict.ensures.1
