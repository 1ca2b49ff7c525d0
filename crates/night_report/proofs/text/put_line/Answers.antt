-- Four fields, each behind the one before it, are the line.
use mathlib.Core.Path.{◌≡◌, refl, ◌∙◌}
use mathlib.Core.Bool.{Bool, true, false, cond}
use native.Mathlib.Omega.{arith}
use mir.Val.{bool_byte}
use Rattle.night_report.proofs.Lines.{Short, short, line-written}
use Rattle.night_report.proofs.text.put_line.Goals as goal
use Rattle.night_report.proofs.text.put_line.Goals.{After-from-full}

flag : (yes : Bool) → bool_byte yes ≡ cond yes 1 0
flag true = refl
flag false = refl

module _ (c : After-from-full) where
  fields : Short c.args.index c.from-answer.result c.from-alert.result c.from-full.result
  fields =
      rw c.from-answer.ensures
      (short c.args.index c.args.number c.args.no_room (c.from-alert.ensures ∙ c.alert_of.ensures) (c.from-full.ensures ∙ flag c.args.no_room) (omega arith) (omega arith))

pub put_number-at_number-requires : goal.put_number-at_number-requires
put_number-at_number-requires c = omega (arith, fields (goal.at.put_number-at_number-requires c).After-from-full)

pub put_number-at_alert-requires : goal.put_number-at_alert-requires
put_number-at_alert-requires c = omega (arith, fields (goal.at.put_number-at_alert-requires c).After-from-full)

pub put_number-at_full-requires : goal.put_number-at_full-requires
put_number-at_full-requires c = omega (arith, fields (goal.at.put_number-at_full-requires c).After-from-full)

pub put_number-requires : goal.put_number-requires
put_number-requires c = omega (arith, fields (goal.at.put_number-requires c).After-from-full)

pub returns : goal.returns
returns c =
    line-written c.args.index c.args.number c.args.no_room (c.from-alert.ensures ∙ c.alert_of.ensures) (c.from-full.ensures ∙ flag c.args.no_room)
    c.args.out.now c.args.at (omega arith) (omega arith) c.requires
    c.put_number-at_number.ensures (rw c.from-answer.ensures at c.put_number-at_alert.ensures) c.put_number-at_full.ensures c.put_number.ensures
