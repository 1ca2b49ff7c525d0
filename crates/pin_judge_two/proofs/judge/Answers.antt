-- 10 and 11, 27; else the name that is handed on is the folded one, cut at 254 bytes.
use mathlib.Core.Path.{sym, ◌∙◌}
use mathlib.Core.List.{[]}
use Rattle.std.proofs.lemmas.Result.{err_from_is_err_and}
use Rattle.pin_model.specs.Seen.{seen}
use Rattle.pin_model.proofs.Refusals.{area-facts}
use Rattle.pin_judge_two.proofs.JudgedTwo.{refused-area, refused-edition, handed-on}
use Rattle.pin_judge_two.proofs.judge.Goals as goal

pub returns-in_err-check_area : goal.returns-in_err-check_area
returns-in_err-check_area c =
    let p = err_from_is_err_and c.from_residual.result c.from_residual.ensures.1 in
    let w = refused-area (seen c.args.connection.now) c.args.area.now c.in_err-check_area.ensures in
    record { answer = rw (p.1, p.2) w.0; area = w.1 }

pub returns-then-not-is_two : goal.returns-then-not-is_two
returns-then-not-is_two c =
    let w = refused-edition (seen c.args.connection.now) c.args.area.now (area-facts c.args.area.now [] (sym c.in_ok-check_area.ensures)).area_sound
    (sym c.is_two.ensures ∙ c.if-not-is_two.true) in
    record { answer = w.0; area = w.1 }

pub returns : goal.returns
returns c =
    let e = c.judge_folded.ensures in
    let w = handed-on (seen c.args.connection.now) c.args.area.now (c.as_slice.ensures ∙ c.of-folded.ensures) (e.answer, e.area) in
    record { answer = w.0; area = w.1 }
