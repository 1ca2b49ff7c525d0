-- The area's refusals; on a sound area the rest.
use Rattle.std.proofs.lemmas.Result.{err_from_is_err_and}
use Rattle.pin_model.specs.Seen.{seen}
use Rattle.pin_judge.proofs.Judged.{refused-area}
use Rattle.pin_judge.proofs.judge.Goals as goal

pub returns-in_err-check_area : goal.returns-in_err-check_area
returns-in_err-check_area c =
    let p = err_from_is_err_and c.from_residual.result c.from_residual.ensures.1 in
    let w = refused-area (seen c.args.connection.now) c.args.area.now c.in_err-check_area.ensures in
    record { answer = rw (p.1, p.2) w.0; area = w.1 }
