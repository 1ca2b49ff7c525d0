-- Each answer by what stands in front of the night's bytes.
use mathlib.Core.Path.{◌≡◌}
use native.Mathlib.Omega.{arith}
use Rattle.std.proofs.Common.{Err, rules}
use Rattle.night_report.proofs.Lines.{line-length}
use Rattle.night_play.proofs.OneTurn.{judgement-number, judgement-alert, judgement-room, played-line, played-stopped}
use Rattle.night_play.proofs.play_call.Goals as goal

pub returns-in_err-call : goal.returns-in_err-call
returns-in_err-call c =
    let a = c.args in
    let e = c.in_err-call.ensures in
    let same : c.from_residual.result ≡ Err c.in_err-call.field-0.0 = grind arith in
    let w = played-stopped a.index a.area.now a.night.now a.out.now a.at _ _ _ same e.call e.within in
    record { turn = w.turned; area = w.judged; line = w.written; sound = c.requires.1; within = w.within }

pub returns : goal.returns
returns c =
    let a = c.args in
    let call = c.in_ok-call.ensures in
    let judged = c.judge_sound_area-judgement.ensures in
    let number = judgement-number c.judge_sound_area-judgement.result c.number_of-number.result c.number_of-number.ensures in
    let room = judgement-room c.judge_sound_area-judgement.result c.is_ok_and-no_room.result (search rules) in
    let size = line-length a.index c.number_of-number.result c.is_ok_and-no_room.result (omega arith) (omega arith) in
    let w =
    played-line a.index a.area.now a.night.now a.out.now a.at _ _ c.in_ok-call.call.rest.now _ call.call call.within
    judged.answer judged.area number (judgement-alert c.judge_sound_area-judgement.result) room c.put_line-end.ensures (omega (arith, size, c.put_line-end.ensures.0)) in
    record { turn = w.turned; area = w.judged; line = w.written; sound = judged.sound; within = w.within }
