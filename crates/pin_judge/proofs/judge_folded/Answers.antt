-- Each refusal is the first that applies; where none does, the steps give the answer.
use mathlib.Core.Path.{sym, ap, ◌∙◌}
use mathlib.Core.List.{[]}
use Rattle.std.proofs.Common.{rules}
use Rattle.std.proofs.lemmas.Result.{err_from_is_err_and}
use Rattle.tack_extension.specs.Extension.{parts}
use Rattle.tack_extension.specs.Answers.{tack_bytes, parts_read}
use Rattle.tack_extension.proofs.Steps.{breaks-small}
use Rattle.pin_model.specs.Seen.{seen}
use Rattle.pin_refusals.proofs.Passed.{area-passes, given-error, ready}
use Rattle.pin_judge.proofs.Judged.{refused-call, refused-handshake, in-order, refused-form, refused-breaks, refused-tack, judged-so, breaks-allowed}
use Rattle.pin_judge.proofs.judge_folded.Goals as goal

pub returns-in_err-clock : goal.returns-in_err-clock
returns-in_err-clock c =
    let k = seen c.args.connection.now in
    let p = err_from_is_err_and c.from_residual.result c.from_residual.ensures.1 in
    let w = refused-call k c.args.area.now c.requires.0 c.requires.1 c.in_err-clock.ensures.answer in
    record { answer = rw (p.1, p.2) w.0; area = w.1 }

pub check_handshake-requires : goal.check_handshake-requires
check_handshake-requires c = (ready _ [] (λ i. search rules) (area-passes _ c.requires.0)).stored

pub returns-in_err-check_handshake : goal.returns-in_err-check_handshake
returns-in_err-check_handshake c =
    let k = seen c.args.connection.now in
    let r = c.from_residual-in_err-check_handshake in
    let p = err_from_is_err_and r.result r.ensures.1 in
    let called = c.in_ok-clock.ensures in
    let w = refused-handshake k c.args.area.now c.requires.0 c.requires.1 called.answer called.clock c.in_err-check_handshake.ensures in
    record { answer = rw (p.1, p.2) w.0; area = w.1 }

pub returns-in_err-shown : goal.returns-in_err-shown
returns-in_err-shown c =
    let k = seen c.args.connection.now in
    let r = c.from_residual-in_err-shown in
    let p = err_from_is_err_and r.result r.ensures.1 in
    let called = c.in_ok-clock.ensures in
    let nothing = c.in_err-shown.ensures in
    let w = refused-form k c.args.area.now c.requires.0 c.requires.1 called.answer called.clock c.in_ok-check_handshake.ensures
    (sym (ap parts_read nothing.ok_part) ∙ c.read_extension.ensures) in
    record { answer = rw (p.1, p.2, given-error _ nothing.value nothing.ok_part) w.0; area = w.1 }

pub check_breaks-requires : goal.check_breaks-requires
check_breaks-requires c =
    let k = seen c.args.connection.now in
    let e = c.in_ok-shown.shown in
    breaks-small _ (breaks-allowed k (parts (tack_bytes e.tack) e.breaks.now e.activation) (sym (ap parts_read c.in_ok-shown.ensures.ok_part) ∙ c.read_extension.ensures))

pub returns-in_err-check_breaks : goal.returns-in_err-check_breaks
returns-in_err-check_breaks c =
    let k = seen c.args.connection.now in
    let r = c.from_residual-in_err-check_breaks in
    let p = err_from_is_err_and r.result r.ensures.1 in
    let called = c.in_ok-clock.ensures in
    let e = c.in_ok-shown.shown in
    let read = sym (ap parts_read c.in_ok-shown.ensures.ok_part) ∙ c.read_extension.ensures in
    let w = refused-breaks k c.args.area.now c.requires.0 c.requires.1 called.answer called.clock c.in_ok-check_handshake.ensures
    (parts (tack_bytes e.tack) e.breaks.now e.activation) read c.in_err-check_breaks.ensures in
    record { answer = rw (p.1, p.2) w.0; area = w.1 }

pub check_tack-requires : goal.check_tack-requires
check_tack-requires c = (ready _ [] (λ i. search rules) (area-passes _ c.requires.0)).stored

pub returns-in_err-check_tack : goal.returns-in_err-check_tack
returns-in_err-check_tack c =
    let k = seen c.args.connection.now in
    let r = c.from_residual-in_err-check_tack in
    let p = err_from_is_err_and r.result r.ensures.1 in
    let called = c.in_ok-clock.ensures in
    let e = c.in_ok-shown.shown in
    let read = sym (ap parts_read c.in_ok-shown.ensures.ok_part) ∙ c.read_extension.ensures in
    let refused = c.in_err-check_tack.ensures in
    let w = refused-tack k c.args.area.now c.requires.0 c.requires.1 called.answer called.clock c.in_ok-check_handshake.ensures
    (parts (tack_bytes e.tack) e.breaks.now e.activation) read c.in_ok-check_breaks.ensures refused.answer refused.area in
    record { answer = rw (p.1, p.2) w.0; area = w.1 }

pub apply-requires : goal.apply-requires
apply-requires c =
    let k = seen c.args.connection.now in
    let called = c.in_ok-clock.ensures in
    let e = c.in_ok-shown.shown in
    let known = in-order k c.args.area.now c.requires.0 c.requires.1 called.answer called.clock c.in_ok-check_handshake.ensures (λ i. search rules) in (
      rw c.in_ok-check_tack.ensures.area known,
      breaks-allowed k (parts (tack_bytes e.tack) e.breaks.now e.activation) (sym (ap parts_read c.in_ok-shown.ensures.ok_part) ∙ c.read_extension.ensures),
    )

pub returns : goal.returns
returns c =
    let k = seen c.args.connection.now in
    let called = c.in_ok-clock.ensures in
    let e = c.in_ok-shown.shown in
    let read = sym (ap parts_read c.in_ok-shown.ensures.ok_part) ∙ c.read_extension.ensures in
    let passed = c.in_ok-check_tack.ensures in
    let w = judged-so k c.args.area.now c.requires.0 c.requires.1 called.answer called.clock c.in_ok-check_handshake.ensures
    (parts (tack_bytes e.tack) e.breaks.now e.activation) read c.in_ok-check_breaks.ensures passed.answer (rw passed.area at c.apply.ensures) in
    record { answer = w.0; area = w.1 }
