-- Each refusal is the first that applies; where none does, the steps give the answer.
use mathlib.Core.Path.{sym, ap, ◌∙◌}
use mathlib.Core.List.{[]}
use Rattle.std.proofs.Common.{rules}
use Rattle.std.proofs.lemmas.Result.{err_from_is_err_and}
use Rattle.tack_extension_two.specs.AnswersTwo.{parts_read_two}
use Rattle.pin_model.specs.Seen.{seen}
use Rattle.pin_refusals.proofs.Passed.{area-passes, given-error, ready}
use Rattle.pin_refusals_two.specs.Parts.{tacks_in_order}
use Rattle.pin_judge_two.proofs.JudgedTwo.{refused-call, refused-handshake, ready-for, refused-form, refused-tacks, judged-so}
use Rattle.pin_judge_two.proofs.judge_folded.Goals as goal

pub returns-in_err-clock : goal.returns-in_err-clock
returns-in_err-clock c =
    let k = seen c.args.connection.now in
    let p = err_from_is_err_and c.from_residual.result c.from_residual.ensures.1 in
    let w = refused-call k c.args.area.now c.requires.0 c.requires.1 c.in_err-clock.ensures.answer in
    record { answer = rw (p.1, p.2) w.0; area = w.1 }

pub check_handshake-requires : goal.check_handshake-requires
check_handshake-requires c = (ready _ [] (λ i. search rules) (area-passes _ c.requires.0)).stored

pub returns-in_err-check_handshake : goal.returns-in_err-check_handshake
returns-in_err-check_handshake c =
    let k = seen c.args.connection.now in
    let r = c.from_residual-in_err-check_handshake in
    let p = err_from_is_err_and r.result r.ensures.1 in
    let called = c.in_ok-clock.ensures in
    let w = refused-handshake k c.args.area.now c.requires.0 c.requires.1 called.answer called.clock c.in_err-check_handshake.ensures in
    record { answer = rw (p.1, p.2) w.0; area = w.1 }

pub returns-in_err-tacks : goal.returns-in_err-tacks
returns-in_err-tacks c =
    let k = seen c.args.connection.now in
    let r = c.from_residual-in_err-tacks in
    let p = err_from_is_err_and r.result r.ensures.1 in
    let called = c.in_ok-clock.ensures in
    let nothing = c.in_err-tacks.ensures in
    let w = refused-form k c.args.area.now c.requires.0 c.requires.1 called.answer called.clock c.in_ok-check_handshake.ensures
    (sym (ap parts_read_two nothing.ok_part) ∙ c.read_extension.ensures) in
    record { answer = rw (p.1, p.2, given-error _ nothing.value nothing.ok_part) w.0; area = w.1 }

pub check_tacks-requires : goal.check_tacks-requires
check_tacks-requires c = (ready _ [] (λ i. search rules) (area-passes _ c.requires.0)).stored

pub returns-in_err-check_tacks : goal.returns-in_err-check_tacks
returns-in_err-check_tacks c =
    let k = seen c.args.connection.now in
    let r = c.from_residual-in_err-check_tacks in
    let p = err_from_is_err_and r.result r.ensures.1 in
    let called = c.in_ok-clock.ensures in
    let w = refused-tacks k c.args.area.now c.requires.0 c.requires.1 called.answer called.clock c.in_ok-check_handshake.ensures
    c.in_ok-tacks.tacks (sym (ap parts_read_two c.in_ok-tacks.ensures.ok_part) ∙ c.read_extension.ensures) c.in_err-check_tacks.ensures in
    record { answer = rw (p.1, p.2) w.0; area = w.1 }

pub apply-requires : goal.apply-requires
apply-requires c =
    let called = c.in_ok-clock.ensures in
    ready-for (seen c.args.connection.now) c.args.area.now c.requires.0 c.requires.1 called.answer called.clock c.in_ok-check_handshake.ensures
    (λ i. search rules) (tacks_in_order c.in_ok-tacks.tacks)

pub returns : goal.returns
returns c =
    let called = c.in_ok-clock.ensures in
    let w = judged-so (seen c.args.connection.now) c.args.area.now c.requires.0 c.requires.1 called.answer called.clock c.in_ok-check_handshake.ensures
    c.in_ok-tacks.tacks (sym (ap parts_read_two c.in_ok-tacks.ensures.ok_part) ∙ c.read_extension.ensures) c.in_ok-check_tacks.ensures c.apply.ensures in
    record { answer = w.0; area = w.1 }
