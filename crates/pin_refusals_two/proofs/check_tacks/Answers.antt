-- The second tack's refusal, behind the first's tests.
use mathlib.Core.Path.{◌≡◌, sym, ◌∙◌}
use mathlib.Core.Option.{none, some}
use Rattle.std.proofs.Common.{rules}
use Rattle.std.proofs.lemmas.Result.{err_from_is_err_and}
use Rattle.tack_extension.specs.Answers.{tack_bytes}
use Rattle.pin_model.specs.Refusals.{first, part_tests}
use Rattle.pin_answers.specs.Numbers.{refusal_number}
use Rattle.pin_refusals_two.proofs.SecondTack.{second-refused}
use Rattle.pin_refusals_two.proofs.check_tacks.Goals as goal
use Rattle.pin_refusals_two.proofs.check_tacks.Goals.{in-Some+in_ok-check_tack, in_default}

pub returns-in_err-check_tack-2 : goal.returns-in_err-check_tack-2
returns-in_err-check_tack-2 c =
    let a = c.args in
    let r = c.from_residual-in_err-check_tack-2 in
    let p = err_from_is_err_and r.result r.ensures.1 in
    let of_first = part_tests a.clock.0 a.hash.now a.checks.first_is_point a.checks.first_correct (tack_bytes a.tacks.first) in
    let passed : ◌≡◌ none (first of_first) = elim c.match-tacks.branch [
      | in-Some+in_ok-check_tack w ↦ rw w.in-Some.is w.in_ok-check_tack.ensures
      | in_default w ↦ search rules
    ] in
    let of_second = part_tests a.clock.0 a.hash.now a.checks.second_is_point a.checks.second_correct (tack_bytes a.tacks.second) in
    let refused : ◌≡◌ (some (refusal_number c.in_err-check_tack-2.field-0.0)) (first of_second) = rw c.in-Some-second.is c.in_err-check_tack-2.ensures in
    rw (p.1, p.2) (second-refused _ of_first of_second _ (sym c.one_key.ensures ∙ c.if-one_key.false) passed refused)
