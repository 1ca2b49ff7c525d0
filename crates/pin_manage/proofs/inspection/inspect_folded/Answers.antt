-- Each answer is the definition's.
use mathlib.Core.Path.{sym, ◌∙◌}
use mathlib.Core.List.{[]}
use Rattle.std.proofs.lemmas.Result.{err_from_is_err_and}
use Rattle.pin_model.specs.Layout.{decode}
use Rattle.pin_refusals.proofs.Passed.{ready}
use Rattle.pin_manage.proofs.Looked.{inspect-refused, inspect-malformed, inspect-nothing, inspect-found, record-used}
use Rattle.pin_manage.proofs.inspection.inspect_folded.Goals as goal

pub returns-in_err-check_area : goal.returns-in_err-check_area
returns-in_err-check_area c =
    let a = c.args in
    let p = err_from_is_err_and c.from_residual.result c.from_residual.ensures.1 in
    rw (p.1, p.2) (inspect-refused a.second a.area.now a.name.now a.clock c.in_err-check_area.ensures)

pub returns-in_err-clock : goal.returns-in_err-clock
returns-in_err-clock c =
    let a = c.args in
    let r = c.from_residual-in_err-clock in
    let p = err_from_is_err_and r.result r.ensures.1 in
    rw (p.1, p.2) (inspect-malformed a.second a.area.now a.name.now a.clock c.in_ok-check_area.ensures c.in_err-clock.ensures.answer)

pub find_record-requires : goal.find_record-requires
find_record-requires c = (ready c.args.area.now [] (λ i. (c.type_inv.area i).fits) (sym c.in_ok-check_area.ensures)).stored

pub returns-in_default : goal.returns-in_default
returns-in_default c =
    let a = c.args in
    let area_passed = c.in_ok-check_area.ensures in
    inspect-nothing a.second a.area.now a.name.now a.clock area_passed c.in_ok-clock.ensures.answer
    (ready a.area.now [] (λ i. (c.type_inv.area i).fits) (sym area_passed)).stored c.in_default.ensures

pub inspect_slot-requires : goal.inspect_slot-requires
inspect_slot-requires c =
    let a = c.args in
    let w = ready a.area.now [] (λ i. (c.type_inv.area i).fits) (sym c.in_ok-check_area.ensures) in
    (w.stored, record-used a.second a.name.now (decode a.area.now).names w.stored.fits.name_slots c.in-Some.n c.in-Some.ensures)

pub returns : goal.returns
returns c =
    let a = c.args in
    let called = c.in_ok-clock.ensures in
    c.inspect_slot.ensures
    ∙ inspect-found a.second a.area.now a.name.now a.clock c.in_ok-check_area.ensures called.answer c.in-Some.n c.in-Some.ensures called.clock
