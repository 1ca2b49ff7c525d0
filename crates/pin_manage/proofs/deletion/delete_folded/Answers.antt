-- Each answer, and the area that goes with it.
use mathlib.Core.Path.{sym}
use Rattle.std.proofs.Common.{rules}
use Rattle.std.proofs.lemmas.Result.{err_from_is_err_and}
use Rattle.pin_model.specs.Table.{name_is}
use Rattle.pin_model.specs.Refusals.{name_test}
use Rattle.pin_model.specs.Calls.{refusal, delete}
use Rattle.pin_records.proofs.HeldSlots.{holds-stored}
use Rattle.pin_refusals.proofs.Passed.{call-refused, ready}
use Rattle.pin_manage.proofs.Deleted.{delete-nothing, delete-found, recorded-none, recorded-some}
use Rattle.pin_manage.proofs.deletion.delete_folded.Goals as goal

pub returns-in_err-check_name : goal.returns-in_err-check_name
unfolding refusal
returns-in_err-check_name c =
    let a = c.args in
    let p = err_from_is_err_and c.from_residual.result c.from_residual.ensures.1 in
    let w = call-refused (delete a.name.now) a.area.now _ (sym c.in_err-check_name.ensures) in
    record { answer = rw (p.1, p.2) w.0; area = w.1 }

pub find_name-requires : goal.find_name-requires
find_name-requires c = (ready c.args.area.now (name_test c.args.name.now) (λ i. search rules) (sym c.in_ok-check_name.ensures)).stored

pub returns-then-is_none : goal.returns-then-is_none
unfolding refusal
returns-then-is_none c =
    let a = c.args in
    let passed = sym c.in_ok-check_name.ensures in
    let w = ready a.area.now (name_test a.name.now) (λ i. search rules) passed in
    let d = delete-nothing a.area.now a.name.now passed w.stored (recorded-none w.stored a.name.now _ c.find_name.ensures c.if-is_none.ensures) in
    record { answer = d.0; area = d.1 }

pub clear_names-requires : goal.clear_names-requires
clear_names-requires c =
    ((ready c.args.area.now (name_test c.args.name.now) (λ i. search rules) (sym c.in_ok-check_name.ensures)).stored, λ b n l k. let s = k.stored in search rules)

pub drop_unnamed-requires : goal.drop_unnamed-requires
drop_unnamed-requires c = holds-stored (c.clear_names.ensures (name_is c.args.name.now) (λ b n v l k said. search rules))

pub returns : goal.returns
unfolding refusal
returns c =
    let a = c.args in
    let passed = sym c.in_ok-check_name.ensures in
    let w = ready a.area.now (name_test a.name.now) (λ i. search rules) passed in
    let found = recorded-some w.stored a.name.now _ c.find_name.ensures c.if-is_none.ensures in
    let cleared = c.clear_names.ensures (name_is a.name.now) (λ b n v l k said. search rules) in
    let d = delete-found a.area.now a.name.now passed found _ _ cleared c.drop_unnamed.ensures in
    record { answer = d.0; area = d.1 }
