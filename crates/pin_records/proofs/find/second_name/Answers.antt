-- The slots behind the first are asked in turn.
use Rattle.std.proofs.Common.{sym, ◌∙◌, rules, get_or, ◌+◌}
use Rattle.std.proofs.Math.Option.{none}
use Rattle.pin_model.specs.Table.{name_is}
use Rattle.pin_model.specs.Layout.{decode}
use Rattle.pin_model.specs.Fits.{holds}
use Rattle.pin_table.proofs.Ranges.{mapped, lowest-between}
use Rattle.pin_records.proofs.SecondSlots.{no-first, second-lowest}
use Rattle.pin_records.proofs.find.second_name.Goals as goal

pub returns-in_err-first : goal.returns-in_err-first
returns-in_err-first c =
    c.from_residual.ensures
    ∙ no-first (holds (name_is c.args.name.now)) (decode c.args.area.now).names 128 c.requires.fits.name_slots (sym c.in_err-first.was ∙ c.find_name.ensures)

pub returns : goal.returns
returns c =
    let t = decode c.args.area.now in
    let first = c.in_ok-first.first in
    second-lowest (holds (name_is c.args.name.now)) t.names 128 c.requires.fits.name_slots first (sym c.in_ok-first.was ∙ c.find_name.ensures) c.find.result
    (lowest-between (λ k. holds (name_is c.args.name.now) (get_or t.names k none)) (first + 1) 128 _ _ c.find.result c.find.ensures.ran (mapped _ (first + 1) 128 (rw c.number.ensures.value at c.map.ensures.source) c.map.ensures.closure (λ x r q k. search rules)) (λ x b q k. search rules))
