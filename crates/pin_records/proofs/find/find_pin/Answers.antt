-- The slots are asked in turn.
use Rattle.std.proofs.Common.{rules, get_or}
use Rattle.std.proofs.Math.Option.{none}
use Rattle.pin_model.specs.Layout.{decode}
use Rattle.pin_model.specs.Table.{pin_is}
use Rattle.pin_model.specs.Fits.{holds}
use Rattle.pin_table.proofs.Ranges.{mapped, lowest-between}
use Rattle.pin_records.proofs.Found.{lowest-slot}
use Rattle.pin_records.proofs.find.find_pin.Goals as goal

pub returns : goal.returns
returns c =
    let t = decode c.args.area.now in
    lowest-slot (holds (pin_is c.args.name.now c.args.key.now)) t.names 128 c.requires.fits.name_slots c.find.result
    (lowest-between (λ k. (holds (pin_is c.args.name.now c.args.key.now)) (get_or t.names k none)) 0 128 _ _ c.find.result c.find.ensures.ran (mapped _ 0 128 c.map.ensures.source c.map.ensures.closure (λ x r q k. search rules)) (λ x b q k. search rules))
