-- The slots are asked in turn.
use mathlib.Core.Path.{refl, ◌∙◌}
use mathlib.Core.Bool.{not, ◌&&◌}
use mathlib.Core.Option.{none}
use lib.ListN.{get_or}
use Rattle.std.proofs.Common.{rules}
use Rattle.pin_model.specs.Table.{NameRecord}
use Rattle.pin_model.specs.Layout.{decode}
use Rattle.pin_model.specs.Fits.{holds}
use Rattle.pin_model.specs.Judge.{active_of}
use Rattle.pin_table.proofs.Ranges.{any-below, below}
use Rattle.pin_records.proofs.AnySlot.{any-slot}
use Rattle.pin_refusals_two.specs.Parts.{both_in}
use Rattle.pin_steps_two.specs.Shown.{shown_for}
use Rattle.pin_steps_two.proofs.verdict.is_contradicted.Goals as goal

pub returns : goal.returns
returns c =
    let names = (decode c.args.area.now).names in
    let against = λ (r : NameRecord). active_of c.args.name.now c.args.clock.0 r && not (shown_for (both_in c.args.tacks) r) in
    any-below (λ i. holds against (get_or names i none)) 128 _ _ _ c.any.ensures.ran (below 128 refl) (λ x b q k. search rules)
    ∙ any-slot against names 128 c.requires.fits.name_slots
