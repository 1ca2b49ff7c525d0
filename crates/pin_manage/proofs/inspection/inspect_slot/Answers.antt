-- The fields that were read are those of the slot's record.
use mathlib.Core.Path.{ap, ◌∙◌}
use mathlib.Core.Option.{none}
use Prim.Native.Nat.{ℕ}
use lib.ListN.{get_or}
use Rattle.std.proofs.Common.{rules}
use Rattle.pin_model.specs.Layout.{decode}
use Rattle.pin_model.specs.Fits.{floor_at}
use Rattle.pin_manage.proofs.Looked.{said}
use Rattle.pin_manage.proofs.inspection.inspect_slot.Goals as goal

pub returns : goal.returns
returns c =
    said c.args.clock.0 (decode c.args.area.now).keys _ _ (get_or (decode c.args.area.now).names c.args.n none) c.requires.1
    (c.floor.ensures ∙ ap (λ (k : ℕ). floor_at (get_or (decode c.args.area.now).keys k none)) c.key_of.ensures.1)
    (c.count.ensures ∙ c.initial.ensures)
    _ c.end.ensures _ c.map.ensures.cases (λ m e q. search rules)
