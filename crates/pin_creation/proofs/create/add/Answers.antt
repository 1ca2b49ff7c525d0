-- The lowest free name slot, which the room is for.
use mathlib.Core.Path.{sym, ◌∙◌}
use Rattle.tack_extension.specs.Tack.{public_key}
use Rattle.pin_model.specs.Layout.{decode}
use Rattle.pin_records.proofs.Found.{found-free}
use Rattle.pin_creation.proofs.RoomFound.{found-free-slot}
use Rattle.pin_creation.proofs.Creation.{unrecorded-fresh, add-free, add-room, added}
use Rattle.pin_creation.proofs.create.add.Goals as goal

pub unwrap-n-requires : goal.unwrap-n-requires
unwrap-n-requires c =
    found-free-slot _ c.requires.0.fits.name_slots _ c.free_name.ensures
    ∙ add-free c.args.name.now c.args.tack.now c.args.clock.0 (decode c.args.area.now) c.requires.2 c.requires.4 c.requires.3

pub store_new-requires : goal.store_new-requires
store_new-requires c =
    let f = found-free _ c.requires.0.fits.name_slots _ (sym c.unwrap-n.ensures ∙ c.free_name.ensures) in (
      c.requires.0,
      c.requires.1,
      unrecorded-fresh c.args.name.now (public_key c.args.tack.now) c.requires.0 _ f.below c.requires.3,
      add-room c.args.name.now c.args.tack.now c.args.clock.0 (decode c.args.area.now) c.requires.2 c.requires.4 c.requires.3,
    )

pub returns : goal.returns
returns c =
    added c.args.name.now c.args.tack.now c.args.clock.0 (decode c.args.area.now) c.requires.2 c.requires.4 c.requires.3 _
    (found-free _ c.requires.0.fits.name_slots _ (sym c.unwrap-n.ensures ∙ c.free_name.ensures)) c.store_new.ensures
