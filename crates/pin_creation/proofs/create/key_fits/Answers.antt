-- By the two searches' answers.
use mathlib.Core.Path.{◌∙◌}
use Rattle.pin_model.specs.Layout.{decode}
use Rattle.pin_creation.proofs.RoomFound.{found-key, found-free-slot, key-room, slot-room}
use Rattle.pin_creation.proofs.create.key_fits.Goals as goal

pub returns-then-is_some : goal.returns-then-is_some
returns-then-is_some c =
    c.if-is_some.true
    ∙ key-room c.args.tack.now (decode c.args.area.now) (c.if-is_some.ensures ∙ found-key c.args.tack.now c.public_key.ensures c.requires _ c.find_key.ensures)

pub returns-else-is_some : goal.returns-else-is_some
returns-else-is_some c =
    c.is_some-else-is_some.ensures
    ∙ found-free-slot _ c.requires.fits.key_slots _ c.free_key.ensures
    ∙ slot-room c.args.tack.now (decode c.args.area.now) (c.if-is_some.ensures ∙ found-key c.args.tack.now c.public_key.ensures c.requires _ c.find_key.ensures)
