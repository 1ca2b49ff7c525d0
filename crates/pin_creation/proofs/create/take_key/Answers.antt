-- The key's old record, or a new one in the lowest free slot, which the room is for.
use mathlib.Core.Path.{sym, ◌∙◌}
use Rattle.pin_records.proofs.Found.{key-absent, found-free}
use Rattle.pin_steps.proofs.Tacks.{tack-key-at, tack-key-absent}
use Rattle.pin_creation.proofs.RoomFound.{found-free-slot}
use Rattle.pin_creation.proofs.KeyTaken.{key-kept, key-made, room-free}
use Rattle.pin_creation.proofs.create.take_key.Goals as goal

pub returns-in-Some : goal.returns-in-Some
returns-in-Some c =
    let tack = c.args.tack.now in
    key-kept tack c.requires.0 _ (tack-key-at tack c.public_key-key.ensures c.requires.0 _ c.in-Some.ensures)

pub unwrap-k-requires : goal.unwrap-k-requires
unwrap-k-requires c =
    let tack = c.args.tack.now in
    found-free-slot _ c.requires.0.fits.key_slots _ c.free_key.ensures
    ∙ room-free tack c.requires.0 (tack-key-absent tack c.public_key-key.ensures c.requires.0 c.in_default.ensures) c.requires.1

pub store_key-requires : goal.store_key-requires
store_key-requires c = (
  c.requires.0,
  (found-free _ c.requires.0.fits.key_slots _ (sym c.unwrap-k.ensures ∙ c.free_key.ensures)).free,
  key-absent _ c.requires.0.fits.key_slots _ c.in_default.ensures,
)

pub returns : goal.returns
returns c =
    let tack = c.args.tack.now in
    let key = c.public_key-key.ensures in
    key-made tack c.requires.0
    (tack-key-absent tack key c.requires.0 c.in_default.ensures) _
    (found-free _ c.requires.0.fits.key_slots _ (sym c.unwrap-k.ensures ∙ c.free_key.ensures)) key c.min_generation.ensures c.store_key.ensures
