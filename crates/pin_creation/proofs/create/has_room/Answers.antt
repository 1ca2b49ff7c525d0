-- By whether the name has a slot, and then by the key: its record, a free slot, or the slot that the removal frees.
use mathlib.Core.Path.{sym, ◌∙◌}
use Rattle.pin_model.specs.Layout.{decode}
use Rattle.pin_records.proofs.Found.{name-found-at, name-absent}
use Rattle.pin_creation.proofs.RoomFound.{found-free-slot, room-full, room-new, room-key, room-last}
use Rattle.pin_creation.proofs.create.has_room.Goals as goal

pub last_on_key-requires : goal.last_on_key-requires
last_on_key-requires c =
    (c.requires.0, (name-found-at _ c.requires.0.fits.name_slots c.args.name.now _ c.in-Some.ensures).in_use)

pub returns-then-key_fits : goal.returns-then-key_fits
returns-then-key_fits c =
    c.if-key_fits.true
    ∙ room-key c.args.name.now c.args.tack.now c.args.clock.0 (decode c.args.area.now) c.requires.1
    (name-found-at _ c.requires.0.fits.name_slots c.args.name.now _ c.in-Some.ensures) (sym c.if-key_fits.ensures)

pub returns-else-key_fits : goal.returns-else-key_fits
returns-else-key_fits c =
    c.last_on_key.ensures
    ∙ room-last c.args.name.now c.args.tack.now c.args.clock.0 (decode c.args.area.now) c.requires.1
    (name-found-at _ c.requires.0.fits.name_slots c.args.name.now _ c.in-Some.ensures) c.requires.2 (sym c.if-key_fits.ensures)

pub returns-then-is_some : goal.returns-then-is_some
returns-then-is_some c =
    c.key_fits-then-is_some.ensures
    ∙ room-new c.args.name.now c.args.tack.now c.args.clock.0 (decode c.args.area.now) c.requires.1
    (name-absent _ c.requires.0.fits.name_slots c.args.name.now c.in-None.ensures)
    (sym (c.if-is_some.ensures ∙ found-free-slot _ c.requires.0.fits.name_slots _ c.free_name.ensures))

pub returns-else-is_some : goal.returns-else-is_some
returns-else-is_some c =
    c.if-is_some.false
    ∙ room-full c.args.name.now c.args.tack.now c.args.clock.0 (decode c.args.area.now) c.requires.1
    (name-absent _ c.requires.0.fits.name_slots c.args.name.now c.in-None.ensures)
    (sym (c.if-is_some.ensures ∙ found-free-slot _ c.requires.0.fits.name_slots _ c.free_name.ensures))
