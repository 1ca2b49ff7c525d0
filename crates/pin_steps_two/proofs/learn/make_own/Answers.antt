-- The name has two records already, or there is no slot for it or for the key, or it is stored.
use mathlib.Core.Path.{sym}
use Rattle.pin_model.specs.Table.{name_is}
use Rattle.pin_records.proofs.Found.{found-free, slots-full}
use Rattle.pin_records.proofs.SecondSlots.{two-found, fewer-found}
use Rattle.pin_steps_two.proofs.OwnPins.{has-two, no-name-slot, no-key-slot, own_fresh, own-made}
use Rattle.pin_steps_two.proofs.learn.make_own.Goals as goal

pub returns-then-is_some : goal.returns-then-is_some
returns-then-is_some c =
    has-two c.args.name.now c.args.clock.0 c.args.tack.now c.requires.0
    (two-found (name_is c.args.name.now) _ c.requires.0.fits.name_slots _ c.second_name.ensures c.if-is_some.ensures)

pub returns-in_default-2 : goal.returns-in_default-2
returns-in_default-2 c =
    no-name-slot c.args.name.now c.args.clock.0 c.args.tack.now c.requires.0 c.requires.3
    (fewer-found (name_is c.args.name.now) _ c.requires.0.fits.name_slots _ c.second_name.ensures c.if-is_some.ensures)
    (slots-full _ c.requires.0.fits.name_slots c.in_default.ensures)

pub returns-in_default : goal.returns-in_default
returns-in_default c =
    no-key-slot c.args.name.now c.args.clock.0 c.args.tack.now c.requires.0 c.requires.3
    (fewer-found (name_is c.args.name.now) _ c.requires.0.fits.name_slots _ c.second_name.ensures c.if-is_some.ensures)
    (found-free _ c.requires.0.fits.name_slots _ c.in-Some.ensures) (sym c.if-key_fits.ensures)

pub store_new-requires : goal.store_new-requires
store_new-requires c = (
  c.requires.0,
  c.requires.2,
  own_fresh c.args.name.now c.args.clock.0 c.args.tack.now c.requires.0 c.requires.3
      (fewer-found (name_is c.args.name.now) _ c.requires.0.fits.name_slots _ c.second_name.ensures c.if-is_some.ensures)
      (found-free _ c.requires.0.fits.name_slots _ c.in-Some.ensures) c.requires.1.two,
  sym c.if-key_fits.ensures,
)

pub returns-in-Some : goal.returns-in-Some
returns-in-Some c =
    own-made c.args.name.now c.args.clock.0 c.args.tack.now c.requires.0 c.requires.3
    (fewer-found (name_is c.args.name.now) _ c.requires.0.fits.name_slots _ c.second_name.ensures c.if-is_some.ensures)
    (found-free _ c.requires.0.fits.name_slots _ c.in-Some.ensures) (sym c.if-key_fits.ensures) c.store_new.ensures
