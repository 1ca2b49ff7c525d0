-- The key is found or not: step 3 for this key in each case.
use Rattle.pin_records.proofs.HeldSlots.{holds-stored}
use Rattle.pin_records.proofs.Found.{key-found-at, key-absent}
use Rattle.pin_steps.proofs.BrokenKeys.{break-absent, broken-used, broken-unnamed, break-cleared}
use Rattle.pin_steps.proofs.breaks.break_key.Goals as goal

pub returns-in_default : goal.returns-in_default
returns-in_default c =
    break-absent c.args.key.now c.requires (key-absent _ c.requires.fits.key_slots _ c.in_default.ensures)

pub drop_names-requires : goal.drop_names-requires
drop_names-requires c =
    (c.requires, (key-found-at _ c.requires.fits.key_slots _ _ c.in-Some.ensures).in_use)

pub clear_key-requires : goal.clear_key-requires
clear_key-requires c =
    let x = key-found-at _ c.requires.fits.key_slots _ _ c.in-Some.ensures in (
      holds-stored c.drop_names.ensures,
      broken-used c.args.key.now c.requires x c.drop_names.ensures,
      broken-unnamed c.args.key.now c.requires x c.drop_names.ensures,
    )

pub returns : goal.returns
returns c =
    let x = key-found-at _ c.requires.fits.key_slots _ _ c.in-Some.ensures in
    break-cleared c.args.key.now c.requires x c.drop_names.ensures c.clear_key.ensures
