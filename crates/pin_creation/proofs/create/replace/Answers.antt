-- After the removal the area holds the table without the name, and there is room for the key.
use Rattle.tack_extension.specs.Tack.{public_key}
use Rattle.pin_model.specs.Layout.{decode}
use Rattle.pin_records.proofs.HeldSlots.{holds-stored}
use Rattle.pin_creation.proofs.Creation.{name-held, unrecorded-fresh, removed, removed-name, removed-room, replaced}
use Rattle.pin_creation.proofs.create.replace.Goals as goal

pub drop_unnamed-requires : goal.drop_unnamed-requires
drop_unnamed-requires c = holds-stored c.clear_name.ensures

pub store_new-requires : goal.store_new-requires
store_new-requires c =
    let name = c.args.name.now in
    let tack = c.args.tack.now in
    let clock = c.args.clock.0 in
    let t = decode c.args.area.now in
    let x = name-held name t.names c.args.n c.requires.0.fits.name_slots c.requires.3 in
    let g = removed name tack clock t c.requires.2 c.requires.5 c.requires.6 x c.requires.4 c.clear_name.ensures c.drop_unnamed.ensures in (
      holds-stored g,
      c.requires.1,
      unrecorded-fresh name (public_key tack) (holds-stored g) c.args.n x.below
          (removed-name name tack clock t c.requires.2 c.requires.5 c.requires.6 x c.requires.4 g),
      removed-room name tack clock t c.requires.2 c.requires.5 c.requires.6 x c.requires.4 g,
    )

pub returns : goal.returns
returns c =
    let name = c.args.name.now in
    let tack = c.args.tack.now in
    let clock = c.args.clock.0 in
    let t = decode c.args.area.now in
    let x = name-held name t.names c.args.n c.requires.0.fits.name_slots c.requires.3 in
    let g = removed name tack clock t c.requires.2 c.requires.5 c.requires.6 x c.requires.4 c.clear_name.ensures c.drop_unnamed.ensures in
    replaced name tack clock t c.requires.2 c.requires.5 c.requires.6 x c.requires.4 g c.store_new.ensures
