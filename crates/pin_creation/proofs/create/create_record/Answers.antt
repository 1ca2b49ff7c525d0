-- What a name without a record, and the slot of one with a record, may rely on.
use mathlib.Core.Path.{sym}
use Rattle.octets.proofs.Tests.{and_right}
use Rattle.pin_records.proofs.Found.{name-found-at, name-absent}
use Rattle.pin_creation.proofs.Creation.{holds-name}
use Rattle.pin_creation.proofs.create.create_record.Goals as goal

pub add-requires : goal.add-requires
add-requires c = (
  c.requires.0,
  c.requires.1,
  c.requires.2,
  name-absent _ c.requires.0.fits.name_slots c.args.name.now c.in-None.ensures,
  sym c.if-not-has_room.ensures,
)

pub replace-requires : goal.replace-requires
replace-requires c =
    let x = name-found-at _ c.requires.0.fits.name_slots c.args.name.now _ c.in-Some.ensures in (
      c.requires.0,
      c.requires.1,
      c.requires.2,
      holds-name c.args.name.now _ _ x,
      and_right c.args.may_record _ (sym c.if-not-wants_record.ensures),
      sym c.if-not-has_room.ensures,
      c.requires.3,
    )
