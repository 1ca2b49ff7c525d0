-- A call that may not make a record wants none; else by the name's slot, where it has one.
use mathlib.Core.Path.{ap, ◌∙◌}
use mathlib.Core.Bool.{not}
use Rattle.pin_model.specs.Layout.{decode}
use Rattle.pin_records.proofs.Found.{name-found-at, name-absent}
use Rattle.pin_creation.proofs.Wanted.{by-may-record, wanted-new, wanted-own, wanted-other}
use Rattle.pin_creation.proofs.create.wants_record.Goals as goal

pub returns-in_default : goal.returns-in_default
returns-in_default c =
    by-may-record c.args.name.now c.args.tack.now c.args.clock.0 (decode c.args.area.now)
    c.if-not-may_record.false
    (wanted-new c.args.name.now c.args.tack.now c.args.clock.0 c.requires.0
    (name-absent _ c.requires.0.fits.name_slots c.args.name.now c.in_default.ensures))

pub pinned_to-requires : goal.pinned_to-requires
pinned_to-requires c =
    (c.requires.0, (name-found-at _ c.requires.0.fits.name_slots c.args.name.now _ c.in-Some.ensures).in_use)

pub returns-then-not-pinned_to : goal.returns-then-not-pinned_to
returns-then-not-pinned_to c =
    by-may-record c.args.name.now c.args.tack.now c.args.clock.0 (decode c.args.area.now)
    c.if-not-may_record.false
    (ap not c.is_active.ensures
    ∙ wanted-other c.args.name.now c.args.tack.now c.args.clock.0 c.requires.0 c.requires.1
    (name-found-at _ c.requires.0.fits.name_slots c.args.name.now _ c.in-Some.ensures) c.public_key.ensures c.if-not-pinned_to.ensures)

pub returns-else-not-pinned_to : goal.returns-else-not-pinned_to
returns-else-not-pinned_to c =
    by-may-record c.args.name.now c.args.tack.now c.args.clock.0 (decode c.args.area.now)
    c.if-not-may_record.false
    (ap not c.if-not-pinned_to.false
    ∙ wanted-own c.args.name.now c.args.tack.now c.args.clock.0 c.requires.0 c.requires.1
    (name-found-at _ c.requires.0.fits.name_slots c.args.name.now _ c.in-Some.ensures) c.public_key.ensures c.if-not-pinned_to.ensures)
