-- The name is found or not, with the tack's key or another: step 2(i) in each case.
use mathlib.Core.Path.{sym}
use Rattle.pin_model.specs.Layout.{decode}
use Rattle.pin_records.proofs.Found.{name-found-at, name-absent}
use Rattle.pin_steps.proofs.PinnedTests.{pinned-test}
use Rattle.pin_steps.proofs.LongerPins.{extend-absent, extend-other, in-time, extend-stored}
use Rattle.pin_steps.proofs.extend.extend_pin.Goals as goal

pub returns-in_default : goal.returns-in_default
returns-in_default c =
    extend-absent c.args.name.now c.args.tack.now c.args.clock.0 c.requires.0
    (name-absent _ c.requires.0.fits.name_slots _ c.in_default.ensures)

pub pinned_to-requires : goal.pinned_to-requires
pinned_to-requires c =
    let x = name-found-at _ c.requires.0.fits.name_slots _ _ c.in-Some.ensures in
    (c.requires.0, x.in_use)

pub extend_at-requires : goal.extend_at-requires
extend_at-requires c =
    let x = name-found-at _ c.requires.0.fits.name_slots _ _ c.in-Some.ensures in
    let in_time = in-time c.args.name.now c.args.tack.now c.args.clock.0 c.requires.0 c.requires.2 x c.requires.1 in
    (c.requires.0, x.in_use, in_time.0, in_time.1)

pub returns-then-pinned_to : goal.returns-then-pinned_to
returns-then-pinned_to c =
    let x = name-found-at _ c.requires.0.fits.name_slots _ _ c.in-Some.ensures in
    let t = pinned-test (decode c.args.area.now) c.in-Some.n x.what x.there c.args.tack.now c.public_key.ensures c.if-pinned_to.ensures in
    extend-stored c.args.name.now c.args.tack.now c.args.clock.0 c.requires.0 c.requires.2 x (sym t) c.extend_at.ensures

pub returns-else-pinned_to : goal.returns-else-pinned_to
returns-else-pinned_to c =
    let x = name-found-at _ c.requires.0.fits.name_slots _ _ c.in-Some.ensures in
    let t = pinned-test (decode c.args.area.now) c.in-Some.n x.what x.there c.args.tack.now c.public_key.ensures c.if-pinned_to.ensures in
    extend-other c.args.name.now c.args.tack.now c.args.clock.0 c.requires.0 c.requires.2 x (sym t)
