-- The pin of the name and the tack's key is extended, or it is made.
use mathlib.Core.Path.{◌≡◌}
use Rattle.std.proofs.Common.{rules, length}
use Rattle.pin_model.specs.Layout.{decode}
use Rattle.pin_steps_two.proofs.OwnPins.{pin_at, pin-absent, clock-limit, own-begun, own-extended, learned-extended, learned-made}
use Rattle.pin_steps_two.proofs.learn.learn_own.Goals as goal

pub make_own-requires : goal.make_own-requires
make_own-requires c = (
  c.requires.0,
  c.requires.1,
  c.requires.2,
  pin-absent c.args.name.now c.public_key.ensures _ c.requires.0.fits.name_slots c.in-None.ensures,
)

pub returns-in-None : goal.returns-in-None
returns-in-None c =
    let size : length c.args.tack.now ≡ 166 = search rules in
    learned-made c.args.name.now c.args.clock.0 (decode c.args.area.now) _ c.args.tack.now size
    (pin-absent c.args.name.now c.public_key.ensures _ c.requires.0.fits.name_slots c.in-None.ensures) c.make_own.ensures

pub extend_at-requires : goal.extend_at-requires
extend_at-requires c =
    let x = pin_at c.args.name.now c.public_key.ensures _ c.requires.0.fits.name_slots _ c.in-Some.ensures in (
      c.requires.0,
      x.in_use,
      clock-limit c.requires.1,
      own-begun c.args.name.now c.args.clock.0 c.args.tack.now c.requires.0 x c.requires.1,
    )

pub returns-in-Some : goal.returns-in-Some
returns-in-Some c =
    let size : length c.args.tack.now ≡ 166 = search rules in
    let x = pin_at c.args.name.now c.public_key.ensures _ c.requires.0.fits.name_slots _ c.in-Some.ensures in
    learned-extended c.args.name.now c.args.clock.0 (decode c.args.area.now) _ c.args.tack.now size x.recorded
    (own-extended c.args.name.now c.args.clock.0 c.args.tack.now c.requires.0 x c.extend_at.ensures)
