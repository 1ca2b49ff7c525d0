-- The verdict by the slot that has the name: none, inactive, or active, with the tack's key or without it.
use mathlib.Core.Path.{refl, sym}
use mathlib.Core.Bool.{true, false}
use mathlib.Core.List.{[]}
use Rattle.tack_extension.specs.Answers.{tack_bytes}
use Rattle.pin_records.proofs.Found.{name-found-at, name-absent}
use Rattle.pin_steps.proofs.ActivePins.{verdict-absent, verdict-inactive, verdict-empty, verdict-shown}
use Rattle.pin_steps.proofs.verdict.verdict_for.Goals as goal

pub returns-in_default : goal.returns-in_default
returns-in_default c =
    verdict-absent c.requires.0 c.args.name.now c.args.clock.0 (tack_bytes c.args.tack)
    (name-absent _ c.requires.0.fits.name_slots _ c.in_default.ensures)

pub returns-then-not-is_active : goal.returns-then-not-is_active
returns-then-not-is_active c =
    verdict-inactive c.requires.0 c.args.name.now c.args.clock.0 (tack_bytes c.args.tack) c.requires.1
    (name-found-at _ c.requires.0.fits.name_slots _ _ c.in-Some.ensures) (sym c.if-not-is_active.ensures)

pub returns-in-Some-tack : goal.returns-in-Some-tack
returns-in-Some-tack c =
    rw c.in-Some-tack.is
    (verdict-shown c.requires.0 c.args.name.now c.args.clock.0 c.in-Some-tack.tack.now c.requires.1
    (name-found-at _ c.requires.0.fits.name_slots _ _ c.in-Some.ensures) (sym c.if-not-is_active.ensures) true c.if-is_shown.ensures)

pub returns-in_default-tack : goal.returns-in_default-tack
returns-in_default-tack c =
    rw c.in-Some-tack.is
    (verdict-shown c.requires.0 c.args.name.now c.args.clock.0 c.in-Some-tack.tack.now c.requires.1
    (name-found-at _ c.requires.0.fits.name_slots _ _ c.in-Some.ensures) (sym c.if-not-is_active.ensures) false c.if-is_shown.ensures)

pub returns-in_default-tack-2 : goal.returns-in_default-tack-2
returns-in_default-tack-2 c =
    rw c.in_default-tack.is
    (verdict-empty c.requires.0 c.args.name.now c.args.clock.0 [] c.requires.1
    (name-found-at _ c.requires.0.fits.name_slots _ _ c.in-Some.ensures) (sym c.if-not-is_active.ensures) refl)
