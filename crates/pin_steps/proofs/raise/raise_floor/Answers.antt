-- The key is found or not, and its floor is lower or not: step 1 in each case.
use native.Mathlib.Omega.{arith}
use Rattle.pin_steps.proofs.Tacks.{tack-key-at, tack-key-absent}
use Rattle.pin_steps.proofs.Floors.{raise-absent, raise-kept, raise-stored}
use Rattle.pin_steps.proofs.raise.raise_floor.Goals as goal

pub returns-in_default : goal.returns-in_default
returns-in_default c =
    raise-absent _ c.requires (tack-key-absent _ c.public_key.ensures c.requires c.in_default.ensures)

pub store_floor-requires : goal.store_floor-requires
store_floor-requires c =
    (c.requires, (tack-key-at _ c.public_key.ensures c.requires _ c.in-Some.ensures).in_use)

pub returns-then-floor-least : goal.returns-then-floor-least
returns-then-floor-least c =
    raise-stored _ c.requires
    (tack-key-at _ c.public_key.ensures c.requires _ c.in-Some.ensures)
    c.min_generation-least.ensures (omega (arith, c.if-floor-least.true, c.floor.ensures)) c.store_floor.ensures

pub returns-else-floor-least : goal.returns-else-floor-least
returns-else-floor-least c =
    raise-kept _ c.requires
    (tack-key-at _ c.public_key.ensures c.requires _ c.in-Some.ensures)
    (omega (arith, c.if-floor-least.false, c.floor.ensures, c.min_generation-least.ensures))
