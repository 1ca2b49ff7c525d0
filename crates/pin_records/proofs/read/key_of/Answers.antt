-- By the slot's key number.
use Rattle.std.proofs.Common.{◌∙◌, arith}
use Rattle.pin_records.proofs.HeldSlots.{held_number, held_below}
use Rattle.pin_records.proofs.read.key_of.Goals as goal

pub at-requires : goal.at-requires
at-requires c =
    let slot = c.name_slot.ensures in
    omega (arith, held_number c.requires.0 _ slot.1 slot.0, held_below c.requires.0 _ slot.1 slot.0)

pub returns : goal.returns
returns c =
    let slot = c.name_slot.ensures in
    let number = held_number c.requires.0 _ slot.1 slot.0 in
    (omega (arith, number, held_below c.requires.0 _ slot.1 slot.0), c.at.ensures ∙ c.from.ensures ∙ c.key_number.ensures ∙ number)
