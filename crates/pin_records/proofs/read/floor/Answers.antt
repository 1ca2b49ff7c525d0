-- By the slot's second byte.
use Rattle.pin_records.proofs.HeldSlots.{held-floor}
use Rattle.pin_records.proofs.read.floor.Goals as goal

pub returns : goal.returns
returns c = held-floor c.requires _ c.key_slot.ensures.1 c.key_slot.ensures.0
