-- By the slot's key number, since no key stands in two slots.
use Rattle.std.proofs.Common.{◌∙◌}
use Rattle.pin_records.proofs.HeldSlots.{held-refers}
use Rattle.pin_records.proofs.read.refers_to.Goals as goal

pub returns : goal.returns
returns c = c.refers_to.ensures ∙ held-refers c.requires.0 _ c.name_slot.ensures.1 c.name_slot.ensures.0 _ c.requires.1
