-- By the slot's field.
use Rattle.std.proofs.Common.{◌∙◌}
use Rattle.pin_records.proofs.HeldSlots.{held-initial}
use Rattle.pin_records.proofs.read.initial.Goals as goal

pub returns : goal.returns
returns c = c.initial.ensures ∙ held-initial c.requires _ c.name_slot.ensures.1 c.name_slot.ensures.0
