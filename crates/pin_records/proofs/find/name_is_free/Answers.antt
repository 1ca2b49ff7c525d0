-- By the slot's first byte.
use Rattle.std.proofs.Common.{ap, ◌∙◌, not}
use Rattle.pin_records.proofs.SlotBytes.{name-read, read-free}
use Rattle.pin_records.proofs.find.name_is_free.Goals as goal

pub returns : goal.returns
returns c = ap not c.is_used.ensures ∙ read-free (name-read _ _ _ c.name_slot.ensures.1 c.name_slot.ensures.0)
