-- By the slot's first byte.
use Rattle.std.proofs.Common.{ap, ◌∙◌, not}
use Rattle.pin_records.proofs.SlotBytes.{key-read, read-free}
use Rattle.pin_records.proofs.find.key_is_free.Goals as goal

pub returns : goal.returns
returns c = ap not c.is_used.ensures ∙ read-free (key-read _ _ c.key_slot.ensures.1 c.key_slot.ensures.0)
