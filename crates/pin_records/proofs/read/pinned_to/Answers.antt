-- By the key slot that the name's points to.
use Rattle.std.proofs.Common.{◌∙◌}
use Rattle.pin_records.proofs.PinnedKeys.{pinned-by-slot}
use Rattle.pin_records.proofs.read.pinned_to.Goals as goal

pub returns : goal.returns
returns c = c.holds_key.ensures ∙ pinned-by-slot c.requires.0 _ _ c.requires.1 c.key_of.ensures.1
