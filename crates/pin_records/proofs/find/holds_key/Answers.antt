-- By the slot's bytes: whether it is used, then its key.
use Rattle.std.proofs.Common.{◌≡◌, sym, ◌∙◌, true, false}
use Rattle.pin_model.specs.Layout.{is_used}
use Rattle.pin_records.proofs.SlotBytes.{key-read, read-unused, read-key}
use Rattle.pin_records.proofs.find.holds_key.Goals as goal

pub returns-then-is_used : goal.returns-then-is_used
returns-then-is_used c =
    let slot = c.key_slot-s.ensures in
    let used : is_used c.key_slot-s.result.now ≡ true = cc in
    c.same_64_at.ensures ∙ read-key _ (key-read _ _ slot.1 slot.0) used

pub returns-else-is_used : goal.returns-else-is_used
returns-else-is_used c =
    let slot = c.key_slot-s.ensures in
    let free : is_used c.key_slot-s.result.now ≡ false = cc in
    c.if-is_used.false ∙ sym (read-unused (key-read _ _ slot.1 slot.0) _ free)
