-- By the slot's fields: whether there is an end, then the end.
use Rattle.pin_records.proofs.HeldSlots.{held-absent, held-end}
use Rattle.pin_records.proofs.read.end.Goals as goal

pub returns-then-s-ne1 : goal.returns-then-s-ne1
returns-then-s-ne1 c = held-absent c.requires _ c.name_slot-s.ensures.1 c.name_slot-s.ensures.0 c.if-s-ne1.true

pub returns : goal.returns
returns c = held-end c.requires _ c.name_slot-s.ensures.1 c.name_slot-s.ensures.0 _ c.if-s-ne1.false c.end.ensures
