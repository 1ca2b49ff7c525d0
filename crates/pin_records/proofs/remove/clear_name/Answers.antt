-- The zeros are the bytes of a free slot.
use Rattle.pin_records.proofs.Cleared.{name-cleared}
use Rattle.pin_records.proofs.remove.clear_name.Goals as goal

pub returns : goal.returns
returns c = let place = c.name_place.ensures in name-cleared c.requires _ place.1 (rw place.0 at c.put_zeros.ensures.1)
