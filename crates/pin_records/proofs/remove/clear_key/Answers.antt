-- The zeros are the bytes of a free slot.
use Rattle.pin_records.proofs.Cleared.{key-cleared}
use Rattle.pin_records.proofs.remove.clear_key.Goals as goal

pub returns : goal.returns
returns c =
    let place = c.key_place.ensures in
    key-cleared c.requires.0 _ place.1 c.requires.1 c.requires.2 (rw place.0 at c.put_zeros.ensures.1)
