-- The floor's byte of the slot is set.
use Rattle.pin_records.proofs.Stores.{floor-stored}
use Rattle.pin_records.proofs.store.store_floor.Goals as goal

pub returns : goal.returns
returns c = let place = c.key_place-at.ensures in rw place.0 (floor-stored c.requires.0 c.args.k c.args.floor place.1 c.requires.1)
