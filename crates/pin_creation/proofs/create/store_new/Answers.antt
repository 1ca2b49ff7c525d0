-- The key's slot is used, and no slot has the name.
use Rattle.pin_model.specs.Layout.{decode}
use Rattle.pin_creation.proofs.Creation.{slots-ready, record-stored}
use Rattle.pin_creation.proofs.create.store_new.Goals as goal

pub store_name-requires : goal.store_name-requires
store_name-requires c =
    slots-ready c.args.name.now c.args.tack.now c.args.clock.0 (decode c.args.area.now)
    c.take_key-k.ensures.1 c.args.n c.take_key-k.result c.take_key-k.ensures.0 c.requires.1 c.requires.2

pub returns : goal.returns
returns c =
    record-stored c.args.name.now c.args.tack.now c.args.clock.0 (decode c.args.area.now)
    c.take_key-k.ensures.1 c.args.n c.take_key-k.result c.take_key-k.ensures.0 c.store_name.ensures
