-- The end's four bytes and the mark before them are the slot of the record with that end.
use Rattle.std.proofs.Common.{ap, ◌∙◌, arith}
use Rattle.octets.specs.Octets.{put, big_endian}
use Rattle.pin_records.proofs.Stores.{end-stored}
use Rattle.pin_records.proofs.store.store_end.Goals as goal

pub returns : goal.returns
returns c =
    let place = c.name_place-at.ensures in
    rw place.0 (end-stored c.requires.0 c.args.n c.args.end.0 place.1 c.requires.1 (omega arith)
    (rw place.0 at (c.put_number.ensures.1 ∙ ap (put _ _) (ap (big_endian 4) c.count.ensures))))
