-- The four bytes of latest are put in.
use Rattle.std.proofs.Common.{ap, ◌∙◌, arith}
use Rattle.octets.specs.Octets.{put, big_endian}
use Rattle.pin_records.proofs.Stores.{latest-stored}
use Rattle.pin_records.proofs.store.store_latest.Goals as goal

pub returns : goal.returns
returns c =
    latest-stored c.requires c.args.clock.0 (omega arith)
    (c.put_number.ensures.1 ∙ ap (put _ _) (ap (big_endian 4) c.count.ensures))
