-- Five pieces, each behind the one before it, are the bytes of the slot.
use Rattle.std.proofs.Common.{refl, ap, ◌∙◌, [], ◌∷◌, ◌-◌, length, replicate, arith}
use lib.ListN.{length-replicate}
use Rattle.octets.specs.Octets.{put, big_endian}
use Rattle.octets.proofs.Numbers.{big_endian-length}
use Rattle.octets.proofs.Runs.{first, step}
use Rattle.pin_records.proofs.Stores.{name-stored}
use Rattle.pin_records.proofs.store.store_name.Goals as goal

pub returns : goal.returns
returns c =
    let name = c.args.name.now in
    let clock = c.args.clock.0 in
    let place = c.name_place-at.ensures in
    let number = c.number-key_number.ensures in
    let w₁ = first (1 ∷ (c.number-key_number.result ∷ (length name ∷ (0 ∷ [])))) refl c.put_part-at_initial.ensures in
    let w₂ = step (big_endian 4 clock) (big_endian-length 4 clock) w₁ (omega arith) (c.put_number-at_end.ensures.0, c.put_number-at_end.ensures.1 ∙ ap (put _ _) (ap (big_endian 4) c.count.ensures)) in
    let w₃ = step (replicate 8 0) refl w₂ (omega arith) c.put_zeros-at_name.ensures in
    let w₄ = step name refl w₃ (omega arith) c.put_part-at_padding.ensures in
    let w₅ = step (replicate (256 - length name) 0) (length-replicate (256 - length name) 0) w₄ (omega arith) c.put_zeros.ensures in
    name-stored c.requires.0 c.args.n c.args.k clock name place.1 number.within c.requires.1 c.requires.2 c.requires.3 (omega arith) (rw (place.0, number.value) at w₅.bytes)
