-- Three pieces, each behind the one before it, are the bytes of the slot.
use Rattle.std.proofs.Common.{refl, [], ◌∷◌, replicate, arith}
use Rattle.octets.proofs.Runs.{first, step}
use Rattle.pin_records.proofs.Stores.{key-stored}
use Rattle.pin_records.proofs.store.store_key.Goals as goal

pub returns : goal.returns
returns c =
    let key = c.args.key.now in
    let place = c.key_place-at.ensures in
    let w₁ = first (1 ∷ (c.args.floor ∷ [])) refl c.put_part-at_zeros.ensures in
    let w₂ = step (replicate 6 0) refl w₁ (omega arith) c.put_zeros-at_key.ensures in
    let w₃ = step key refl w₂ (omega arith) c.put_part.ensures in
    key-stored c.requires.0 c.args.k c.args.floor key place.1 c.requires.1 c.told-key c.requires.2 (rw place.0 at w₃.bytes)
