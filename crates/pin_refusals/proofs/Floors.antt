-- The key's one record decides whether a tack is revoked.
use mathlib.Core.Path.{◌≡◌, sym, ◌∙◌, ap}
use mathlib.Core.Bool.{false, ◌&&◌}
use mathlib.Core.List.{List}
use mathlib.Core.Option.{Option, none}
use Prim.Native.Nat.{ℕ}
use lib.Dec.{ltb}
use lib.ListN.{get_or}
use Rattle.std.specs.Prelude.{Some, None}
use Rattle.octets.proofs.Tests.{and_left}
use Rattle.tack_extension.specs.Tack.{public_key, generation}
use Rattle.pin_model.specs.Slots.{used}
use Rattle.pin_model.specs.Table.{KeyRecord, key_is}
use Rattle.pin_model.specs.Layout.{decode}
use Rattle.pin_model.specs.Fits.{holds, floor_at}
use Rattle.pin_model.specs.Refusals.{revoked}
use Rattle.pin_model.proofs.Lists.{none-implied}
use Rattle.pin_records.specs.Holds.{Stored}
use Rattle.pin_records.specs.Find.{first_slot, slot_found}
use Rattle.pin_records.proofs.Found.{key-found-at, key-absent, found-any}

-- what a search for the tack's key answers
module _ {b : List ℕ} (s : Stored b) (tack key : List ℕ) (its : key ≡ public_key tack) where
  pub not-revoked : None ≡ slot_found 64 (first_slot (holds (key_is key)) (decode b).keys) → revoked (decode b) tack ≡ false
  not-revoked e =
      rw (← its) (none-implied (λ k. key_is key k && ltb (generation tack) k.floor) (key_is key)
      (λ k. and_left (key_is key k) (ltb (generation tack) k.floor)) (used (decode b).keys) (key-absent (decode b).keys s.fits.key_slots key e))

  pub revoked-by : (k : ℕ) → Some k ≡ slot_found 64 (first_slot (holds (key_is key)) (decode b).keys)
      → revoked (decode b) tack ≡ ltb (generation tack) (floor_at (get_or (decode b).keys k none))
  revoked-by k e =
      let x = key-found-at (decode b).keys s.fits.key_slots key k e in
      rw (← its) (found-any x (s.fits.key_once key) (λ r. ltb (generation tack) r.floor)
      ∙ sym (ap (λ (o : Option KeyRecord). ltb (generation tack) (floor_at o)) x.there))
