-- The floor of a key record is one byte of the area: what another floor, and step 1, do to the bytes.
use mathlib.Core.Path.{◌≡◌, refl, sym, ◌∙◌, ap}
use mathlib.Core.Bool.{true, false, cond}
use mathlib.Core.List.{List, [], ◌∷◌}
use mathlib.Core.Option.{Option, none, some}
use Prim.Native.Nat.{ℕ, ◌+◌, ◌*◌, ◌<◌, max}
use native.Mathlib.Omega.{arith}
use lib.ListN.{get_or, set}
use Rattle.octets.specs.Octets.{put, same}
use Rattle.octets.proofs.Tests.{by_test}
use Rattle.octets.proofs.Parts.{set-put, put-in-part}
use Rattle.octets.proofs.Equal.{same-eq}
use Rattle.tack_extension.specs.Tack.{public_key, min_generation}
use Rattle.pin_model.specs.Slots.{used, changed}
use Rattle.pin_model.specs.Table.{KeyRecord, key_record, Table, holding, key_is, key_recorded}
use Rattle.pin_model.specs.Layout.{place_of, encode_key, encode, key_slot}
use Rattle.pin_model.specs.Fits.{floor_at, Fits}
use Rattle.pin_model.specs.Judge.{raised_to, raise}
use Rattle.pin_model.specs.Calls.{floor_of}
use Rattle.pin_model.specs.OneFloor.{floor_for, floor_place}
use Rattle.pin_model.proofs.OneSlot.{changed-none, changed-set}
use Rattle.pin_model.proofs.KeyPlaces.{PlaceFound, place_found}
use Rattle.pin_model.proofs.Encoded.{encode-length, encode-key-slot}
use Rattle.pin_model.proofs.Kept.{with_key, floor-written}

new-floor : (x : KeyRecord) (floor : ℕ) → put (encode_key (some x)) 1 (floor ∷ []) ≡ encode_key (some (key_record x.key floor))
unfolding put encode_key
new-floor x floor = refl

-- the floor in a key's own slot is the floor of the key
pub floor-placed : (key : List ℕ) (keys : List (Option KeyRecord)) → floor_at (get_or keys (place_of key keys) none) ≡ floor_of key (used keys)
floor-placed key [] = refl
floor-placed key (none ∷ keys) = floor-placed key keys
floor-placed key (some x ∷ keys) = by_test (same x.key key) (λ e. simp e) (λ e. simp e (floor-placed key keys))

module _ (t : Table) (f : Fits t) where
  -- another floor
  pub floor-set : (k : ℕ) (x : KeyRecord) (floor : ℕ) → k < 64 → get_or t.keys k none ≡ some x
      → set (encode t) (8 + 72 * k + 1) floor ≡ encode (with_key t k (some (key_record x.key floor)))
  unfolding key_slot
  floor-set k x floor l e =
      set-put (encode t) (8 + 72 * k + 1) floor (omega (arith, encode-length t f))
      ∙ put-in-part (encode t) (encode_key (some x)) (8 + 72 * k) 72 1 (floor ∷ []) (encode-key-slot t f k l ∙ ap encode_key e)
      (omega (arith, encode-length t f)) (omega arith)
      ∙ ap (put (encode t) (8 + 72 * k)) (new-floor x floor)
      ∙ (floor-written t f k x floor l e).area

  -- step 1
  pub raised_byte : (tack : List ℕ)
      → encode (raise tack t)
      ≡ cond (key_recorded (public_key tack) t) (set (encode t) (floor_place t tack) (max (floor_for t tack) (min_generation tack))) (encode t)
  raised_byte tack = by_test (key_recorded key t) recorded absent
    where
      key : List ℕ
      key = public_key tack

      at : List (Option KeyRecord) → List ℕ
      at keys = encode (holding t keys t.names)

      absent : key_recorded key t ≡ false
          → at (changed (key_is key) (raised_to (min_generation tack)) t.keys)
          ≡ cond (key_recorded key t) (set (encode t) (floor_place t tack) (max (floor_for t tack) (min_generation tack))) (encode t)
      absent e = rw e (ap at (changed-none (key_is key) (raised_to (min_generation tack)) t.keys e))

      recorded : key_recorded key t ≡ true
          → at (changed (key_is key) (raised_to (min_generation tack)) t.keys)
          ≡ cond (key_recorded key t) (set (encode t) (floor_place t tack) (max (floor_for t tack) (min_generation tack))) (encode t)
      recorded e =
          let found : PlaceFound key t.keys = place_found key t.keys e in
          let x : KeyRecord = found.what in
          rw e
          (ap at (changed-set (key_is key) (raised_to (min_generation tack)) t.keys (place_of key t.keys) x found.there
          (same-eq x.key key found.its-key) (f.key_once key))
          ∙ sym (floor-set (place_of key t.keys) x (max x.floor (min_generation tack)) (omega (arith, f.key_slots, found.below)) found.there)
          ∙ ap (λ (n : ℕ). set (encode t) (floor_place t tack) (max n (min_generation tack)))
          (sym (ap floor_at found.there) ∙ floor-placed key t.keys))
