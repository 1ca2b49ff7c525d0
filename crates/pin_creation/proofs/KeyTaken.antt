-- The slot of the tack's key, and the area with its record: the old one, or one made in the lowest free slot.
use mathlib.Core.Path.{◌≡◌, sym, ◌∙◌, ap, ap₂}
use mathlib.Core.Bool.{Bool, true, false, cond, ◌||◌}
use mathlib.Core.List.{List}
use mathlib.Core.Option.{Option, none, some}
use Prim.Native.Nat.{ℕ}
use native.Mathlib.Omega.{arith}
use lib.ListN.{get_or, set}
use lib.Seq.{get_or-set_same}
use Rattle.octets.specs.Octets.{any}
use Rattle.octets.proofs.Equal.{same-eq}
use Rattle.tack_extension.specs.Tack.{public_key, min_generation}
use Rattle.pin_model.specs.Slots.{used, has_free, placed}
use Rattle.pin_model.specs.Table.{KeyRecord, Table, key_is, key_record}
use Rattle.pin_model.specs.Fits.{holds}
use Rattle.pin_model.specs.Judge.{new_key, keyed_for}
use Rattle.pin_model.specs.JudgeTwo.{key_room}
use Rattle.pin_records.specs.Holds.{Holds, with_key}
use Rattle.pin_records.proofs.Found.{FoundAt, FreeAt}
use Rattle.pin_steps.specs.Steps.{with_keys}
use Rattle.pin_steps.proofs.Tacks.{with_keys_lem}

module _ (tack : List ℕ) {b : List ℕ} {t : Table} (h : Holds b t) where
  -- slot k has the key among the slots with it, which the area holds
  abbrev pub Taken : ℕ → List ℕ → Type 0
  Taken k d = (holds (key_is (public_key tack)) (get_or (keyed_for tack t.keys) k none) ≡ true) × Holds d (with_keys (keyed_for tack t.keys) t)

  taken_at_lem : {keys : List (Option KeyRecord)} (k : ℕ) (x : KeyRecord) → keys ≡ keyed_for tack t.keys → get_or keys k none ≡ some x → x.key ≡ public_key tack
      → holds (key_is (public_key tack)) (get_or (keyed_for tack t.keys) k none) ≡ true
  taken_at_lem k x e there its =
      ap (λ (l : List (Option KeyRecord)). holds (key_is (public_key tack)) (get_or l k none)) (sym e) ∙ ap (holds (key_is (public_key tack))) there
      ∙ same-eq x.key (public_key tack) its

  by-record : (r : Bool) → any (key_is (public_key tack)) (used t.keys) ≡ r → cond r t.keys (placed (new_key tack) t.keys) ≡ keyed_for tack t.keys
  by-record r e = ap (λ (s : Bool). cond s t.keys (placed (new_key tack) t.keys)) (sym e)

  pub key-kept : (k : ℕ) → FoundAt (λ x. x.key) (public_key tack) t.keys 64 k → Taken k b
  key-kept k x =
      let keys : t.keys ≡ keyed_for tack t.keys = by-record true x.recorded in
      (taken_at_lem k x.what keys x.there x.its, with_keys_lem keys h)

  module _ (unrecorded : any (key_is (public_key tack)) (used t.keys) ≡ false) where
    pub key-made : (k : ℕ) {d key : List ℕ} {floor : ℕ} → FreeAt t.keys 64 k → key ≡ public_key tack → floor ≡ min_generation tack
        → Holds d (with_key t k (some (key_record key floor))) → Taken k d
    key-made k {d} {key} {floor} f its least g =
        let new : key_record key floor ≡ new_key tack = ap₂ key_record its least in
        let keys : set t.keys k (some (key_record key floor)) ≡ keyed_for tack t.keys =
        ap (λ (x : KeyRecord). set t.keys k (some x)) new ∙ sym (f.lowest (new_key tack)) ∙ by-record false unrecorded in (
          taken_at_lem k (key_record key floor) keys (get_or-set_same t.keys k (some (key_record key floor)) none (omega (arith, h.fits.key_slots, f.below))) its,
          with_keys_lem keys g,
        )

    pub room-free : key_room tack t ≡ true → has_free t.keys ≡ true
    room-free room = sym (ap (λ (b : Bool). b || has_free t.keys) unrecorded) ∙ room
