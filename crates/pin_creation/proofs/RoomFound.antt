-- Room for a record, from what the searches answer.
use mathlib.Core.Path.{◌≡◌, refl, sym, ◌∙◌, ap, ap₂}
use mathlib.Core.Bool.{Bool, true, false, not, ◌&&◌, ◌||◌, or-true, true≢false, false≢true}
use mathlib.Core.List.{List}
use mathlib.Core.Option.{Option, none, some}
use Prim.Native.Nat.{ℕ, ◌≤◌, ◌<◌}
use native.Mathlib.Omega.{arith}
use lib.ListN.{length, get_or, set, length-set}
use lib.Seq.{get_or-set_same, get_or-set_other}
use Rattle.std.specs.Prelude as std
use lib.Dec.{eqb}
use borrow.Author.Tests.{eqb-true, eqb-false}
use Rattle.octets.specs.Octets.{any}
use Rattle.octets.specs.Search.{every}
use Rattle.octets.proofs.Tests.{by_test}
use Rattle.pin_table.proofs.Ranges.{every-same}
use Rattle.pin_records.proofs.AnySlot.{any-slot, every-not}
use Rattle.tack_extension.specs.Tack.{public_key}
use Rattle.pin_model.specs.Slots.{used, has_free}
use Rattle.pin_model.specs.Table.{KeyRecord, NameRecord, Table, key_is, pinned_to, name_recorded, key_recorded, without, settled_at}
use Rattle.pin_model.specs.Layout.{key_at}
use Rattle.pin_model.specs.SoundTable.{sound_table}
use Rattle.pin_model.specs.Fits.{holds}
use Rattle.pin_model.specs.Judge.{room_for}
use Rattle.pin_model.specs.JudgeTwo.{key_room}
use Rattle.pin_model.proofs.Places.{any_at, any_none}
use Rattle.pin_model.proofs.KeyPlaces.{PlaceFound}
use Rattle.pin_model.proofs.SoundFacts.{SoundFacts, sound-facts, name-once}
use Rattle.pin_model.proofs.SoundRemoval.{without-unrecorded}
use Rattle.pin_model.proofs.Room.{last_on_key, room_for-slots}
use Rattle.pin_records.specs.Holds.{Holds}
use Rattle.pin_records.specs.Find.{is_free, first_slot, slot_found}
use Rattle.pin_records.specs.Read.{pinned_key}
use Rattle.pin_records.proofs.Placed.{Used, is-used}
use Rattle.pin_records.proofs.Found.{FoundAt, found-free, slots-full, found-freed, found-any}
use Rattle.pin_records.proofs.PinnedKeys.{pinned-place}
use Rattle.pin_steps.specs.Steps.{key_of_name}
use Rattle.pin_steps.proofs.Tacks.{tack-key-at, tack-key-absent}

-- key slot k has the key that the record of a name slot is pinned to
pub record PinAt (keys : List (Option KeyRecord)) (x : Option NameRecord) (k : ℕ) : Type 0 where
  pub in_use : is_free (get_or keys k none) ≡ false
  pub its : key_at (get_or keys k none) ≡ key_of_name x

pub pin_at : {b : List ℕ} {t : Table} (h : Holds b t) (n k : ℕ) → is_free (get_or t.names n none) ≡ false
    → k ≡ pinned_key t.keys (get_or t.names n none) → PinAt t.keys (get_or t.names n none) k
pin_at {b} {t} h n k u e =
    let y : Used (get_or t.names n none) = is-used (get_or t.names n none) u in
    let f : PlaceFound y.what.key t.keys = pinned-place h n y.what y.there in
    let at : get_or t.keys k none ≡ some f.what = ap (λ (i : ℕ). get_or t.keys i none) (e ∙ ap (pinned_key t.keys) y.there) ∙ f.there in
    record { in_use = ap is_free at; its = ap key_at at ∙ f.its-key ∙ sym (ap key_of_name y.there) }

-- whether a record is pinned to the key of key slot k
abbrev pub on_key : Table → ℕ → NameRecord → Bool
on_key t k = pinned_to (key_at (get_or t.keys k none))

module _ {b : List ℕ} {t : Table} (h : Holds b t) (own k : ℕ) (in_use : is_free (get_or t.names own none) ≡ false) (at : k ≡ pinned_key t.keys (get_or t.names own none)) where
  -- without the record in slot own, which is asked of none
  but-own : (m : ℕ) → m < 128 → (eqb m own || not (holds (on_key t k) (get_or t.names m none))) ≡ not (holds (on_key t k) (get_or (set t.names own none) m none))
  but-own m l =
      by_test (eqb m own)
      (λ e.
      let there : get_or (set t.names own none) m none ≡ none =
      ap (λ (j : ℕ). get_or (set t.names own none) j none) (eqb-true m own e) ∙ get_or-set_same t.names own none none (omega (arith, h.fits.name_slots, eqb-true m own e)) in
      rw (e, there) refl)
      (λ e. rw (e, get_or-set_other t.names own m none none (eqb-false m own e)) refl)

  pub alone : every (λ m. eqb m own || not (holds (on_key t k) (get_or t.names m none))) 128
      ≡ not (any (pinned_to (key_of_name (get_or t.names own none))) (used (set t.names own none)))
  alone =
      every-same _ (λ m. not (holds (on_key t k) (get_or (set t.names own none) m none))) 128 but-own
      ∙ every-not (λ m. holds (on_key t k) (get_or (set t.names own none) m none)) 128
      ∙ ap not (any-slot (on_key t k) (set t.names own none) 128 (omega (arith, length-set t.names own none, h.fits.name_slots))
      ∙ ap (λ (key : List ℕ). any (pinned_to key) (used (set t.names own none))) (pin_at h own k in_use at).its)

-- whether a search found a slot
pub found-free-slot : {A : Type 0} {n : ℕ} (l : List (Option A)) → length l ≡ n → (r : std.Option ℕ) → r ≡ slot_found n (first_slot is_free l) → std.is_some r ≡ has_free l
found-free-slot l slots (std.Some i) e = sym (found-free l slots i e).room
found-free-slot l slots std.None e = sym (slots-full l slots e)

module _ (tack : List ℕ) {key : List ℕ} (its : key ≡ public_key tack) {b : List ℕ} {t : Table} (h : Holds b t) where
  pub found-key : (r : std.Option ℕ) → r ≡ slot_found 64 (first_slot (holds (key_is key)) t.keys) → std.is_some r ≡ key_recorded (public_key tack) t
  found-key (std.Some k) e = sym (tack-key-at tack its h k e).recorded
  found-key std.None e = sym (tack-key-absent tack its h e)

-- the tack's key
module _ (tack : List ℕ) (t : Table) where
  pub key-room : true ≡ key_recorded (public_key tack) t → true ≡ key_room tack t
  key-room e = ap (λ (b : Bool). b || has_free t.keys) e

  pub slot-room : false ≡ key_recorded (public_key tack) t → has_free t.keys ≡ key_room tack t
  slot-room e = ap (λ (b : Bool). b || has_free t.keys) e

-- the whole, on a table that is sound at the clock
module _ (name tack : List ℕ) (clock : ℕ) (t : Table) (sound : sound_table (settled_at clock t) ≡ true) where
  abbrev pub facts : SoundFacts (settled_at clock t)
  facts = sound-facts (settled_at clock t) sound

  -- where the name has no record the removal leaves the keys as they are
  pub keys-left : name_recorded name t ≡ false → (without name t).keys ≡ t.keys
  keys-left e = ap (λ (u : Table). u.keys) (without-unrecorded name facts e)

  pub room-full : name_recorded name t ≡ false → has_free t.names ≡ false → false ≡ room_for name tack t
  room-full e f = sym (ap₂ (λ (a b : Bool). (a || b) && (key_recorded (public_key tack) t || has_free (without name t).keys)) e f)

  pub room-new : name_recorded name t ≡ false → has_free t.names ≡ true → key_room tack t ≡ room_for name tack t
  room-new e f =
      sym (ap₂ (λ (a b : Bool). (a || b) && (key_recorded (public_key tack) t || has_free (without name t).keys)) e f
      ∙ ap (λ (b : Bool). key_recorded (public_key tack) t || b) (ap has_free (keys-left e)))

  module _ {n : ℕ} (x : FoundAt (λ r. r.name) name t.names 128 n) where
    room-old : room_for name tack t ≡ (key_recorded (public_key tack) t || (has_free t.keys || last_on_key name t))
    room-old =
        room_for-slots name tack facts
        ∙ ap (λ (b : Bool). (b || has_free t.names) && (key_recorded (public_key tack) t || (has_free t.keys || last_on_key name t))) x.recorded

    pub room-key : key_room tack t ≡ true → true ≡ room_for name tack t
    room-key e = sym (room-old ∙ go (key_recorded (public_key tack) t) (has_free t.keys) e)
      where
        go : (a b : Bool) → (a || b) ≡ true → (a || (b || last_on_key name t)) ≡ true
        go true b d = refl
        go false true d = refl
        go false false d = absurd (false≢true d)

    abbrev last : NameRecord → Bool
    last r = not (any (pinned_to r.key) (used (without name t).names))

    pub room-last : t.two ≡ false → key_room tack t ≡ false → not (any (pinned_to (key_of_name (get_or t.names n none))) (used (set t.names n none))) ≡ room_for name tack t
    room-last one e =
        ap₂ (λ (o : Option NameRecord) (l : List (Option NameRecord)). not (any (pinned_to (key_of_name o)) (used l))) x.there (sym (found-freed x (name-once facts one name)))
        ∙ sym (found-any x (name-once facts one name) last)
        ∙ sym (room-old ∙ go (key_recorded (public_key tack) t) (has_free t.keys) e)
      where
        go : (a b : Bool) → (a || b) ≡ false → (a || (b || last_on_key name t)) ≡ last_on_key name t
        go true b d = absurd (true≢false d)
        go false true d = absurd (true≢false d)
        go false false d = refl
