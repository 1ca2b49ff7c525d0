-- Step 2(ii) on an area: the new record in a free slot or in its old one, and the step's answer.
use mathlib.Core.Path.{◌≡◌, refl, sym, ◌∙◌, ap, ap₂, subst}
use mathlib.Core.Bool.{Bool, true, false, cond, not, ◌&&◌, ◌||◌, true≢false, false≢true}
use mathlib.Core.List.{List}
use mathlib.Core.Option.{Option, none, some}
use Prim.Native.Nat.{ℕ, ◌≤◌, ◌<◌}
use native.Mathlib.Omega.{arith}
use lib.ListN.{length, get_or, set}
use mathlib.Core.Logic.{⊎_elim}
use Rattle.std.proofs.lemmas.List.{get_or_past}
use lib.Seq.{set-set}
use Rattle.octets.specs.Octets.{any}
use Rattle.octets.proofs.Tests.{by_test, below_or, is_false, and_right}
use Rattle.octets.proofs.Equal.{same_true, same-eq}
use Rattle.host_name.specs.Name.{well_formed}
use Rattle.host_name.proofs.Names.{name-length}
use Rattle.tack_extension.specs.Tack.{public_key}
use Rattle.pin_model.specs.Slots.{used, has_free, freed, changed, placed}
use Rattle.pin_model.specs.Table.{KeyRecord, NameRecord, Table, holding, key_is, name_is, name_recorded, key_recorded, keys_named_by, without, settled_at, name_record}
use Rattle.pin_model.specs.Layout.{key_at, decode}
use Rattle.pin_model.specs.SoundTable.{sound_table}
use Rattle.pin_model.specs.Fits.{holds}
use Rattle.pin_model.specs.Judge.{wants_record, room_for, new_name, new_key, create, no_room_for, keyed_for, with_record}
use Rattle.pin_model.specs.JudgeTwo.{key_room}
use Rattle.pin_model.proofs.Places.{any_at, count_set}
use Rattle.pin_model.proofs.Lists.{count_none, count-some}
use Rattle.pin_model.proofs.Slots.{count-gone}
use Rattle.pin_model.proofs.SoundFacts.{name-once}
use Rattle.pin_model.proofs.SoundCreation.{wanted-key}
use Rattle.pin_records.specs.Holds.{Holds, Stored, with_name, without_unnamed}
use Rattle.pin_records.specs.Find.{is_free}
use Rattle.pin_records.specs.Store.{Fresh}
use Rattle.pin_records.proofs.DistinctNames.{only-fresh}
use Rattle.pin_records.proofs.Placed.{Used, is-used, holds-used}
use Rattle.pin_records.proofs.HeldSlots.{holds-decode, holds-stored}
use Rattle.pin_records.proofs.Found.{FoundAt, FreeAt, found-freed, found-changed}
use Rattle.pin_steps.specs.Steps.{with_keys}
use Rattle.pin_steps.proofs.Tacks.{with_keys_lem, with-names}
use Rattle.pin_creation.proofs.RoomFound.{facts, keys-left, room-full}

-- what passes nowhere passes nowhere in the other slots
none_other : {A : Type 0} (p : A → Bool) (l : List (Option A)) (n : ℕ) → n < length l → any p (used l) ≡ false → any p (used (set l n none)) ≡ false
none_other p l n h e =
    is_false (any p (used (set l n none))) (λ d. omega (arith, count-some p (used (set l n none)) d, count_set p l n none h, count_none p (used l) e))

-- a slot that passes the test for a key has that key
key-held : (key : List ℕ) (x : Option KeyRecord) → holds (key_is key) x ≡ true → key_at x ≡ key
key-held key none e = absurd (false≢true e)
key-held key (some k) e = same_true k.key key e

-- a slot that passes the test for a name has its record
module _ (name : List ℕ) (names : List (Option NameRecord)) (n : ℕ) where
  pub name-held : length names ≡ 128 → holds (name_is name) (get_or names n none) ≡ true → FoundAt (λ r. r.name) name names 128 n
  name-held slots e =
      let used-slot : is_free (get_or names n none) ≡ false = holds-used (name_is name) (get_or names n none) e in
      let u : Used (get_or names n none) = is-used (get_or names n none) used-slot in
      record {
        below = ⊎_elim (λ l. l) (λ m. absurd (false≢true (sym (ap (holds (name_is name)) (get_or_past names n none (omega arith))) ∙ e))) (below_or n 128);
        what = u.what;
        there = u.there;
        its = same_true u.what.name name (sym (ap (holds (name_is name)) u.there) ∙ e);
        in_use = used-slot;
        recorded = any_at (name_is name) names n e;
      }

  pub holds-name : FoundAt (λ r. r.name) name names 128 n → holds (name_is name) (get_or names n none) ≡ true
  holds-name x = ap (holds (name_is name)) x.there ∙ same-eq x.what.name name x.its

-- a name that has no record may have one in slot n
pub unrecorded-fresh : (name key : List ℕ) {b : List ℕ} {t : Table} → Holds b t → (n : ℕ) → n < 128 → name_recorded name t ≡ false
    → Fresh t.two name key n t.names
unrecorded-fresh name key {b} {t} h n l e =
    only-fresh t.two name key n t.names (none_other (name_is name) t.names n (rw h.fits.name_slots l) e)

-- a record in slot n, where key slot k has the key
module _ (name tack : List ℕ) (clock : ℕ) (t : Table) {d : List ℕ} (g : Holds d (with_keys (keyed_for tack t.keys) t)) (n k : ℕ)
    (its : holds (key_is (public_key tack)) (get_or (keyed_for tack t.keys) k none) ≡ true) where
  pub slots-ready : well_formed name ≡ true → Fresh t.two name (public_key tack) n t.names
      → Stored d × (is_free (get_or (decode d).keys k none) ≡ false) × (length name ≤ 253)
      × Fresh (decode d).two name (key_at (get_or (decode d).keys k none)) n (decode d).names
  slots-ready formed fresh = (
    holds-stored g,
    ap (λ (u : Table). is_free (get_or u.keys k none)) (holds-decode g) ∙ holds-used (key_is (public_key tack)) (get_or (keyed_for tack t.keys) k none) its,
    (name-length name formed).1,
    subst (λ (u : Table). Fresh u.two name (key_at (get_or u.keys k none)) n u.names) (sym (holds-decode g))
        (subst (λ (key : List ℕ). Fresh t.two name key n t.names) (sym (key-held (public_key tack) (get_or (keyed_for tack t.keys) k none) its)) fresh),
  )

  pub record-stored : {a : List ℕ} → Holds a (with_name (decode d) n (some (name_record name (key_at (get_or (decode d).keys k none)) clock none)))
      → Holds a (with_name (with_keys (keyed_for tack t.keys) t) n (some (new_name name clock tack)))
  record-stored {a} w =
      with-names (ap (λ (key : List ℕ). set t.names n (some (name_record name key clock none))) (key-held (public_key tack) (get_or (keyed_for tack t.keys) k none) its))
      (subst (λ (u : Table). Holds a (with_name u n (some (name_record name (key_at (get_or u.keys k none)) clock none)))) (holds-decode g) w)

module _ (name tack : List ℕ) (clock : ℕ) (t : Table) (sound : sound_table (settled_at clock t) ≡ true) (room : room_for name tack t ≡ true) where
  abbrev new : NameRecord
  new = new_name name clock tack

  -- room for the key after the removal
  left-room : (key_recorded (public_key tack) t || has_free (without name t).keys) ≡ true
  left-room = and_right (name_recorded name t || has_free t.names) (key_recorded (public_key tack) t || has_free (without name t).keys) room

  -- a name with no record
  module _ (unrecorded : name_recorded name t ≡ false) where
    left : (without name t).keys ≡ t.keys
    left = keys-left name tack clock t sound unrecorded

    pub add-free : has_free t.names ≡ true
    add-free =
        by_test (has_free t.names) (λ e. e) (λ full. absurd (true≢false (sym room ∙ sym (room-full name tack clock t sound unrecorded full))))

    pub add-room : key_room tack t ≡ true
    add-room = ap (λ (keys : List (Option KeyRecord)). key_recorded (public_key tack) t || has_free keys) (sym left) ∙ left-room

    pub added : {d : List ℕ} (n : ℕ) → FreeAt t.names 128 n → Holds d (with_name (with_keys (keyed_for tack t.keys) t) n (some new)) → Holds d (with_record name clock tack t)
    added n f g =
        with_keys_lem (ap (λ (keys : List (Option KeyRecord)). cond (any (key_is (public_key tack)) (used keys)) keys (placed (new_key tack) keys)) (sym left))
        (with-names
        (sym (f.lowest new)
        ∙ ap (λ (b : Bool). cond b (changed (name_is name) (λ r. new) t.names) (placed new t.names)) (sym unrecorded)) g)

  -- a name whose record, in slot n, is replaced
  module _ (one : t.two ≡ false) {n : ℕ} (x : FoundAt (λ r. r.name) name t.names 128 n) (wanted : wants_record true name clock tack t ≡ true) where
    gone : set t.names n none ≡ freed (name_is name) t.names
    gone = sym (found-freed x (name-once (facts name tack clock t sound) one name))

    pub removed : {a d : List ℕ} → Holds a (with_name t n none) → Holds d (without_unnamed (decode a)) → Holds d (without name t)
    removed {a} {d} h g =
        subst (Holds d)
        (ap without_unnamed (holds-decode h)
        ∙ ap (λ (names : List (Option NameRecord)). holding t (keys_named_by names t.keys) names) gone) g

    -- the area after the removal has no record of the name, and room for the key
    module _ {d : List ℕ} (g : Holds d (without name t)) where
      pub removed-name : name_recorded name (decode d) ≡ false
      removed-name =
          ap (name_recorded name) (holds-decode g)
          ∙ is_false (name_recorded name (without name t))
          (λ e. omega (arith, count-some (name_is name) (used (without name t).names) e, count-gone (name_is name) t.names))

      pub removed-room : key_room tack (decode d) ≡ true
      removed-room =
          ap (key_room tack) (holds-decode g)
          ∙ ap (λ (b : Bool). b || has_free (without name t).keys) (wanted-key name clock tack (facts name tack clock t sound) true wanted) ∙ left-room

      pub replaced : {a : List ℕ} → Holds a (with_name (with_keys (keyed_for tack (decode d).keys) (decode d)) n (some new)) → Holds a (with_record name clock tack t)
      replaced {a} h =
          with-names
          (ap (λ (names : List (Option NameRecord)). set names n (some new)) (sym gone) ∙ set-set t.names n none (some new)
          ∙ sym (found-changed x (name-once (facts name tack clock t sound) one name) (λ r. new))
          ∙ ap (λ (b : Bool). cond b (changed (name_is name) (λ r. new) t.names) (placed new t.names)) (sym x.recorded))
          (subst (λ (u : Table). Holds a (with_name (with_keys (keyed_for tack u.keys) u) n (some new))) (holds-decode g) h)

-- the step's answer and its table
module _ (may : Bool) (name tack : List ℕ) (clock : ℕ) (t : Table) {b : List ℕ} where
  answered : (wants room : Bool) → wants_record may name clock tack t ≡ wants → room_for name tack t ≡ room
      → Holds b (cond (wants && room) (with_record name clock tack t) t)
      → ((wants && not room) ≡ no_room_for may name clock tack t) × Holds b (create may name clock tack t)
  answered wants room e f h = (
    sym (ap₂ (λ (w r : Bool). w && not r) e f),
    subst (λ (made : Bool). Holds b (cond made (with_record name clock tack t) t)) (sym (ap₂ ◌&&◌ e f)) h,
  )

  pub unwanted : Holds b t → wants_record may name clock tack t ≡ false
      → (false ≡ no_room_for may name clock tack t) × Holds b (create may name clock tack t)
  unwanted h e = answered false (room_for name tack t) e refl h

  pub no_room : Holds b t → wants_record may name clock tack t ≡ true → room_for name tack t ≡ false
      → (true ≡ no_room_for may name clock tack t) × Holds b (create may name clock tack t)
  no_room h e f = answered true false e f h

  pub created : Holds b (with_record name clock tack t) → wants_record may name clock tack t ≡ true → room_for name tack t ≡ true
      → (false ≡ no_room_for may name clock tack t) × Holds b (create may name clock tack t)
  created h e f = answered true true e f h
