-- A tack's own record: found, extended or made.
use mathlib.Core.Path.{◌≡◌, refl, sym, ◌∙◌, ap, ap₂, subst}
use mathlib.Core.Bool.{Bool, true, false, cond, not, ◌&&◌, ◌||◌, and-false, or-false}
use mathlib.Core.List.{List, [], ◌∷◌, ◌++◌}
use mathlib.Core.Option.{Option, none, some}
use Prim.Native.Nat.{ℕ, ◌≤◌, ◌<◌}
use native.Mathlib.Omega.{arith}
use lib.Dec.{ltb}
use lib.ListN.{length, get_or, set}
use lib.Seq.{set-get_or}
use borrow.Author.Tests.{lt-ltb, le-ltb}
use Rattle.octets.specs.Octets.{any}
use Rattle.host_name.specs.Name.{well_formed}
use Rattle.tack_extension.specs.Tack.{public_key}
use Rattle.tack_extension_two.specs.ExtensionTwo.{parts_two, enables_first, enables_second}
use Rattle.pin_model.specs.Slots.{count, used, has_free, placed}
use Rattle.pin_model.specs.Table.{clock_limit, NameRecord, Table, holding, name_is, pin_is, records_of_a_name}
use Rattle.pin_model.specs.Layout.{decode}
use Rattle.pin_model.specs.Fits.{holds}
use Rattle.pin_model.specs.Connection.{Shown, shown_in, tacks_in}
use Rattle.pin_model.specs.Judge.{extended_to, extend, new_name, keyed_for}
use Rattle.pin_model.specs.JudgeTwo.{has_own, wants_own, key_room, room_of, make_own, learn_own, learn_each, no_room_own, no_room_each}
use Rattle.pin_model.proofs.Places.{any_at, any_none}
use Rattle.pin_model.proofs.Initials.{record-initial}
use Rattle.pin_model.proofs.SoundFacts.{sound-facts, facts-sound}
use Rattle.pin_model.proofs.SoundTwo.{Stage, each-stage}
use Rattle.pin_model.proofs.OneSlot.{changed-set}
use Rattle.std.specs.Prelude.{Some, None}
use Rattle.pin_records.specs.Holds.{Holds, with_name}
use Rattle.pin_records.specs.Find.{is_free, first_slot, slot_found, initial_at}
use Rattle.pin_records.specs.Store.{Fresh}
use Rattle.pin_records.proofs.Placed.{Used, is-used, holds-used, first_passes, first_absent}
use Rattle.pin_records.proofs.HeldSlots.{holds-decode}
use Rattle.pin_records.proofs.Found.{FreeAt, slot-there, slot-not-there}
use Rattle.pin_steps.specs.Steps.{extended_at, with_keys}
use Rattle.pin_steps.proofs.Tacks.{with-names}
use Rattle.pin_steps_two.specs.SettledTwo.{SettledTwo}
use Rattle.pin_steps_two.proofs.ShownTacks.{tacks_by}

-- slot n is the record of the name and the key
pub record PinAt (name key : List ℕ) (names : List (Option NameRecord)) (n : ℕ) : Type 0 where
  pub below : n < 128
  pub what : NameRecord
  pub there : get_or names n none ≡ some what
  pub its : pin_is name key what ≡ true
  pub in_use : is_free (get_or names n none) ≡ false
  pub recorded : any (pin_is name key) (used names) ≡ true

module _ (name : List ℕ) {key key' : List ℕ} (same_key : key ≡ key') (names : List (Option NameRecord)) (slots : length names ≡ 128) where
  abbrev found : ℕ
  found = first_slot (holds (pin_is name key)) names

  pub pin_at : (n : ℕ) → Some n ≡ slot_found 128 found → PinAt name key' names n
  pin_at n e = subst (λ (k : List ℕ). PinAt name k names n) same_key at
    where
      place : (found < 128) × (found ≡ n)
      place = slot-there 128 found n e

      here : holds (pin_is name key) (get_or names n none) ≡ true
      here = ap (λ (i : ℕ). holds (pin_is name key) (get_or names i none)) (sym place.1) ∙ first_passes (holds (pin_is name key)) names (omega (arith, place.0))

      used-slot : is_free (get_or names n none) ≡ false
      used-slot = holds-used (pin_is name key) (get_or names n none) here

      at : PinAt name key names n
      at =
          let u : Used (get_or names n none) = is-used (get_or names n none) used-slot in
          record {
            below = omega (arith, place.0, place.1);
            what = u.what;
            there = u.there;
            its = sym (ap (holds (pin_is name key)) u.there) ∙ here;
            in_use = used-slot;
            recorded = any_at (pin_is name key) names n here;
          }

  pub pin-absent : None ≡ slot_found 128 found → any (pin_is name key') (used names) ≡ false
  pin-absent e =
      ap (λ (k : List ℕ). any (pin_is name k) (used names)) (sym same_key)
      ∙ any_none (pin_is name key) names (first_absent (holds (pin_is name key)) names (omega (arith, slot-not-there 128 found e)))

-- such a table by its facts, and the clock of a call, which latest is
pub to-stage : {clock : ℕ} {t : Table} → SettledTwo clock t → Stage clock t
to-stage {t} known = record { facts = sound-facts t known.table_sound; settled = known.settled; two = known.two }

pub from-stage : {clock : ℕ} {t : Table} → Stage clock t → SettledTwo clock t
from-stage {t} stage = record { table_sound = facts-sound t stage.facts; settled = stage.settled; two = stage.two }

pub clock-limit : {clock : ℕ} {t : Table} → SettledTwo clock t → clock ≤ clock_limit
clock-limit {t} known = omega (arith, known.settled, (sound-facts t known.table_sound).latest_in_limit)

module _ (name : List ℕ) (clock : ℕ) (tack : List ℕ) {b : List ℕ} {t : Table} (h : Holds b t) where
  -- it is extended
  module _ {n : ℕ} (x : PinAt name (public_key tack) t.names n) where
    pub own-begun : SettledTwo clock t → initial_at (get_or t.names n none) ≤ clock
    own-begun known =
        omega (
          arith,
          ap initial_at x.there,
          record-initial t clock known.table_sound (omega (arith, known.settled)) n x.what x.there,
        )

    pub own-extended : {d : List ℕ} → Holds d (with_name t n (extended_at clock (get_or t.names n none)))
        → Holds d (extend true name clock tack t)
    own-extended g =
        with-names
        (ap (λ (o : Option NameRecord). set t.names n (extended_at clock o)) x.there
        ∙ sym (changed-set (pin_is name (public_key tack)) (extended_to clock) t.names n x.what x.there x.its
        (h.distinct.once name (public_key tack)))) g

  -- it is made, or there is no room
  by_tests : {d : List ℕ} (wants room : Bool) → wants_own name tack t ≡ wants → room_of tack t ≡ room
      → Holds d (cond (wants && room) (holding t (keyed_for tack t.keys) (placed (new_name name clock tack) t.names)) t)
      → ((wants && not room) ≡ (wants_own name tack t && not (room_of tack t))) × Holds d (make_own name clock tack t)
  by_tests {d} wants room e f g = (
    sym (ap₂ (λ (w r : Bool). w && not r) e f),
    subst (λ (made : Bool). Holds d (cond made (holding t (keyed_for tack t.keys) (placed (new_name name clock tack) t.names)) t))
        (sym (ap₂ ◌&&◌ e f)) g,
  )

  pub has-two : 2 ≤ count (name_is name) (used t.names)
      → (false ≡ (wants_own name tack t && not (room_of tack t))) × Holds b (make_own name clock tack t)
  has-two many =
      by_tests false (room_of tack t)
      (ap (λ (few : Bool). not (has_own name tack t) && few) (le-ltb (count (name_is name) (used t.names)) 2 many) ∙ and-false (not (has_own name tack t)))
      refl h

  module _ (absent : has_own name tack t ≡ false) (few : count (name_is name) (used t.names) < 2) where
    wants : wants_own name tack t ≡ true
    wants = ap₂ (λ (own : Bool) (less : Bool). not own && less) absent (lt-ltb (count (name_is name) (used t.names)) 2 few)

    pub no-name-slot : has_free t.names ≡ false → (true ≡ (wants_own name tack t && not (room_of tack t))) × Holds b (make_own name clock tack t)
    no-name-slot full = by_tests true false wants (ap (λ (free : Bool). free && key_room tack t) full) h

    module _ {n : ℕ} (free : FreeAt t.names 128 n) where
      room_by : (room : Bool) → key_room tack t ≡ room → room_of tack t ≡ room
      room_by room e = ap₂ ◌&&◌ free.room e

      pub no-key-slot : key_room tack t ≡ false → (true ≡ (wants_own name tack t && not (room_of tack t))) × Holds b (make_own name clock tack t)
      no-key-slot e = by_tests true false wants (room_by false e) h

      pub own_fresh : t.two ≡ true → Fresh t.two name (public_key tack) n t.names
      own_fresh two =
          let as_it_was : set t.names n none ≡ t.names = ap (set t.names n) (sym free.there) ∙ set-get_or t.names n none in
          record {
            fewer =
                subst (λ (yes : Bool). count (name_is name) (used (set t.names n none)) < records_of_a_name yes) (sym two)
                (subst (λ (l : List (Option NameRecord)). count (name_is name) (used l) < 2) (sym as_it_was) few);
            unpinned = ap (λ (l : List (Option NameRecord)). any (pin_is name (public_key tack)) (used l)) as_it_was ∙ absent;
          }

      pub own-made : {d : List ℕ} → key_room tack t ≡ true → Holds d (with_name (with_keys (keyed_for tack t.keys) t) n (some (new_name name clock tack)))
          → (false ≡ (wants_own name tack t && not (room_of tack t))) × Holds d (make_own name clock tack t)
      own-made e g = by_tests true true wants (room_by true e) (with-names (sym (free.lowest (new_name name clock tack))) g)

-- the answer and the table of one tack, by the part that holds it
module _ (name : List ℕ) (clock : ℕ) (t : Table) (d : List ℕ) where
  abbrev pub Learned : List Shown → Bool → Type 0
  Learned tacks lacks = (lacks ≡ no_room_each name clock tacks t) × Holds d (learn_each name clock tacks t)

  pub learned-extended : (tack : List ℕ) → length tack ≡ 166 → has_own name tack t ≡ true → Holds d (extend true name clock tack t)
      → Learned (shown_in true tack) false
  learned-extended [] l own h = absurd (omega arith)
  learned-extended (b ∷ bs) l own h = (
    sym (ap (λ (has : Bool). ((not has && ltb (count (name_is name) (used t.names)) 2) && not (room_of (b ∷ bs) t)) || false) own),
    subst (λ (has : Bool). Holds d (cond has (extend true name clock (b ∷ bs) t) (make_own name clock (b ∷ bs) t))) (sym own) h,
  )

  pub learned-made : (tack : List ℕ) {lacks : Bool} → length tack ≡ 166 → has_own name tack t ≡ false
      → (lacks ≡ (wants_own name tack t && not (room_of tack t))) × Holds d (make_own name clock tack t) → Learned (shown_in true tack) lacks
  learned-made [] l own r = absurd (omega arith)
  learned-made (b ∷ bs) l own r = (
    r.0 ∙ sym (or-false (wants_own name (b ∷ bs) t && not (room_of (b ∷ bs) t))),
    subst (λ (has : Bool). Holds d (cond has (extend true name clock (b ∷ bs) t) (make_own name clock (b ∷ bs) t))) (sym own) r.1,
  )

-- some tacks, and then others
module _ (name : List ℕ) (clock : ℕ) where
  learn-append : (l m : List Shown) (t : Table) → learn_each name clock (l ++ m) t ≡ learn_each name clock m (learn_each name clock l t)
  learn-append [] m t = refl
  learn-append (s ∷ l) m t = learn-append l m (learn_own name clock s t)

  lacks-append : (l m : List Shown) (t : Table)
      → no_room_each name clock (l ++ m) t ≡ (no_room_each name clock l t || no_room_each name clock m (learn_each name clock l t))
  lacks-append [] m t = refl
  lacks-append (s ∷ l) m t =
      ap (λ (b : Bool). no_room_own name s t || b) (lacks-append l m (learn_own name clock s t))
      ∙ either (no_room_own name s t) (no_room_each name clock l (learn_own name clock s t)) (no_room_each name clock m (learn_each name clock (s ∷ l) t))
    where
      either : (x y z : Bool) → (x || (y || z)) ≡ ((x || y) || z)
      either true y z = refl
      either false y z = refl

-- the first part, then the second
pub learned-settled : (name : List ℕ) {clock : ℕ} {t : Table} {d : List ℕ} (on : Bool) (tack : List ℕ)
    → Holds d (learn_each name clock (shown_in on tack) t) → well_formed name ≡ true → SettledTwo clock t → SettledTwo clock (decode d)
learned-settled name {clock} on tack h formed known =
    subst (SettledTwo clock) (sym (holds-decode h)) (from-stage (each-stage name clock formed (shown_in on tack) (to-stage known)))

pub learned-both : (name : List ℕ) (clock : ℕ) (t : Table) {a d : List ℕ} (first second : List ℕ) (flags : ℕ) {x y : Bool}
    → x ≡ no_room_each name clock (shown_in (enables_first (parts_two first second flags)) first) t
    → Holds a (learn_each name clock (shown_in (enables_first (parts_two first second flags)) first) t)
    → y ≡ no_room_each name clock (shown_in (enables_second (parts_two first second flags)) second) (decode a)
    → Holds d (learn_each name clock (shown_in (enables_second (parts_two first second flags)) second) (decode a))
    → ((x || y) ≡ no_room_each name clock (tacks_by first second flags) t) × Holds d (learn_each name clock (tacks_by first second flags) t)
unfolding tacks_in
learned-both name clock t {a} {d} first second flags p g q h =
    let l : List Shown = shown_in (enables_first (parts_two first second flags)) first in
    let m : List Shown = shown_in (enables_second (parts_two first second flags)) second in (
      ap₂ ◌||◌ p (q ∙ ap (no_room_each name clock m) (holds-decode g)) ∙ sym (lacks-append name clock l m t),
      subst (Holds d) (ap (learn_each name clock m) (holds-decode g) ∙ sym (learn-append name clock l m t)) h,
    )
