-- With the yes a tack's name has a record after the call, or there was no room (document 02, Q-7).
use mathlib.Core.Path.{◌≡◌, refl, ◌∙◌, ap, ap₂}
use mathlib.Core.Bool.{Bool, true, false, cond, not, ◌&&◌, ◌||◌, true≢false, or-true}
use mathlib.Core.List.{List, [], ◌∷◌}
use mathlib.Core.Option.{Option, none, some}
use Prim.Native.Nat.{ℕ, ◌≤◌}
use borrow.Author.Tests.{not-false}
use Rattle.octets.specs.Octets.{any}
use Rattle.octets.proofs.Tests.{and_left}
use Rattle.octets.proofs.Equal.{same_refl}
use Rattle.tack_extension.specs.Tack.{public_key}
use Rattle.pin_model.specs.Slots.{used}
use Rattle.pin_model.specs.Table.{clock_limit, NameRecord, Table, name_is, pinned_to, active, name_recorded, without}
use Rattle.pin_model.specs.Layout.{decode}
use Rattle.pin_model.specs.Connection.{Connection, tack_shown, enabled, may_record, broken_keys}
use Rattle.pin_model.specs.Refusals.{is_none}
use Rattle.pin_model.specs.Judge.{raise, extend, wants_record, room_for, no_room_for, new_name, names_with, with_record, create, learn, no_room_in, judged, no_room}
use Rattle.pin_model.specs.Calls.{judge, is_verdict, refusal, answer, unrefused, answer_by, area_after}
use Rattle.pin_model.proofs.Lists.{any-implied, any-nothing, alike-any}
use Rattle.pin_model.proofs.Slots.{freed-none}
use Rattle.pin_model.proofs.Rules.{rules-of}
use Rattle.pin_model.proofs.SoundFacts.{SoundFacts, sound-facts}
use Rattle.pin_model.proofs.SoundArea.{table-sound}
use Rattle.pin_model.proofs.SoundCreation.{names-alike, name-room}
use Rattle.pin_model.proofs.SoundCalls.{create-settled, extended-facts}
use Rattle.pin_model.proofs.Refusals.{refusal-later, refusal-facts}
use Rattle.pin_model.proofs.AreaKept.{passed-table}
use Rattle.pin_model.proofs.Verdicts.{verdict-passed, verdict-sound}

-- step 2(ii), where a record may be made
module _ (name : List ℕ) (clock : ℕ) (tack : List ℕ) {t : Table} (facts : SoundFacts t) (one : t.two ≡ false) where
  new-recorded : room_for name tack t ≡ true → name_recorded name (with_record name clock tack t) ≡ true
  new-recorded room =
      alike-any (used (names_with name clock tack t)) (new_name name clock tack ∷ used (without name t).names)
      (names-alike name clock tack facts one (name-room name clock tack facts room)) (name_is name)
      ∙ rw (same_refl name) refl

  -- no record is wanted where one of the name stands
  old-recorded : wants_record true name clock tack t ≡ false → name_recorded name t ≡ true
  old-recorded unwanted =
      let blocking : NameRecord → Bool = λ r. name_is name r && (pinned_to (public_key tack) r || active clock r) in
      any-implied blocking (name_is name) (λ r. and_left (name_is name r) (pinned_to (public_key tack) r || active clock r)) (used t.names)
      (not-false (any blocking (used t.names)) unwanted)

  created-recorded : (name_recorded name (create true name clock tack t) || no_room_for true name clock tack t) ≡ true
  created-recorded = go (wants_record true name clock tack t) refl (room_for name tack t) refl
    where
      go : (wants : Bool) → wants_record true name clock tack t ≡ wants → (room : Bool) → room_for name tack t ≡ room
          → (name_recorded name (cond (wants && room) (with_record name clock tack t) t) || (wants && not room)) ≡ true
      go false w room r = ap (λ (recorded : Bool). recorded || false) (old-recorded w)
      go true w true r = ap (λ (recorded : Bool). recorded || false) (new-recorded r)
      go true w false r = or-true (name_recorded name t)

-- steps 1 and 2, with the clock in latest's place
learned-recorded : (on : Bool) (name : List ℕ) (clock : ℕ) (tack : List ℕ) (t : Table) → SoundFacts t → t.two ≡ false
    → t.latest ≤ clock → clock ≤ clock_limit
    → (name_recorded name (learn on true name clock (some tack) t) || no_room_in on true name clock (some tack) t) ≡ true
learned-recorded on name clock tack t facts one in_order in_limit =
    let u : Table = extend on name clock tack (raise tack t) in
    ap (λ (v : Table). name_recorded name v || no_room_for true name clock tack u) (create-settled true name clock tack u)
    ∙ created-recorded name clock tack (extended-facts name clock facts one in_order in_limit on tack) one

module _ (c : Connection) (said : c.checks.learn_disabled ≡ true) (b : List ℕ) where
  may : may_record c ≡ true
  unfolding may_record
  may = simp (said, or-true (enabled c))

  module _ (unbroken : broken_keys c ≡ []) (passed : refusal (judge c) b ≡ none) where
    abbrev t : Table
    t = decode b

    judged-recorded : (shown : Option (List ℕ)) → tack_shown c ≡ shown → is_none shown ≡ false
        → (name_recorded c.name (judged c t) || no_room c t) ≡ true
    unfolding judged no_room
    judged-recorded none e came = absurd (true≢false came)
    judged-recorded (some tack) e came =
        let known = refusal-facts c t (refusal-later (judge c) b passed) in
        let facts : SoundFacts t = sound-facts t (table-sound b (rules-of b (verdict-sound c b passed))) in
        let left : List (Option NameRecord) = (learn (enabled c) true c.name c.clock (some tack) t).names in
        rw (may, e, unbroken) (ap (λ (names : List (Option NameRecord)).
        any (name_is c.name) (used names) || no_room_in (enabled c) true c.name c.clock (some tack) t)
        (freed-none (λ r. false) left (any-nothing (used left)))
        ∙ learned-recorded (enabled c) c.name c.clock tack t facts known.of_one known.clock_in_order known.clock_in_limit)

  pub after-recorded : is_verdict (answer (judge c) b).number ≡ true → is_none (tack_shown c) ≡ false → broken_keys c ≡ []
      → (name_recorded c.name (decode (area_after (judge c) b)) || (answer (judge c) b).no_room) ≡ true
  unfolding answer
  after-recorded h came unbroken =
      let passed = verdict-passed c b h in
      ap₂ (λ (u : Table) (o : Option ℕ). name_recorded c.name u || (answer_by false o (unrefused (judge c) (decode b))).no_room)
      (passed-table (judge c) b (verdict-sound c b passed) passed) passed
      ∙ judged-recorded unbroken passed (tack_shown c) refl came
