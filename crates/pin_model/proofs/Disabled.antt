-- By the default a disabled server makes no record; where a server is enabled or a call is refused, the choice changes nothing (document
-- 02, Q-7).
use mathlib.Core.Path.{◌≡◌, refl, sym, ◌∙◌, ap, ap₂}
use mathlib.Core.Bool.{Bool, true, false, not, ◌||◌}
use mathlib.Core.List.{List}
use mathlib.Core.Option.{Option, none, some}
use Prim.Native.Nat.{ℕ}
use borrow.Author.Tests.{not-true}
use Rattle.octets.proofs.Tests.{and_left, and_right}
use Rattle.pin_model.specs.Slots.{used, freed}
use Rattle.pin_model.specs.Table.{NameRecord, Table, holding}
use Rattle.pin_model.specs.Layout.{decode}
use Rattle.pin_model.specs.declared.Checks.{Checks}
use Rattle.pin_model.specs.Connection.{Connection, parts_of, tack_shown, enabled, may_record, breaks_shown, broken_keys, listed, folded_connection}
use Rattle.pin_model.specs.Refusals.{tack_tests}
use Rattle.pin_model.specs.Judge.{extended_to, extend, raise, learn, no_room_in, steps, judged, verdict, no_room}
use Rattle.pin_model.specs.Calls.{judge, is_verdict, refusal, unrefused, answer_by, answer, area_after, answered, area_left}
use Rattle.pin_model.specs.Demand1.{is_refusal}
use Rattle.pin_model.specs.Disabled.{may_not_record, choosing, with_choice, DisabledServers}
use Rattle.pin_model.proofs.Lists.{any-nothing}
use Rattle.pin_model.proofs.OneSlot.{changed-none}
use Rattle.pin_model.proofs.AreaKept.{refused-after, passed-table}
use Rattle.pin_model.proofs.Verdicts.{verdict-passed, verdict-sound}
use Rattle.pin_model.proofs.Recorded.{after-recorded}
use Rattle.pin_model.proofs.Demand1.{was-refused}

-- where activation is disabled nothing is extended
pub not_extended : (name tack : List ℕ) (clock : ℕ) (t : Table) → extend false name clock tack t ≡ t
not_extended name tack clock t =
    ap (λ (names : List (Option NameRecord)). holding t t.keys names)
    (changed-none (λ r. false) (extended_to clock) t.names (any-nothing (used t.names)))

module _ (name : List ℕ) (clock : ℕ) (t : Table) where
  names-stay : (shown : Option (List ℕ)) → (learn false false name clock shown t).names ≡ t.names
  names-stay none = refl
  names-stay (some tack) = ap (λ (u : Table). u.names) (not_extended name tack clock (raise tack t))

  room-unwanted : (shown : Option (List ℕ)) → no_room_in false false name clock shown t ≡ false
  room-unwanted none = refl
  room-unwanted (some tack) = refl

module _ (c : Connection) (nothing : may_not_record c ≡ true) where
  off : enabled c ≡ false
  off = not-true (enabled c) (and_left (not (enabled c)) (not c.checks.learn_disabled) nothing)

  may-not : may_record c ≡ false
  unfolding may_record
  may-not =
      ap₂ (λ (a b : Bool). a || b) off
      (not-true c.checks.learn_disabled (and_right (not (enabled c)) (not c.checks.learn_disabled) nothing))

  judged-names : (t : Table) → (judged c t).names ≡ freed (λ r. listed (broken_keys c) r.key) t.names
  unfolding judged
  judged-names t =
      ap (λ (names : List (Option NameRecord)). freed (λ r. listed (broken_keys c) r.key) names)
      (ap₂ (λ (on may : Bool). (learn on may c.name c.clock (tack_shown c) t).names) off may-not
      ∙ names-stay c.name c.clock t (tack_shown c))

  judged-room : (t : Table) → no_room c t ≡ false
  unfolding no_room
  judged-room t =
      ap₂ (λ (on may : Bool). no_room_in on may c.name c.clock (tack_shown c) t) off may-not
      ∙ room-unwanted c.name c.clock t (tack_shown c)

  after-names : (b : List ℕ) → is_verdict (answer (judge c) b).number ≡ true
      → (decode (area_after (judge c) b)).names ≡ freed (λ r. listed (broken_keys c) r.key) (decode b).names
  after-names b h =
      let passed = verdict-passed c b h in
      ap (λ (u : Table). u.names) (passed-table (judge c) b (verdict-sound c b passed) passed) ∙ judged-names (decode b)

  after-room : (b : List ℕ) → (answer (judge c) b).no_room ≡ false
  unfolding answer
  after-room b = go (refusal (judge c) b)
    where
      go : (o : Option ℕ) → (answer_by false o (unrefused (judge c) (decode b))).no_room ≡ false
      go none = judged-room (decode b)
      go (some n) = refl

-- no refusal looks at the choice
tests-either : (learn_disabled : Bool) (clock : ℕ) (hash : List ℕ) (checks : Checks) (t : Table) (shown : Option (List ℕ))
    → tack_tests clock hash (choosing learn_disabled checks) t shown ≡ tack_tests clock hash checks t shown
tests-either learn_disabled clock hash checks t none = refl
tests-either learn_disabled clock hash checks t (some tack) = refl

module _ (c : Connection) (learn_disabled : Bool) (b : List ℕ) where
  refusal-either : refusal (judge (with_choice learn_disabled c)) b ≡ refusal (judge c) b
  unfolding refusal tack_shown breaks_shown parts_of
  refusal-either = rw (tests-either learn_disabled c.clock c.hash c.checks (decode b) (tack_shown c)) refl

  -- a refusal answers by its number, and leaves what goes by the tack
  module _ (refused : is_refusal (answer (judge c) b).number ≡ true) where
    refused-answer : answer (judge (with_choice learn_disabled c)) b ≡ answer (judge c) b
    unfolding answer
    refused-answer =
        let e = was-refused (judge c) b refused in
        ap (λ (o : Option ℕ). answer_by false o (unrefused (judge (with_choice learn_disabled c)) (decode b))) (refusal-either ∙ e)
        ∙ sym (ap (λ (o : Option ℕ). answer_by false o (unrefused (judge c) (decode b))) e)

    refused-area : area_after (judge (with_choice learn_disabled c)) b ≡ area_after (judge c) b
    unfolding tack_shown parts_of
    refused-area =
        let n = (answer (judge c) b).number in
        let e = was-refused (judge c) b refused in
        refused-after (judge (with_choice learn_disabled c)) b n (refusal-either ∙ e) ∙ sym (refused-after (judge c) b n e)

  -- what an enabled server may is the same by either choice
  module _ (on : enabled c ≡ true) where
    may-either : may_record (with_choice learn_disabled c) ≡ may_record c
    unfolding may_record enabled parts_of
    may-either = rw on refl

    judged-either : judged (with_choice learn_disabled c) (decode b) ≡ judged c (decode b)
    unfolding judged tack_shown enabled breaks_shown broken_keys parts_of
    judged-either =
        ap (λ (may : Bool). steps (enabled c) may c.name c.clock (tack_shown c) (broken_keys c) (decode b)) may-either

    room-either : no_room (with_choice learn_disabled c) (decode b) ≡ no_room c (decode b)
    unfolding no_room tack_shown enabled parts_of
    room-either = ap (λ (may : Bool). no_room_in (enabled c) may c.name c.clock (tack_shown c) (decode b)) may-either

    enabled-answer : answer (judge (with_choice learn_disabled c)) b ≡ answer (judge c) b
    unfolding answer verdict tack_shown parts_of
    enabled-answer = rw (refusal-either, judged-either, room-either) refl

    enabled-area : area_after (judge (with_choice learn_disabled c)) b ≡ area_after (judge c) b
    unfolding area_after tack_shown parts_of
    enabled-area = rw (refusal-either, judged-either) refl

-- the name is read folded, which changes neither activation nor tack nor break signatures
pub disabled-servers : (c : Connection) (b : List ℕ) → DisabledServers c b
unfolding answered area_left tack_shown enabled parts_of breaks_shown broken_keys
disabled-servers c b =
    let f : Connection = folded_connection c in
    record {
      by_default = λ nothing. record { names = after-names f nothing b; room = after-room f nothing b };
      with_yes = λ said. after-recorded f said b;
      where_enabled = λ on learn_disabled. record { answers = enabled-answer f learn_disabled b on; areas = enabled-area f learn_disabled b on };
      where_refused =
          λ refused learn_disabled.
          record { answers = refused-answer f learn_disabled b refused; areas = refused-area f learn_disabled b refused };
    }
