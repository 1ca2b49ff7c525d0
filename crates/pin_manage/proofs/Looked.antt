-- Inspection of a name by its first or second record, and of one that has no such record.
use mathlib.Core.Path.{◌≡◌, refl, sym, ap, subst, ◌∙◌}
use mathlib.Core.Bool.{Bool, true, false, true≢false}
use mathlib.Core.List.{List, [], ◌∷◌, ◌++◌}
use mathlib.Core.Option.{Option, none, some}
use Prim.Native.Nat.{ℕ, ◌≤◌, ◌<◌}
use native.Mathlib.Omega.{arith}
use lib.IntN.{pos, ◌-ℤ◌}
use lib.ListN.{length, get_or, get_or-eq_default}
use Rattle.std.specs.Prelude as answer
use Rattle.std.specs.Prelude.{Some, None}
use Rattle.std.specs.Option.{MatchOption, IsSomeAnd}
use Rattle.octets.proofs.Tests.{by_test}
use Rattle.pin_table.specs.declared.minutes.Minutes.{Minutes}
use Rattle.pin_model.specs.Slots.{used}
use Rattle.pin_model.specs.Table.{KeyRecord, NameRecord, name_is}
use Rattle.pin_model.specs.Layout.{decode}
use Rattle.pin_model.specs.Fits.{holds, floor_at}
use Rattle.pin_model.specs.Refusals.{first, area_tests, name_test, limit_test}
use Rattle.pin_model.specs.Calls.{Call, plain, answer, inspect, inspected_with, inspected_in, inspected_second, inspected_by}
use Rattle.pin_model.proofs.FloorByte.{floor-placed}
use Rattle.pin_records.specs.Holds.{Stored}
use Rattle.pin_records.specs.Find.{is_free, first_slot, second_slot, slot_found, initial_at, end_at}
use Rattle.pin_records.specs.Read.{end_found, pinned_key}
use Rattle.pin_records.proofs.Placed.{first_passes, holds-used}
use Rattle.pin_records.proofs.Found.{slot-there, slot-not-there}
use Rattle.pin_records.proofs.SecondSlots.{second-passes}
use Rattle.pin_refusals.proofs.Passed.{refused-by-area, behind-area, call-refused, call-passed}
use Rattle.pin_answers.specs.Numbers.{record_answer}
use Rattle.pin_answers.specs.declared.End.{End}
use Rattle.pin_manage.specs.Inspected.{record_slot, inspected_slot}

-- what stands in the slot of a name's first or second record; nothing past the last slot
module _ (name : List ℕ) (clock : ℕ) (keys : List (Option KeyRecord)) where
  first-inspected : (names : List (Option NameRecord))
      → inspected_slot clock keys (get_or names (first_slot (holds (name_is name)) names) none) ≡ inspected_in name clock (used keys) (used names)
  unfolding first_slot
  first-inspected [] = refl
  first-inspected (none ∷ names) = first-inspected names
  first-inspected (some r ∷ names) = by_test (name_is name r) (λ e. simp e) (λ e. simp e (first-inspected names))

  second-inspected : (names : List (Option NameRecord))
      → inspected_slot clock keys (get_or names (second_slot (holds (name_is name)) names) none) ≡ inspected_second name clock (used keys) (used names)
  unfolding second_slot
  second-inspected [] = refl
  second-inspected (none ∷ names) = second-inspected names
  second-inspected (some r ∷ names) = by_test (name_is name r) (λ e. simp e (first-inspected names)) (λ e. simp e (second-inspected names))

  record-inspected : (second : Bool) (names : List (Option NameRecord))
      → inspected_slot clock keys (get_or names (record_slot second name names) none) ≡ inspected_by second name clock (used keys) (used names)
  record-inspected false = first-inspected
  record-inspected true = second-inspected

record-passes : (second : Bool) (name : List ℕ) (names : List (Option NameRecord)) → record_slot second name names < length names
    → holds (name_is name) (get_or names (record_slot second name names) none) ≡ true
record-passes false name = first_passes (holds (name_is name))
record-passes true name = second-passes (holds (name_is name))

-- the slot that was found is used
pub record-used : (second : Bool) (name : List ℕ) (names : List (Option NameRecord)) → length names ≡ 128 → (n : ℕ)
    → Some n ≡ slot_found 128 (record_slot second name names) → is_free (get_or names n none) ≡ false
record-used second name names slots n e =
    let t = slot-there 128 (record_slot second name names) n e in
    let here : holds (name_is name) (get_or names n none) ≡ true =
    ap (λ (i : ℕ). holds (name_is name) (get_or names i none)) (sym t.1) ∙ record-passes second name names (omega (arith, t.0)) in
    holds-used (name_is name) (get_or names n none) here

module _ (second : Bool) (b name : List ℕ) (clock : ℕ) where
  abbrev it : Call
  it = inspect second name clock

  abbrev of_call : List (Bool × ℕ)
  of_call = name_test name ++ limit_test clock

  -- 10 and 11, then 12 and 13
  pub inspect-refused : {n : ℕ} → some n ≡ first (area_tests b) → plain n ≡ answer it b
  inspect-refused {n} e = (call-refused it b n (refused-by-area it b n (sym e))).0

  module _ (area_passed : none ≡ first (area_tests b)) where
    pub inspect-malformed : {n : ℕ} → some n ≡ first of_call → plain n ≡ answer it b
    inspect-malformed {n} e = (call-refused it b n (behind-area it b (sym area_passed) ∙ sym e)).0

    module _ (call_passed : none ≡ first of_call) where
      inspect-at : (i : ℕ) → record_slot second name (decode b).names ≡ i
          → inspected_slot clock (decode b).keys (get_or (decode b).names i none) ≡ answer it b
      inspect-at i f =
          ap (λ (i : ℕ). inspected_slot clock (decode b).keys (get_or (decode b).names i none)) (sym f)
          ∙ record-inspected name clock (decode b).keys second (decode b).names
          ∙ (call-passed it b (behind-area it b (sym area_passed) ∙ sym call_passed)).0

      pub inspect-nothing : Stored b → None ≡ slot_found 128 (record_slot second name (decode b).names) → plain 4 ≡ answer it b
      inspect-nothing stored f =
          let past : length (decode b).names ≤ record_slot second name (decode b).names =
          omega (arith, stored.fits.name_slots, slot-not-there 128 (record_slot second name (decode b).names) f) in
          ap (inspected_slot clock (decode b).keys) (sym (get_or-eq_default (decode b).names none past)) ∙ inspect-at (record_slot second name (decode b).names) refl

      pub inspect-found : (n : ℕ) → Some n ≡ slot_found 128 (record_slot second name (decode b).names) → {m : ℕ} → m ≡ clock
          → inspected_slot m (decode b).keys (get_or (decode b).names n none) ≡ answer it b
      inspect-found n f e = rw e (inspect-at n (slot-there 128 (record_slot second name (decode b).names) n f).1)

-- an end as it is given
abbrev pub Seen : ℕ → Minutes → End → Type 0
Seen clock m e = (e.end ≡ m.0) × (e.minutes_left ≡ pos m.0 -ℤ pos clock)

-- what a slot's record says, from what its fields say
module _ (clock : ℕ) (keys : List (Option KeyRecord)) (floor initial : ℕ) where
  given : (found : Option ℕ) (r : answer.Option End) {Q : Minutes → End → Type 0} → MatchOption (end_found found) (r ≡ None) (λ m. IsSomeAnd r (Q m))
      → ((m : Minutes) (e : End) → Q m e → Seen clock m e) → record_answer floor initial r ≡ inspected_with clock floor initial found
  given none r q seen = rw q refl
  given (some end) None q seen = absurd q
  given (some end) (Some e) q seen = let w = seen (record { 0 = end }) e q in rw (w.0, w.1) refl

  pub said : (slot : Option NameRecord) → is_free slot ≡ false → floor ≡ floor_at (get_or keys (pinned_key keys slot) none) → initial ≡ initial_at slot
      → (o : answer.Option Minutes) → o ≡ end_found (end_at slot) → (r : answer.Option End) {Q : Minutes → End → Type 0} → MatchOption o (r ≡ None) (λ m. IsSomeAnd r (Q m))
      → ((m : Minutes) (e : End) → Q m e → Seen clock m e) → record_answer floor initial r ≡ inspected_slot clock keys slot
  said none u f i o d r q seen = absurd (true≢false u)
  said (some n) u f i o d r {Q} q seen =
      given n.end r (subst (λ (x : answer.Option Minutes). MatchOption x (r ≡ None) (λ m. IsSomeAnd r (Q m))) d q) seen
      ∙ rw (i, f, floor-placed n.key keys) refl
