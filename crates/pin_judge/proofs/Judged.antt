-- The refusals of a connection, one stage of tests after the other, and the answer where none applies.
use mathlib.Core.Path.{◌≡◌, refl, sym, subst, ◌∙◌}
use mathlib.Core.Bool.{Bool, true, false, not, ◌||◌}
use mathlib.Core.List.{List, [], ◌++◌, map}
use mathlib.Core.Option.{none, some}
use Prim.Native.Nat.{ℕ}
use lib.Dec.{eqb}
use lib.ListN.{length, take}
use borrow.Author.Tests.{ltb-false, not-true, not-false}
use Rattle.octets.specs.Octets.{Bytes, all}
use Rattle.octets.proofs.Tests.{and_left, and_right, by_test}
use Rattle.octets.proofs.Options.{some-injective}
use Rattle.host_name.specs.Folding.{folded_name}
use Rattle.tack_extension.specs.Extension.{Parts, parts, breaks_length}
use Rattle.tack_extension.specs.Tack.{break_key, break_signatures}
use Rattle.tack_extension.proofs.RoundTrip.{reads-good}
use Rattle.pin_model.specs.Table.{Table}
use Rattle.pin_model.specs.Layout.{encode, decode}
use Rattle.pin_model.specs.Sound.{sound}
use Rattle.pin_model.specs.Connection.{Connection, named, folded_connection, parts_of, unless_empty, tack_shown, enabled, may_record, breaks_shown, broken_keys}
use Rattle.pin_model.specs.Refusals.{first, area_tests, edition_test, connection_tests, name_test, limit_test, handshake_tests, form_test, breaks_test, tack_tests}
use Rattle.pin_model.specs.Judge.{judged, no_room, steps, verdict}
use Rattle.pin_model.specs.Calls.{Answer, plain, judge, table_tests_of, refusal, answer, refused_with, area_after, answered, area_left}
use Rattle.pin_model.proofs.First.{passed, first-number}
use Rattle.pin_model.proofs.LongNames.{judge-handed}
use Rattle.pin_refusals.proofs.Passed.{area-passes, refuses-here, passes-on, behind-area, call-refused, call-passed, Ready, ready}
use Rattle.pin_judge.specs.Known.{InOrder}
use Rattle.pin_judge.specs.Answered.{steps_answer}

module _ (k : Connection) (b : List ℕ) where
  abbrev t : Table
  t = decode b

  -- a refusal other than 23 leaves the area as it was
  abbrev Refused : ℕ → Type 0
  Refused n = (plain n ≡ answer (judge k) b) × (b ≡ area_after (judge k) b)

  early : (tests later : List (Bool × ℕ)) → all (λ x. not (eqb x.1 23)) tests ≡ true → refusal (judge k) b ≡ first (tests ++ later)
      → {n : ℕ} → some n ≡ first tests → Refused n
  early tests later others e {n} d =
      let g = call-refused (judge k) b n (refuses-here tests later e d) in
      let other : eqb n 23 ≡ false = not-true (eqb n 23) (first-number (λ m. not (eqb m 23)) tests n others (sym d)) in
      (g.0, rw other at g.1)

  -- 12 and 13; then by the clock as it was read 14 and 15, and from 16 on
  abbrev of_call : List (Bool × ℕ)
  of_call = name_test k.name ++ limit_test k.clock

  abbrev of_handshake : ℕ → List (Bool × ℕ)
  of_handshake m = handshake_tests m k.checks.handshake_finished t

  abbrev from_breaks : ℕ → List (Bool × ℕ)
  from_breaks m = breaks_test (breaks_shown k) k.checks.breaks_correct ++ tack_tests m k.hash k.checks t (tack_shown k)

  abbrev from_form : ℕ → List (Bool × ℕ)
  from_form m = form_test (parts_of k) ++ from_breaks m

  module _ (h : sound b ≡ true) (one : t.two ≡ false) where
    at-12 : refusal (judge k) b ≡ first (of_call ++ (of_handshake k.clock ++ from_form k.clock))
    at-12 = behind-area (judge k) b (area-passes b h) ∙ rw one refl

    pub refused-call : {n : ℕ} → some n ≡ first of_call → Refused n
    refused-call = early of_call (of_handshake k.clock ++ from_form k.clock) refl at-12

    module _ (called : none ≡ first of_call) {m : ℕ} (its : m ≡ k.clock) where
      at-14 : refusal (judge k) b ≡ first (of_handshake m ++ from_form m)
      at-14 =
          subst (λ (m : ℕ). refusal (judge k) b ≡ first (of_handshake m ++ from_form m)) (sym its)
          (passes-on of_call (of_handshake k.clock ++ from_form k.clock) at-12 called)

      pub refused-handshake : {n : ℕ} → some n ≡ first (of_handshake m) → Refused n
      refused-handshake = early (of_handshake m) (from_form m) refl at-14

      module _ (finished : none ≡ first (of_handshake m)) where
        pub in-order : Bytes b → InOrder b k.name m
        in-order byte =
            let found : Ready b = ready b [] byte (area-passes b h) in
            record {
              admitted = record {
                stored = found.stored;
                table_sound = found.table_sound;
                of_one = one;
                name_formed = not-false _ (passed of_call (sym called) 0);
                clock_in_limit = rw its (ltb-false _ _ (passed of_call (sym called) 1));
              };
              clock_in_order = ltb-false m t.latest (passed (of_handshake m) (sym finished) 0);
            }

        at-16 : refusal (judge k) b ≡ first (from_form m)
        at-16 = passes-on (of_handshake m) (from_form m) at-14 finished

        pub refused-form : none ≡ parts_of k → Refused 16
        refused-form e = early (form_test (parts_of k)) (from_breaks m) refl at-16 (rw (← e) refl)

        -- what was read
        module _ (p : Parts) (read : some p ≡ parts_of k) where
          abbrev of_breaks : List (Bool × ℕ)
          of_breaks = breaks_test (break_signatures p.breaks) k.checks.breaks_correct

          abbrev of_tack : List (Bool × ℕ)
          of_tack = tack_tests m k.hash k.checks t (unless_empty p.tack)

          at-17 : refusal (judge k) b ≡ first (of_breaks ++ of_tack)
          unfolding breaks_shown tack_shown
          at-17 = passes-on (form_test (parts_of k)) (from_breaks m) at-16 (rw (← read) refl) ∙ rw (← read) refl

          pub refused-breaks : {n : ℕ} → some n ≡ first of_breaks → Refused n
          refused-breaks = early of_breaks of_tack refl at-17

          module _ (correct : none ≡ first of_breaks) where
            at-18 : refusal (judge k) b ≡ first of_tack
            at-18 = passes-on of_breaks of_tack at-17 correct

            pub refused-tack : {n : ℕ} → some n ≡ first of_tack → {after : List ℕ} → after ≡ refused_with n (unless_empty p.tack) b
                → (plain n ≡ answer (judge k) b) × (after ≡ area_after (judge k) b)
            unfolding tack_shown
            refused-tack {n} d e =
                let g = call-refused (judge k) b n (at-18 ∙ sym d) in
                (g.0, e ∙ (rw (← read) at g.1))

            -- the steps, at a clock
            abbrev Stepped : Answer → List ℕ → ℕ → Type 0
            Stepped x after clock =
                let on = eqb p.activation 1 in
                let broken = map break_key (break_signatures p.breaks) in
                (x ≡ steps_answer on (on || k.checks.learn_disabled) k.name clock (unless_empty p.tack) broken t)
                × (after ≡ encode (steps on (on || k.checks.learn_disabled) k.name clock (unless_empty p.tack) broken t))

            pub judged-so : none ≡ first of_tack → {x : Answer} {after : List ℕ} → Stepped x after m → (x ≡ answer (judge k) b) × (after ≡ area_after (judge k) b)
            unfolding judged no_room verdict tack_shown enabled may_record breaks_shown broken_keys
            judged-so d {x} {after} w =
                let g = call-passed (judge k) b (at-18 ∙ sym d) in
                let now : Stepped x after k.clock = subst (Stepped x after) its w in
                (now.0 ∙ (rw (← read) at g.0), now.1 ∙ (rw (← read) at g.1))

-- the lengths of the break signatures that were read
pub breaks-allowed : (k : Connection) (p : Parts) → some p ≡ parts_of k → breaks_length (length p.breaks) ≡ true
unfolding parts_of
breaks-allowed k p read =
    by_test k.extension_came
    (λ came. and_left _ _ (and_right _ _ (reads-good k.extension p (sym (rw came at read)))))
    (λ none_came. let its : p ≡ parts [] [] 0 = some-injective (rw none_came at read) in rw its refl)

-- a call as it came: 10 and 11 come first, whatever the connection, then 27
module _ (c : Connection) (b : List ℕ) where
  pub refused-area : {n : ℕ} → some n ≡ first (area_tests b) → (plain n ≡ answered (judge c) b) × (b ≡ area_left (judge c) b)
  unfolding answered area_left refusal
  refused-area = let k = folded_connection c in early k b (area_tests b) (table_tests_of (judge k) (decode b)) refl refl

  pub refused-edition : sound b ≡ true → (decode b).two ≡ true → (plain 27 ≡ answered (judge c) b) × (b ≡ area_left (judge c) b)
  unfolding answered area_left
  refused-edition h two =
      let k = folded_connection c in
      early k b (edition_test false (decode b)) (connection_tests k (decode b)) refl (behind-area (judge k) b (area-passes b h)) (rw two refl)

  -- the name that is handed on is the folded one, cut at 254 bytes
  pub handed-on : {name : List ℕ} → name ≡ take 254 (folded_name c.name) → {x : Answer} {after : List ℕ}
      → (x ≡ answer (judge (named name c)) b) × (after ≡ area_after (judge (named name c)) b) → (x ≡ answered (judge c) b) × (after ≡ area_left (judge c) b)
  handed-on its {x} {after} w =
      let same = judge-handed c b in
      let now : (x ≡ answer (judge (named (take 254 (folded_name c.name)) c)) b) × (after ≡ area_after (judge (named (take 254 (folded_name c.name)) c)) b) =
      subst (λ (n : List ℕ). (x ≡ answer (judge (named n c)) b) × (after ≡ area_after (judge (named n c)) b)) its w in
      (now.0 ∙ same.0, now.1 ∙ same.1)
