-- The refusals of a connection of edition two, one stage of tests after the other, and the answer where none applies.
use mathlib.Core.Path.{◌≡◌, refl, sym, ap₂, subst, ◌∙◌}
use mathlib.Core.Bool.{Bool, true, false}
use mathlib.Core.List.{List, [], ◌∷◌, ◌++◌}
use mathlib.Core.Option.{none, some}
use Prim.Native.Nat.{ℕ, ◌/◌, ◌%◌, ◌≤◌}
use lib.Dec.{eqb}
use lib.ListN.{take}
use borrow.Author.Tests.{ltb-false, not-false}
use Rattle.octets.specs.Octets.{Bytes}
use Rattle.host_name.specs.Name.{well_formed}
use Rattle.host_name.specs.Folding.{folded_name}
use Rattle.tack_extension.specs.Answers.{tack_bytes}
use Rattle.tack_extension_two.specs.ExtensionTwo.{parts_two, parts_or_none}
use Rattle.tack_extension_two.specs.declared.reader.Tacks.{Tacks}
use Rattle.pin_model.specs.Table.{Table, clock_limit}
use Rattle.pin_model.specs.Layout.{encode, decode}
use Rattle.pin_model.specs.Sound.{sound}
use Rattle.pin_model.specs.Connection.{ConnectionTwo, named, folded_connection, parts_two_of, Shown, shown_in, tacks_in, tacks_shown}
use Rattle.pin_model.specs.Refusals.{first, area_tests, edition_test, connection_two_tests, name_test, limit_test, handshake_tests, form_test, one_key_twice, parts_tests, any_revoked, tacks_tests}
use Rattle.pin_model.specs.JudgeTwo.{raised_at, judged_two, verdict_two, no_room_two}
use Rattle.pin_model.specs.Calls.{Answer, judgement, judge_two, refusal, answer, area_after, answered, area_left}
use Rattle.pin_model.proofs.First.{passed}
use Rattle.pin_model.proofs.LongNames.{judge-two-handed}
use Rattle.pin_model.proofs.SoundFacts.{sound-facts}
use Rattle.pin_model.proofs.SoundTwo.{raised-stage}
use Rattle.pin_records.specs.Holds.{Stored}
use Rattle.pin_refusals.proofs.Passed.{area-passes, refuses-here, passes-on, refused-by-area, behind-area, call-refused, call-passed, Ready, ready}
use Rattle.pin_refusals_two.specs.Parts.{tacks_in_order, both_in}
use Rattle.pin_steps_two.specs.SettledTwo.{SettledTwo}
use Rattle.pin_steps_two.specs.StepsTwo.{steps_two, steps_answer_two}
use Rattle.pin_steps_two.proofs.OwnPins.{from-stage}

-- the tests of the tacks do not look at the flags
module _ (f s : List ℕ) (flags : ℕ) where
  one-key-same : one_key_twice (tacks_in (parts_two f s flags)) ≡ one_key_twice (shown_in true f ++ shown_in true s)
  unfolding tacks_in
  one-key-same = go f s
    where
      go : (f s : List ℕ) → one_key_twice (shown_in (eqb (flags % 2) 1) f ++ shown_in (eqb (flags / 2 % 2) 1) s) ≡ one_key_twice (shown_in true f ++ shown_in true s)
      go [] [] = refl
      go [] (b ∷ bs) = refl
      go (a ∷ l) [] = refl
      go (a ∷ l) (b ∷ bs) = refl

  revoked-same : (t : Table) → any_revoked t (tacks_in (parts_two f s flags)) ≡ any_revoked t (shown_in true f ++ shown_in true s)
  unfolding tacks_in
  revoked-same t = go f s
    where
      go : (f s : List ℕ) → any_revoked t (shown_in (eqb (flags % 2) 1) f ++ shown_in (eqb (flags / 2 % 2) 1) s) ≡ any_revoked t (shown_in true f ++ shown_in true s)
      go [] [] = refl
      go [] (b ∷ bs) = refl
      go (a ∷ l) [] = refl
      go (a ∷ l) (b ∷ bs) = refl

module _ (k : ConnectionTwo) (b : List ℕ) where
  abbrev t : Table
  t = decode b

  -- a refusal leaves the area as it was
  abbrev Refused : ℕ → Type 0
  Refused n = (judgement true n false ≡ answer (judge_two k) b) × (b ≡ area_after (judge_two k) b)

  refuse : (tests later : List (Bool × ℕ)) → refusal (judge_two k) b ≡ first (tests ++ later) → {n : ℕ} → some n ≡ first tests → Refused n
  refuse tests later e {n} d = call-refused (judge_two k) b n (refuses-here tests later e d)

  -- 12 and 13; then by the clock as it was read 14 and 15, and from 16 on
  abbrev of_call : List (Bool × ℕ)
  of_call = name_test k.name ++ limit_test k.clock

  abbrev of_handshake : ℕ → List (Bool × ℕ)
  of_handshake m = handshake_tests m k.checks.handshake_finished t

  abbrev from_tacks : ℕ → List (Bool × ℕ)
  from_tacks m =
      let p = parts_or_none (parts_two_of k) in
      tacks_tests m k.hash k.checks t p.first p.second (tacks_shown k)

  abbrev from_form : ℕ → List (Bool × ℕ)
  from_form m = form_test (parts_two_of k) ++ from_tacks m

  module _ (h : sound b ≡ true) (two : t.two ≡ true) where
    at-12 : refusal (judge_two k) b ≡ first (of_call ++ (of_handshake k.clock ++ from_form k.clock))
    at-12 = behind-area (judge_two k) b (area-passes b h) ∙ rw two refl

    pub refused-call : {n : ℕ} → some n ≡ first of_call → Refused n
    refused-call = refuse of_call (of_handshake k.clock ++ from_form k.clock) at-12

    module _ (called : none ≡ first of_call) {m : ℕ} (its : m ≡ k.clock) where
      at-14 : refusal (judge_two k) b ≡ first (of_handshake m ++ from_form m)
      at-14 =
          subst (λ (m : ℕ). refusal (judge_two k) b ≡ first (of_handshake m ++ from_form m)) (sym its)
          (passes-on of_call (of_handshake k.clock ++ from_form k.clock) at-12 called)

      pub refused-handshake : {n : ℕ} → some n ≡ first (of_handshake m) → Refused n
      refused-handshake = refuse (of_handshake m) (from_form m) at-14

      module _ (finished : none ≡ first (of_handshake m)) where
        -- what the steps ask for
        pub ready-for : Bytes b → (tacks : List Shown) → Stored b × SettledTwo m (raised_at m tacks t) × (well_formed k.name ≡ true)
        ready-for byte tacks =
            let found : Ready b = ready b [] byte (area-passes b h) in
            let in_limit : m ≤ clock_limit = rw its (ltb-false _ _ (passed of_call (sym called) 1)) in
            let in_order : t.latest ≤ m = ltb-false m t.latest (passed (of_handshake m) (sym finished) 0) in (
              found.stored,
              from-stage (raised-stage k.name m tacks (sound-facts t found.table_sound) two in_order in_limit),
              not-false _ (passed of_call (sym called) 0),
            )

        at-16 : refusal (judge_two k) b ≡ first (from_form m)
        at-16 = passes-on (of_handshake m) (from_form m) at-14 finished

        pub refused-form : none ≡ parts_two_of k → Refused 16
        refused-form e = refuse (form_test (parts_two_of k)) (from_tacks m) at-16 (rw (← e) refl)

        -- what was read
        module _ (r : Tacks) (read : some (parts_two (tack_bytes r.first) (tack_bytes r.second) r.flags) ≡ parts_two_of k) where
          abbrev of_tacks : List (Bool × ℕ)
          of_tacks = tacks_tests m k.hash k.checks t (tack_bytes r.first) (tack_bytes r.second) (both_in r)

          at-24 : refusal (judge_two k) b ≡ first of_tacks
          unfolding tacks_shown
          at-24 =
              passes-on (form_test (parts_two_of k)) (from_tacks m) at-16 (rw (← read) refl)
              ∙ rw (← read) (ap₂ (λ (twice found : Bool). first ((twice, 24)
              ∷ (parts_tests m k.hash k.checks (tack_bytes r.first) (tack_bytes r.second) ++ ((found, 22) ∷ []))))
              (one-key-same (tack_bytes r.first) (tack_bytes r.second) r.flags) (revoked-same (tack_bytes r.first) (tack_bytes r.second) r.flags t))

          pub refused-tacks : {n : ℕ} → some n ≡ first of_tacks → Refused n
          refused-tacks {n} d = call-refused (judge_two k) b n (at-24 ∙ sym d)

          -- the steps, at a clock
          abbrev Stepped : Answer → List ℕ → ℕ → Type 0
          Stepped x after clock = (x ≡ steps_answer_two k.name clock (tacks_in_order r) t) × (after ≡ encode (steps_two k.name clock (tacks_in_order r) t))

          pub judged-so : none ≡ first of_tacks → {x : Answer} {after : List ℕ} → Stepped x after m → (x ≡ answer (judge_two k) b) × (after ≡ area_after (judge_two k) b)
          unfolding judged_two no_room_two verdict_two tacks_shown
          judged-so d {x} {after} w =
              let g = call-passed (judge_two k) b (at-24 ∙ sym d) in
              let now : Stepped x after k.clock = subst (Stepped x after) its w in
              (now.0 ∙ (rw (← read) at g.0), now.1 ∙ (rw (← read) at g.1))

-- a call as it came: 10 and 11 come first, whatever the connection, then 27
module _ (c : ConnectionTwo) (b : List ℕ) where
  pub refused-area : {n : ℕ} → some n ≡ first (area_tests b) → (judgement true n false ≡ answered (judge_two c) b) × (b ≡ area_left (judge_two c) b)
  unfolding answered area_left
  refused-area {n} d = let k = folded_connection c in call-refused (judge_two k) b n (refused-by-area (judge_two k) b n (sym d))

  pub refused-edition : sound b ≡ true → (decode b).two ≡ false → (judgement true 27 false ≡ answered (judge_two c) b) × (b ≡ area_left (judge_two c) b)
  unfolding answered area_left
  refused-edition h one =
      let k = folded_connection c in
      refuse k b (edition_test true (decode b)) (connection_two_tests k (decode b)) (behind-area (judge_two k) b (area-passes b h)) (rw one refl)

  -- the name that is handed on is the folded one, cut at 254 bytes
  pub handed-on : {name : List ℕ} → name ≡ take 254 (folded_name c.name) → {x : Answer} {after : List ℕ}
      → (x ≡ answer (judge_two (named name c)) b) × (after ≡ area_after (judge_two (named name c)) b) → (x ≡ answered (judge_two c) b) × (after ≡ area_left (judge_two c) b)
  handed-on its {x} {after} w =
      let same = judge-two-handed c b in
      let now : (x ≡ answer (judge_two (named (take 254 (folded_name c.name)) c)) b) × (after ≡ area_after (judge_two (named (take 254 (folded_name c.name)) c)) b) =
      subst (λ (n : List ℕ). (x ≡ answer (judge_two (named n c)) b) × (after ≡ area_after (judge_two (named n c)) b)) its w in
      (now.0 ∙ same.0, now.1 ∙ same.1)
