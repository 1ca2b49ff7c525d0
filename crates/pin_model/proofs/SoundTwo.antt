-- The steps of edition two keep a table sound.
use mathlib.Core.Path.{◌≡◌, refl, ◌∙◌, ap}
use mathlib.Core.Bool.{Bool, true, not, cond, ◌&&◌}
use mathlib.Core.List.{List, [], ◌∷◌}
use Prim.Native.Nat.{ℕ, ◌≤◌, ◌<◌}
use native.Mathlib.Omega.{arith}
use lib.Dec.{ltb}
use borrow.Author.Tests.{ltb-true, not-true}
use Rattle.octets.proofs.Tests.{by_test, and_left, and_right}
use Rattle.host_name.specs.Name.{well_formed}
use Rattle.pin_model.specs.Slots.{count, used, has_free, placed}
use Rattle.pin_model.specs.Table.{clock_limit, NameRecord, Table, holding, name_is, without_all}
use Rattle.pin_model.specs.SoundTable.{sound_table}
use Rattle.pin_model.specs.Connection.{ConnectionTwo, Shown, tacks_shown}
use Rattle.pin_model.specs.Judge.{raise, extend, new_name}
use Rattle.pin_model.specs.JudgeTwo.{raise_each, raised_at, raised_two, contradicted, is_removed, has_own, wants_own, key_room, room_of, make_own, learn_own, learn_each, learn_two, judged_two}
use Rattle.pin_model.proofs.Lists.{cond_either}
use Rattle.pin_model.proofs.Slots.{alike-placed, length-placed}
use Rattle.pin_model.proofs.SoundFacts.{SoundFacts, sound-facts, facts-sound}
use Rattle.pin_model.proofs.SoundSteps.{raise-keeps, extend-keeps, settled-keeps}
use Rattle.pin_model.proofs.SoundRemoval.{removed-keeps}
use Rattle.pin_model.proofs.Added.{added-keeps}

-- raising floors changes nothing but the keys
pub raised-form : (tacks : List Shown) (t : Table) → raise_each tacks t ≡ holding t (raise_each tacks t).keys t.names
raised-form [] t = refl
raised-form (s ∷ tacks) t = raised-form tacks (raise s.tack t)

raised_keeps : (tacks : List Shown) {t : Table} → SoundFacts t → SoundFacts (raise_each tacks t)
raised_keeps [] facts = facts
raised_keeps (s ∷ tacks) {t} facts = raised_keeps tacks {t = raise s.tack t} (raise-keeps s.tack facts)

-- a sound table of edition two whose latest is the call's clock
pub record Stage (clock : ℕ) (t : Table) : Type 0 where
  pub facts : SoundFacts t
  pub settled : t.latest ≡ clock
  pub two : t.two ≡ true

module _ (name : List ℕ) (clock : ℕ) (formed : well_formed name ≡ true) where
  module _ (tack : List ℕ) {t : Table} (stage : Stage clock t) where
    extended-stage : Stage clock (extend true name clock tack t)
    extended-stage =
        record {
          facts = extend-keeps true name clock tack stage.settled stage.facts;
          settled = stage.settled;
          two = stage.two;
        }

    made-stage : Stage clock (make_own name clock tack t)
    made-stage =
        by_test (wants_own name tack t && room_of tack t)
        (λ e.
        let wants : wants_own name tack t ≡ true = and_left (wants_own name tack t) (room_of tack t) e in
        let room : room_of tack t ≡ true = and_right (wants_own name tack t) (room_of tack t) e in
        let few : count (name_is name) (used t.names) < 2 =
        ltb-true (count (name_is name) (used t.names)) 2 (and_right (not (has_own name tack t)) (ltb (count (name_is name) (used t.names)) 2) wants) in
        rw e (record {
          facts =
              added-keeps name clock tack stage.facts (placed (new_name name clock tack) t.names)
              (alike-placed (new_name name clock tack) t.names (and_left (has_free t.names) (key_room tack t) room))
              (length-placed (new_name name clock tack) t.names ∙ stage.facts.name_slots)
              (and_right (has_free t.names) (key_room tack t) room)
              (rw stage.two few)
              (not-true (has_own name tack t) (and_left (not (has_own name tack t)) (ltb (count (name_is name) (used t.names)) 2) wants))
              formed (omega (arith, stage.settled));
          settled = stage.settled;
          two = stage.two;
        }))
        (λ e. rw e stage)

  pub own-stage : (s : Shown) {t : Table} → Stage clock t → Stage clock (learn_own name clock s t)
  own-stage s {t} stage =
      cond_either (Stage clock) s.enabled (cond (has_own name s.tack t) (extend true name clock s.tack t) (make_own name clock s.tack t)) t
      (cond_either (Stage clock) (has_own name s.tack t) (extend true name clock s.tack t) (make_own name clock s.tack t)
      (extended-stage s.tack stage) (made-stage s.tack stage))
      stage

  pub each-stage : (tacks : List Shown) {t : Table} → Stage clock t → Stage clock (learn_each name clock tacks t)
  each-stage [] stage = stage
  each-stage (s ∷ tacks) {t} stage = each-stage tacks {t = learn_own name clock s t} (own-stage s stage)

  pub removed-stage : (out : NameRecord → Bool) {t : Table} → Stage clock t → Stage clock (without_all out t)
  removed-stage out stage = record { facts = removed-keeps out stage.facts; settled = stage.settled; two = stage.two }

module _ (name : List ℕ) (clock : ℕ) (tacks : List Shown) {t : Table} (facts : SoundFacts t) (two : t.two ≡ true) (in_order : t.latest ≤ clock) (in_limit : clock ≤ clock_limit) where
  pub raised-stage : Stage clock (raised_at clock tacks t)
  raised-stage =
      let form = raised-form tacks t in
      record {
        facts = settled-keeps clock (rw (ap (λ (u : Table). u.latest) form) in_order) in_limit (raised_keeps tacks facts);
        settled = refl;
        two = ap (λ (u : Table). u.two) form ∙ two;
      }

  learned-stage : well_formed name ≡ true → Stage clock (learn_two name clock tacks (raised_at clock tacks t))
  learned-stage formed =
      cond_either (Stage clock) (contradicted name clock tacks (raised_at clock tacks t)) (raised_at clock tacks t)
      (learn_each name clock tacks (without_all (is_removed name clock tacks) (raised_at clock tacks t)))
      raised-stage
      (each-stage name clock formed tacks (removed-stage name clock formed (is_removed name clock tacks) raised-stage))

pub judged_two-keeps : (c : ConnectionTwo) (t : Table) → sound_table t ≡ true → t.two ≡ true → well_formed c.name ≡ true → t.latest ≤ c.clock
    → c.clock ≤ clock_limit → sound_table (judged_two c t) ≡ true
unfolding judged_two
judged_two-keeps c t sound two formed in_order in_limit =
    facts-sound (learn_two c.name c.clock (tacks_shown c) (raised_two c t))
    (learned-stage c.name c.clock (tacks_shown c) (sound-facts t sound) two in_order in_limit formed).facts
