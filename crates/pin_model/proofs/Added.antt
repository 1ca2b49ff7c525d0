-- One record more, in either edition: the table stays sound if the name may have it and its key has room.
use mathlib.Core.Path.{◌≡◌, refl, sym, ◌∙◌, ap, subst}
use mathlib.Core.Bool.{Bool, true, false, cond, not, ◌&&◌, ◌||◌}
use mathlib.Core.List.{List, ◌∷◌}
use mathlib.Core.Option.{Option}
use Prim.Native.Nat.{ℕ, ◌≤◌, ◌<◌}
use native.Mathlib.Omega.{arith}
use lib.ListN.{length}
use borrow.Author.Tests.{le-leb, not-false}
use Rattle.octets.specs.Octets.{same, any, all}
use Rattle.octets.proofs.Tests.{by_test, and_left, and_right}
use Rattle.octets.proofs.Equal.{same_true}
use Rattle.host_name.specs.Name.{well_formed}
use Rattle.tack_extension.specs.Tack.{public_key}
use Rattle.pin_model.specs.Slots.{used, has_free, placed}
use Rattle.pin_model.specs.Table.{NameRecord, Table, holding, key_is, name_is, pinned_to, pin_is, key_recorded, records_of_a_name}
use Rattle.pin_model.specs.SoundTable.{sound_name}
use Rattle.pin_model.specs.Judge.{new_name, new_key, keyed_for}
use Rattle.pin_model.proofs.Lists.{bit, count, Alike, alike-any, count_none, any-not}
use Rattle.pin_model.proofs.Slots.{count-placed, any-placed, length-placed}
use Rattle.pin_model.proofs.SoundFacts.{SoundFacts}

-- the keys with a tack's: the new one, if it isn't there, and those that were
module _ (tack : List ℕ) {left : Table} (facts : SoundFacts left) where
  abbrev key : List ℕ
  key = public_key tack

  keyed-long : length (keyed_for tack left.keys) ≡ 64
  keyed-long =
      by_test (key_recorded key left)
      (λ e. rw e facts.key_slots)
      (λ e. rw e (length-placed (new_key tack) left.keys ∙ facts.key_slots))

  module _ (room : (key_recorded key left || has_free left.keys) ≡ true) where
    keyed-once : (k : List ℕ) → count (key_is k) (used (keyed_for tack left.keys)) ≤ 1
    keyed-once k = go (key_recorded key left) refl room
      where
        go : (b : Bool) → key_recorded key left ≡ b → (b || has_free left.keys) ≡ true
            → count (key_is k) (used (cond b left.keys (placed (new_key tack) left.keys))) ≤ 1
        go true e free = facts.key_once k
        go false e free =
            by_test (same key k)
            (λ d. omega (
              arith,
              count-placed (key_is k) (new_key tack) left.keys free,
              ap bit d,
              subst (λ (j : List ℕ). count (key_is j) (used left.keys) ≡ 0) (same_true key k d) (count_none (key_is key) (used left.keys) e),
            ))
            (λ d. omega (arith, count-placed (key_is k) (new_key tack) left.keys free, ap bit d, facts.key_once k))

    keyed-recorded : (k : List ℕ) → any (key_is k) (used (keyed_for tack left.keys)) ≡ (same key k || key_recorded k left)
    keyed-recorded k = go (key_recorded key left) refl room
      where
        go : (b : Bool) → key_recorded key left ≡ b → (b || has_free left.keys) ≡ true
            → any (key_is k) (used (cond b left.keys (placed (new_key tack) left.keys))) ≡ (same key k || key_recorded k left)
        go true e free =
            by_test (same key k)
            (λ d. rw d (subst (λ (j : List ℕ). key_recorded j left ≡ true) (same_true key k d) e))
            (λ d. rw d)
        go false e free = any-placed (key_is k) (new_key tack) left.keys free

-- what every element passes, every element of a list alike passes
alike_all : {A : Type 0} (p : A → Bool) (l m : List A) → Alike l m → all p m ≡ true → all p l ≡ true
alike_all p l m h e = not-false (all p l) (sym (any-not p l) ∙ alike-any l m h (λ x. not (p x)) ∙ any-not p m ∙ ap not e)

pub added-keeps : (name : List ℕ) (clock : ℕ) (tack : List ℕ) {left : Table} → SoundFacts left
    → (names : List (Option NameRecord)) → Alike (used names) (new_name name clock tack ∷ used left.names) → length names ≡ 128
    → (key_recorded (public_key tack) left || has_free left.keys) ≡ true
    → count (name_is name) (used left.names) < records_of_a_name left.two
    → any (pin_is name (public_key tack)) (used left.names) ≡ false
    → well_formed name ≡ true → clock ≤ left.latest
    → SoundFacts (holding left (keyed_for tack left.keys) names)
added-keeps name clock tack {left} facts names alike long room few own formed in_order =
    record {
      latest_in_limit = facts.latest_in_limit;
      key_slots = keyed-long tack facts;
      name_slots = long;
      key_once = keyed-once tack facts room;
      name_few = λ n.
          by_test (same name n)
          (λ e. omega (
            arith,
            alike (name_is n),
            ap bit e,
            subst (λ (m : List ℕ). count (name_is m) (used left.names) < records_of_a_name left.two) (same_true name n e) few,
          ))
          (λ e. omega (arith, alike (name_is n), ap bit e, facts.name_few n));
      pin_once = λ n k.
          by_test (same name n && same (public_key tack) k)
          (λ e.
          let its : count (pin_is n k) (used left.names) ≡ 0 =
          subst (λ (m : List ℕ). count (pin_is m k) (used left.names) ≡ 0) (same_true name n (and_left (same name n) (same (public_key tack) k) e))
          (subst (λ (j : List ℕ). count (pin_is name j) (used left.names) ≡ 0) (same_true (public_key tack) k (and_right (same name n) (same (public_key tack) k) e))
          (count_none (pin_is name (public_key tack)) (used left.names) own)) in
          omega (arith, alike (pin_is n k), ap bit e, its))
          (λ e. omega (arith, alike (pin_is n k), ap bit e, facts.pin_once n k));
      recorded_while_pinned = λ k.
          keyed-recorded tack facts room k ∙ ap (λ (b : Bool). same (public_key tack) k || b) (facts.recorded_while_pinned k)
          ∙ sym (alike-any (used names) (new_name name clock tack ∷ used left.names) alike (pinned_to k));
      names_sound =
          alike_all (sound_name left.latest) (used names) (new_name name clock tack ∷ used left.names) alike
          (rw (formed, le-leb clock left.latest in_order) facts.names_sound);
    }
