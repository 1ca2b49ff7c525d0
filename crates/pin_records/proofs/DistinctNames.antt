-- No name has more records than its edition allows, and none has two with one key: slots that are set keep it.
use mathlib.Core.Path.{◌≡◌, sym, ◌∙◌, ap, subst}
use mathlib.Core.Bool.{Bool, true, false}
use mathlib.Core.List.{List}
use mathlib.Core.Option.{Option, none, some}
use Prim.Native.Nat.{ℕ, ◌+◌, ◌≤◌, ◌<◌}
use native.Mathlib.Omega.{arith}
use lib.ListN.{length, get_or, set}
use borrow.Author.Tests.{ltb-false}
use Rattle.octets.specs.Octets.{same, any}
use Rattle.octets.proofs.Tests.{by_test, and_left, and_right}
use Rattle.octets.proofs.Equal.{same_true}
use Rattle.pin_model.specs.Slots.{bit, count, used}
use Rattle.pin_model.specs.Table.{NameRecord, name_is, pinned_to, pin_is, records_of_a_name}
use Rattle.pin_model.specs.Fits.{holds}
use Rattle.pin_model.proofs.Lists.{any-count, none-implied}
use Rattle.pin_model.proofs.Places.{count_set}
use Rattle.pin_records.specs.Holds.{Distinct}
use Rattle.pin_records.specs.Store.{Fresh}

-- in edition one no name has two
pub one-record : {two : Bool} {names : List (Option NameRecord)} → Distinct two names → two ≡ false → (n : List ℕ) → count (name_is n) (used names) ≤ 1
one-record {two} {names} d e n = subst (λ (x : Bool). count (name_is n) (used names) ≤ records_of_a_name x) e (d.few n)

-- a name that has no record may have one
pub only-fresh : (two : Bool) (name key : List ℕ) (n : ℕ) (names : List (Option NameRecord)) → any (name_is name) (used (set names n none)) ≡ false
    → Fresh two name key n names
only-fresh two name key n names e =
    let others : List NameRecord = used (set names n none) in
    record {
      fewer = omega (arith, allowed two, ltb-false 0 (count (name_is name) others) (sym (any-count (name_is name) others) ∙ e));
      unpinned = none-implied (pin_is name key) (name_is name) (λ r. and_left (name_is name r) (pinned_to key r)) others e;
    }
  where
    allowed : (two : Bool) → 0 < records_of_a_name two
    allowed true = omega arith
    allowed false = omega arith

module _ {two : Bool} {names : List (Option NameRecord)} (d : Distinct two names) (n : ℕ) (l : n < length names) where
  pub distinct-cleared : Distinct two (set names n none)
  distinct-cleared = record {
    few = λ m. omega (arith, d.few m, count_set (name_is m) names n none l);
    once = λ m k. omega (arith, d.once m k, count_set (pin_is m k) names n none l);
  }

  -- a record with another end
  pub distinct-same : (r s : NameRecord) → get_or names n none ≡ some r → s.name ≡ r.name → s.key ≡ r.key → Distinct two (set names n (some s))
  distinct-same r s e name key = record {
    few = λ m. omega (
      arith,
      d.few m,
      ap (λ (z : Option NameRecord). bit (holds (name_is m) z)) e,
      ap (λ (x : List ℕ). bit (same x m)) name,
      count_set (name_is m) names n (some s) l,
    );
    once = λ m k. omega (
      arith,
      d.once m k,
      ap (λ (z : Option NameRecord). bit (holds (pin_is m k) z)) e,
      alike m k,
      count_set (pin_is m k) names n (some s) l,
    );
  }
    where
      alike : (m k : List ℕ) → bit (pin_is m k s) ≡ bit (pin_is m k r)
      alike m k = rw (name, key)

  -- a new record
  pub distinct-added : (r : NameRecord) → Fresh two r.name r.key n names → Distinct two (set names n (some r))
  distinct-added r fresh = record { few = few; once = once }
    where
      others : List NameRecord
      others = used (set names n none)

      with_it : (p : NameRecord → Bool) → count p (used (set names n (some r))) ≡ bit (p r) + count p others
      with_it p = omega (arith, count_set p names n (some r) l, count_set p names n none l)

      few : (m : List ℕ) → count (name_is m) (used (set names n (some r))) ≤ records_of_a_name two
      few m =
          by_test (name_is m r)
          (λ e.
          let fewer : count (name_is m) others < records_of_a_name two =
          subst (λ (x : List ℕ). count (name_is x) others < records_of_a_name two) (same_true r.name m e) fresh.fewer in
          omega (arith, with_it (name_is m), ap bit e))
          (λ e. omega (arith, with_it (name_is m), ap bit e, distinct-cleared.few m))

      once : (m k : List ℕ) → count (pin_is m k) (used (set names n (some r))) ≤ 1
      once m k =
          by_test (pin_is m k r)
          (λ e.
          let gone : any (pin_is m k) others ≡ false =
          subst (λ (x : List ℕ). any (pin_is x k) others ≡ false) (same_true r.name m (and_left (name_is m r) (pinned_to k r) e))
          (subst (λ (x : List ℕ). any (pin_is r.name x) others ≡ false) (same_true r.key k (and_right (name_is m r) (pinned_to k r) e)) fresh.unpinned) in
          omega (arith, with_it (pin_is m k), ap bit e, ltb-false 0 (count (pin_is m k) others) (sym (any-count (pin_is m k) others) ∙ gone)))
          (λ e. omega (arith, with_it (pin_is m k), ap bit e, distinct-cleared.once m k))
