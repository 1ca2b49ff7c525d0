-- What a sound table is, as facts with names.
use mathlib.Core.Path.{◌≡◌, sym, ◌∙◌, ap, ap₂, subst}
use mathlib.Core.Bool.{Bool, true, false}
use mathlib.Core.List.{List}
use mathlib.Core.Option.{none, some}
use Prim.Native.Nat.{ℕ, ◌≤◌}
use native.Mathlib.Omega.{arith}
use lib.Dec.{leb}
use lib.ListN.{length, get_or}
use borrow.Author.Tests.{leb-true, le-leb, eqb-true, eq-eqb}
use Rattle.octets.specs.Octets.{all, any}
use Rattle.octets.proofs.Tests.{by_test, both_ways, and_left, and_right, and_both}
use Rattle.octets.proofs.Equal.{same_true, same_refl}
use Rattle.pin_model.specs.Slots.{used, apart}
use Rattle.pin_model.specs.Table.{clock_limit, KeyRecord, NameRecord, Table, key_is, name_is, pinned_to, pin_is, key_recorded, records_of_a_name}
use Rattle.pin_model.specs.SoundTable.{names_few, sound_name, sound_table}
use Rattle.pin_model.specs.Fits.{holds}
use Rattle.pin_model.proofs.Lists.{count, count_none, count-implied}
use Rattle.pin_model.proofs.Places.{any_at}
use Rattle.pin_model.proofs.Fields.{all_found, found_all}
use Rattle.pin_model.proofs.Once.{apart-few, few-apart, apart-once, once-apart}

pub record SoundFacts (t : Table) : Type 0 where
  pub latest_in_limit : t.latest ≤ clock_limit
  pub key_slots : length t.keys ≡ 64
  pub name_slots : length t.names ≡ 128
  pub key_once : (k : List ℕ) → count (key_is k) (used t.keys) ≤ 1
  pub name_few : (n : List ℕ) → count (name_is n) (used t.names) ≤ records_of_a_name t.two
  pub pin_once : (n k : List ℕ) → count (pin_is n k) (used t.names) ≤ 1
  -- every name record's key is recorded, and every key record has a name pinned to it
  pub recorded_while_pinned : (k : List ℕ) → key_recorded k t ≡ any (pinned_to k) (used t.names)
  pub names_sound : all (sound_name t.latest) (used t.names) ≡ true

abbrev pub key_of : KeyRecord → List ℕ
key_of k = k.key

abbrev pub pin_of : NameRecord → List ℕ
pin_of r = r.key

abbrev pub name_of : NameRecord → List ℕ
name_of r = r.name

-- no name more often than the edition allows; no name twice with one key
few-names : (two : Bool) (l : List NameRecord) → names_few two l ≡ true → (n : List ℕ) → count (name_is n) l ≤ records_of_a_name two
few-names two l e n =
    by_test (any (name_is n) l)
    (λ d. leb-true (count (name_is n) l) (records_of_a_name two) (all_found name_of (λ m. leb (count (name_is m) l) (records_of_a_name two)) l e n d))
    (λ d. omega (arith, count_none (name_is n) l d))

pub names-few : (two : Bool) (l : List NameRecord) → ((n : List ℕ) → count (name_is n) l ≤ records_of_a_name two) → names_few two l ≡ true
names-few two l h =
    found_all name_of (λ m. leb (count (name_is m) l) (records_of_a_name two)) l (λ n e. le-leb (count (name_is n) l) (records_of_a_name two) (h n))

abbrev pin_label : NameRecord → List ℕ × List ℕ
pin_label r = (r.name, r.key)

abbrev pin_labelled : List ℕ × List ℕ → NameRecord → Bool
pin_labelled l r = pin_is l.0 l.1 r

own-label : (r : NameRecord) → pin_labelled (pin_label r) r ≡ true
own-label r = and_both (name_is r.name r) (pinned_to r.key r) (same_refl r.name) (same_refl r.key)

only-label : (l : List ℕ × List ℕ) (r : NameRecord) → pin_labelled l r ≡ true → pin_label r ≡ l
only-label l r e =
    ap₂ (λ (n k : List ℕ). (n, k)) (same_true r.name l.0 (and_left (name_is l.0 r) (pinned_to l.1 r) e))
    (same_true r.key l.1 (and_right (name_is l.0 r) (pinned_to l.1 r) e))

pub apart-pins : (l : List NameRecord) → apart (λ r s. pin_is r.name r.key s) l ≡ true → (n k : List ℕ) → count (pin_is n k) l ≤ 1
apart-pins l e n k = apart-few pin_labelled pin_label own-label only-label l e (n, k)

pub pins-apart : (l : List NameRecord) → ((n k : List ℕ) → count (pin_is n k) l ≤ 1) → apart (λ r s. pin_is r.name r.key s) l ≡ true
pins-apart l h = few-apart pin_labelled pin_label own-label only-label l (λ x. h x.0 x.1)

-- where no name comes twice, no name comes twice with one key
pub names-pins : (l : List NameRecord) → ((n : List ℕ) → count (name_is n) l ≤ 1) → (n k : List ℕ) → count (pin_is n k) l ≤ 1
names-pins l h n k = omega (arith, h n, count-implied (pin_is n k) (name_is n) (λ r. and_left (name_is n r) (pinned_to k r)) l)

pub sound-facts : (t : Table) → sound_table t ≡ true → SoundFacts t
sound-facts t sound = record {
  latest_in_limit = leb-true t.latest clock_limit (search and_left);
  key_slots = eqb-true (length t.keys) 64 (search (and_left, and_right));
  name_slots = eqb-true (length t.names) 128 (search (and_left, and_right));
  key_once = apart-once key_of (used t.keys) (search (and_left, and_right));
  name_few = few-names t.two (used t.names) (search (and_left, and_right));
  pin_once = apart-pins (used t.names) (search (and_left, and_right));
  recorded_while_pinned = λ k.
      both_ways (key_recorded k t) (any (pinned_to k) (used t.names))
      (all_found key_of (λ j. any (pinned_to j) (used t.names)) (used t.keys) (search (and_left, and_right) depth 10) k)
      (all_found pin_of (λ j. key_recorded j t) (used t.names) (search (and_left, and_right) depth 10) k);
  names_sound = search (and_left, and_right) depth 10;
}

pub facts-sound : (t : Table) → SoundFacts t → sound_table t ≡ true
facts-sound t facts =
    rw (
      le-leb t.latest clock_limit facts.latest_in_limit,
      eq-eqb (length t.keys) 64 facts.key_slots,
      eq-eqb (length t.names) 128 facts.name_slots,
      once-apart key_of (used t.keys) facts.key_once,
      names-few t.two (used t.names) facts.name_few,
      pins-apart (used t.names) facts.pin_once,
      found_all pin_of (λ k. key_recorded k t) (used t.names) (λ k e. facts.recorded_while_pinned k ∙ e),
      found_all key_of (λ k. any (pinned_to k) (used t.names)) (used t.keys) (λ k e. sym (facts.recorded_while_pinned k) ∙ e),
    )
    facts.names_sound

-- a name's key is recorded, and a recorded key has a name
module _ {t : Table} (facts : SoundFacts t) where
  -- 'no .. name twice' in edition one
  pub name-once : t.two ≡ false → (n : List ℕ) → count (name_is n) (used t.names) ≤ 1
  name-once e n = subst (λ (two : Bool). count (name_is n) (used t.names) ≤ records_of_a_name two) e (facts.name_few n)

  pub name-keyed : (n : ℕ) (r : NameRecord) → get_or t.names n none ≡ some r → key_recorded r.key t ≡ true
  name-keyed n r e =
      facts.recorded_while_pinned r.key
      ∙ any_at (pinned_to r.key) t.names n (ap (holds (pinned_to r.key)) e ∙ same_refl r.key)

  pub key-named : (k : ℕ) (x : KeyRecord) → get_or t.keys k none ≡ some x → any (pinned_to x.key) (used t.names) ≡ true
  key-named k x e =
      sym (facts.recorded_while_pinned x.key)
      ∙ any_at (key_is x.key) t.keys k (ap (holds (key_is x.key)) e ∙ same_refl x.key)
