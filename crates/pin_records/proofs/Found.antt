-- The answers of the searches: what they found, and what their callers know.
use mathlib.Core.Path.{◌≡◌, sym, ◌∙◌, ap}
use mathlib.Core.Bool.{Bool, true, false, cond, ◌&&◌}
use mathlib.Core.List.{List}
use mathlib.Core.Option.{Option, none, some}
use Prim.Native.Nat.{ℕ, ◌≤◌, ◌<◌, zero-le}
use native.Mathlib.Omega.{arith}
use lib.Dec.{ltb}
use lib.ListN.{length, get_or, set}
use borrow.Author.Tests.{lt-ltb, le-ltb, ltb-true, ltb-false}
use Rattle.octets.specs.Octets.{same, any}
use Rattle.octets.proofs.Equal.{same_true, same-eq}
use Rattle.octets.proofs.Tests.{by_test}
use Rattle.pin_model.specs.Slots.{used, has_free, freed, changed, placed}
use Rattle.pin_model.specs.Table.{KeyRecord, NameRecord, key_is, name_is}
use Rattle.pin_model.specs.Fits.{holds}
use Rattle.pin_model.proofs.Lists.{count}
use Rattle.pin_model.proofs.Places.{any_at, any_none, any-once}
use Rattle.pin_model.proofs.OneSlot.{freed-set, changed-set}
use Rattle.std.specs.Prelude.{Some, None}
use Rattle.std.specs.Prelude as answer
use Rattle.pin_table.proofs.Ranges.{IsLowest}
use Rattle.pin_records.specs.Find.{is_free, first_slot, slot_found}
use Rattle.pin_records.proofs.Placed.{first-at, first-none, first_passes, first_absent, Used, is-used, holds-used, free-none, free-below, free-above, placed-set}

-- the lowest slot that passes a test
pub lowest-slot : {A : Type 0} (p : Option A → Bool) (l : List (Option A)) (n : ℕ) → length l ≡ n → (r : answer.Option ℕ) → IsLowest (λ k. p (get_or l k none)) 0 n r → r ≡ slot_found n (first_slot p l)
unfolding slot_found
lowest-slot p l n slots None h =
    let q : first_slot p l ≡ length l = first-none p l (λ j k. h j zero-le (omega arith)) in
    sym (rw (q, slots, le-ltb n n (omega arith)))
lowest-slot p l n slots (Some i) h =
    let q : first_slot p l ≡ i = first-at p l i (omega (arith, h.1)) (λ j k. h.3 j zero-le k) h.2 in
    sym (rw (q, lt-ltb i n h.1))

-- what the answer of a search says of the place that it found
pub slot-there : (n j i : ℕ) → Some i ≡ slot_found n j → (j < n) × (j ≡ i)
unfolding slot_found
slot-there n j i e = by_test (ltb j n) (λ d. (ltb-true j n d, let q : Some i ≡ Some j = simp d at e in cc)) (λ d. let q : Some i ≡ None = simp d at e in cc)

pub slot-not-there : (n j : ℕ) → None ≡ slot_found n j → n ≤ j
unfolding slot_found
slot-not-there n j e = by_test (ltb j n) (λ d. let q : None ≡ Some j = simp d at e in cc) (λ d. ltb-false j n d)

-- slot i of n is used, by an element whose field has the value
pub record FoundAt {A : Type 0} (field : A → List ℕ) (value : List ℕ) (l : List (Option A)) (n i : ℕ) : Type 0 where
  pub below : i < n
  pub what : A
  pub there : get_or l i none ≡ some what
  pub its : field what ≡ value
  pub in_use : is_free (get_or l i none) ≡ false
  pub recorded : any (λ a. same (field a) value) (used l) ≡ true

-- slot i of n is the lowest that is free
pub record FreeAt {A : Type 0} (l : List (Option A)) (n i : ℕ) : Type 0 where
  pub below : i < n
  pub there : get_or l i none ≡ none
  pub free : is_free (get_or l i none) ≡ true
  pub room : has_free l ≡ true
  pub lowest : (a : A) → placed a l ≡ set l i (some a)

-- what the answer of a search says
module _ {A : Type 0} {n : ℕ} (l : List (Option A)) (slots : length l ≡ n) where
  pub held-at : (field : A → List ℕ) (value : List ℕ) (i : ℕ) → Some i ≡ slot_found n (first_slot (holds (λ a. same (field a) value)) l) → FoundAt field value l n i
  held-at field value i e =
      let has : A → Bool = λ a. same (field a) value in
      let t = slot-there n (first_slot (holds has) l) i e in
      let here : holds has (get_or l i none) ≡ true = ap (λ (j : ℕ). holds has (get_or l j none)) (sym t.1) ∙ first_passes (holds has) l (omega (arith, t.0)) in
      let u : Used (get_or l i none) = is-used (get_or l i none) (holds-used has (get_or l i none) here) in
      record {
        below = omega (arith, t.0, t.1);
        what = u.what;
        there = u.there;
        its = same_true (field u.what) value (sym (ap (holds has) u.there) ∙ here);
        in_use = holds-used has (get_or l i none) here;
        recorded = any_at has l i here;
      }

  pub held-nowhere : (field : A → List ℕ) (value : List ℕ) → None ≡ slot_found n (first_slot (holds (λ a. same (field a) value)) l) → any (λ a. same (field a) value) (used l) ≡ false
  held-nowhere field value e =
      let has : A → Bool = λ a. same (field a) value in
      any_none has l (first_absent (holds has) l (omega (arith, slot-not-there n (first_slot (holds has) l) e)))

  pub found-free : (i : ℕ) → Some i ≡ slot_found n (first_slot is_free l) → FreeAt l n i
  found-free i e =
      let t = slot-there n (first_slot is_free l) i e in
      let here : is_free (get_or l i none) ≡ true = ap (λ (j : ℕ). is_free (get_or l j none)) (sym t.1) ∙ first_passes is_free l (omega (arith, t.0)) in
      record {
        below = omega (arith, t.0, t.1);
        there = free-none (get_or l i none) here;
        free = here;
        room = free-below l (omega (arith, t.0));
        lowest = λ a. placed-set a l ∙ ap (λ (j : ℕ). set l j (some a)) t.1;
      }

  pub slots-full : None ≡ slot_found n (first_slot is_free l) → has_free l ≡ false
  slots-full e = free-above l (omega (arith, slot-not-there n (first_slot is_free l) e))

-- the same of keys, and of names
pub key-found-at : (keys : List (Option KeyRecord)) → length keys ≡ 64 → (key : List ℕ) (k : ℕ) → Some k ≡ slot_found 64 (first_slot (holds (key_is key)) keys)
    → FoundAt (λ x. x.key) key keys 64 k
key-found-at keys slots key k e = held-at keys slots (λ x. x.key) key k e

pub key-absent : (keys : List (Option KeyRecord)) → length keys ≡ 64 → (key : List ℕ) → None ≡ slot_found 64 (first_slot (holds (key_is key)) keys)
    → any (key_is key) (used keys) ≡ false
key-absent keys slots key e = held-nowhere keys slots (λ x. x.key) key e

pub name-found-at : (names : List (Option NameRecord)) → length names ≡ 128 → (name : List ℕ) (n : ℕ) → Some n ≡ slot_found 128 (first_slot (holds (name_is name)) names)
    → FoundAt (λ x. x.name) name names 128 n
name-found-at names slots name n e = held-at names slots (λ x. x.name) name n e

pub name-absent : (names : List (Option NameRecord)) → length names ≡ 128 → (name : List ℕ) → None ≡ slot_found 128 (first_slot (holds (name_is name)) names)
    → any (name_is name) (used names) ≡ false
name-absent names slots name e = held-nowhere names slots (λ x. x.name) name e

-- where no two elements share the field, an operation on those that have the value changes that slot alone
module _ {A : Type 0} {field : A → List ℕ} {value : List ℕ} {l : List (Option A)} {n i : ℕ} (x : FoundAt field value l n i)
    (once : count (λ a. same (field a) value) (used l) ≤ 1) where
  has-it : same (field x.what) value ≡ true
  has-it = same-eq (field x.what) value x.its

  pub found-freed : freed (λ a. same (field a) value) l ≡ set l i none
  found-freed = freed-set (λ a. same (field a) value) l i (ap (holds (λ a. same (field a) value)) x.there ∙ has-it) once

  pub found-changed : (f : A → A) → changed (λ a. same (field a) value) f l ≡ set l i (some (f x.what))
  found-changed f = changed-set (λ a. same (field a) value) f l i x.what x.there has-it once

  -- a further test of those that have the value is that of the element found
  pub found-any : (p : A → Bool) → any (λ a. same (field a) value && p a) (used l) ≡ p x.what
  found-any p =
      any-once (λ a. same (field a) value) p l i (ap (holds (λ a. same (field a) value)) x.there ∙ has-it) once
      ∙ ap (holds p) x.there
