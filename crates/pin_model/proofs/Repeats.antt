-- No name too often: of an area, by its slots, and of its table, by its records.
use mathlib.Core.Path.{◌≡◌, sym, ◌∙◌, ap, ap₂}
use mathlib.Core.Bool.{Bool, true, false, cond, not, ◌&&◌, ◌||◌, true≢false, false≢true}
use mathlib.Core.List.{List}
use mathlib.Core.Option.{Option, none, some}
use mathlib.Core.Logic.{⊎_elim}
use Prim.Native.Nat.{ℕ, ◌≤◌, ◌<◌}
use native.Mathlib.Omega.{arith}
use lib.Dec.{eqb, ltb}
use lib.ListN.{get_or}
use borrow.Author.Tests.{eqb-true, eq-eqb, ltb-true, not-true}
use Rattle.octets.specs.Octets.{same}
use Rattle.octets.specs.Search.{every}
use Rattle.octets.proofs.Tests.{by_test, is_false, both_ways, and_left, and_right, and_both, below_or}
use Rattle.octets.proofs.Search.{every_true, every-at, every-neither, some-true, Hit, some-hit}
use Rattle.octets.proofs.Equal.{same_true, same-eq, same_refl}
use Rattle.pin_model.specs.Slots.{used, apart}
use Rattle.pin_model.specs.Table.{KeyRecord, key_record, NameRecord, key_is, name_is, pin_is, records_of_a_name}
use Rattle.pin_model.specs.Layout.{place_of, key_at, decode_name, keys_in, names_in, of_two, key_slot, name_slot, is_used, key_in, key_number, floor_field}
use Rattle.pin_model.specs.Sound.{keys_distinct, name_keyed, names_keyed, same_name, name_twice, same_pin, pin_twice, name_thrice, name_again, names_distinct}
use Rattle.pin_model.specs.Fits.{holds}
use Rattle.pin_model.proofs.Lists.{count}
use Rattle.pin_model.proofs.Places.{alike_in, apart-every}
use Rattle.pin_model.proofs.Once.{apart-once, once-apart}
use Rattle.pin_model.proofs.Three.{three-at, Three, found-three}
use Rattle.pin_model.proofs.KeyPlaces.{place-once}
use Rattle.pin_model.proofs.KeyBytes.{decode-used-key}
use Rattle.pin_model.proofs.NameBytes.{decode-used-name, decode-free-name}
use Rattle.pin_model.proofs.Decoded.{same-name, keys-in-at, names-in-length, names-in-at, keys-distinct, names_apart}
use Rattle.pin_model.proofs.SoundFacts.{name_of, apart-pins, pins-apart, names-pins}

-- the key of each used name slot
module _ (b : List ℕ) (no_key_twice : keys_distinct b ≡ true) (keyed_names : names_keyed b ≡ true) where
  abbrev keys : List (Option KeyRecord)
  keys = keys_in b

  abbrev names : List (Option NameRecord)
  names = names_in (keys_in b) b

  keys-apart : apart (λ k j. key_is k.key j) (used keys) ≡ true
  keys-apart = sym (keys-distinct b) ∙ no_key_twice

  -- the record of a used key slot, and the key that a name slot points to
  pub key_read : ℕ → KeyRecord
  key_read k = key_record (key_in (key_slot b k)) (floor_field (key_slot b k))

  pub used-key-at : (k : ℕ) → k < 64 → is_used (key_slot b k) ≡ true → get_or keys k none ≡ some (key_read k)
  unfolding key_read
  used-key-at k l u = keys-in-at b k l ∙ decode-used-key (key_slot b k) u

  pub record Pointed (s : List ℕ) : Type 0 where
    pub below : key_number s < 64
    pub what : KeyRecord
    pub there : get_or keys (key_number s) none ≡ some what

  pointed : (s : List ℕ) → name_keyed b s ≡ true → is_used s ≡ true → Pointed s
  unfolding name_keyed
  pointed s h u =
      let g : (ltb (key_number s) 64 && is_used (key_slot b (key_number s))) ≡ true = rw u at h in
      let l : key_number s < 64 = ltb-true (key_number s) 64 (and_left (ltb (key_number s) 64) (is_used (key_slot b (key_number s))) g) in
      record { below = l; what = key_read (key_number s); there = used-key-at (key_number s) l (and_right (ltb (key_number s) 64) (is_used (key_slot b (key_number s))) g) }

  pub name-pointed : (n : ℕ) → n < 128 → is_used (name_slot b n) ≡ true → Pointed (name_slot b n)
  unfolding names_keyed
  name-pointed n l u = pointed (name_slot b n) (every-at (λ n. name_keyed b (name_slot b n)) 128 n keyed_names l) u

  pub pointed-passes : (s : List ℕ) → Pointed s → holds (key_is (key_at (get_or keys (key_number s) none))) (get_or keys (key_number s) none) ≡ true
  pointed-passes s p = rw p.there (same_refl p.what.key)

  -- the number of its slot is the key's place
  pub number-placed : (n : ℕ) → n < 128 → is_used (name_slot b n) ≡ true → place_of (key_at (get_or keys (key_number (name_slot b n)) none)) keys ≡ key_number (name_slot b n)
  number-placed n l u =
      place-once (key_at (get_or keys (key_number (name_slot b n)) none)) keys (key_number (name_slot b n)) (pointed-passes (name_slot b n) (name-pointed n l u))
      (apart-once (λ (k : KeyRecord). k.key) (used keys) keys-apart (key_at (get_or keys (key_number (name_slot b n)) none)))

  -- two name slots have one number just if they have one key
  same_number : (n m : ℕ) → n < 128 → m < 128 → is_used (name_slot b n) ≡ true → is_used (name_slot b m) ≡ true
      → eqb (key_number (name_slot b n)) (key_number (name_slot b m))
      ≡ same (key_at (get_or keys (key_number (name_slot b n)) none)) (key_at (get_or keys (key_number (name_slot b m)) none))
  same_number n m l h u v =
      let x : ℕ = key_number (name_slot b n) in
      let y : ℕ = key_number (name_slot b m) in
      both_ways (eqb x y) (same (key_at (get_or keys x none)) (key_at (get_or keys y none)))
      (λ e. same-eq (key_at (get_or keys x none)) (key_at (get_or keys y none)) (ap (λ (i : ℕ). key_at (get_or keys i none)) (eqb-true x y e)))
      (λ e. eq-eqb x y
      (sym (number-placed n l u)
      ∙ ap (λ (k : List ℕ). place_of k keys) (same_true (key_at (get_or keys x none)) (key_at (get_or keys y none)) e)
      ∙ number-placed m h v))

  same-pin : (n m : ℕ) → n < 128 → m < 128
      → same_pin (name_slot b n) (name_slot b m)
      ≡ alike_in (λ r s. pin_is r.name r.key s) (decode_name keys (name_slot b m)) (decode_name keys (name_slot b n))
  unfolding same_pin same_name
  same-pin n m l h =
      by_test (is_used (name_slot b n))
      (λ u. by_test (is_used (name_slot b m))
      (λ v. rw (u, v, decode-used-name keys (name_slot b n) u, decode-used-name keys (name_slot b m) v, same_number n m l h u v))
      (λ v. rw (u, v, decode-free-name keys (name_slot b m) v)))
      (λ u. by_test (is_used (name_slot b m))
      (λ v. rw (u, decode-free-name keys (name_slot b n) u, decode-used-name keys (name_slot b m) v))
      (λ v. rw (u, decode-free-name keys (name_slot b m) v)))

  pins-distinct : every (λ n. not (pin_twice b n)) 128 ≡ apart (λ r s. pin_is r.name r.key s) (used names)
  unfolding pin_twice
  pins-distinct =
      apart-every (λ r s. pin_is r.name r.key s) names 128 (λ n m. same_pin (name_slot b n) (name_slot b m)) (names-in-length b keys) (λ n m l h.
      let k : m < 128 = omega arith in
      same-pin n m l k ∙ ap₂ (alike_in (λ r s. pin_is r.name r.key s)) (sym (names-in-at b keys m k)) (sym (names-in-at b keys n l)))

  -- two slots with one name
  both-named : (n : List ℕ) (x y : Option NameRecord) → holds (name_is n) x ≡ true → holds (name_is n) y ≡ true → alike_in (λ r s. name_is r.name s) x y ≡ true
  both-named n none y d e = absurd (false≢true d)
  both-named n (some r) none d e = absurd (false≢true e)
  both-named n (some r) (some s) d e = same-eq s.name r.name (same_true s.name n e ∙ sym (same_true r.name n d))

  one-named : (n : List ℕ) (x y : Option NameRecord) → holds (name_is n) y ≡ true → alike_in (λ r s. name_is r.name s) x y ≡ true → holds (name_is n) x ≡ true
  one-named n none y e d = absurd (false≢true d)
  one-named n (some r) none e d = absurd (false≢true e)
  one-named n (some r) (some s) e d = same-eq r.name n (sym (same_true s.name r.name d) ∙ same_true s.name n e)

  names-alike : (n m : ℕ) → n < 128 → m < 128 → same_name (name_slot b n) (name_slot b m) ≡ alike_in (λ r s. name_is r.name s) (get_or names m none) (get_or names n none)
  names-alike n m l h =
      same-name keys (name_slot b n) (name_slot b m)
      ∙ ap₂ (alike_in (λ r s. name_is r.name s)) (sym (names-in-at b keys m h)) (sym (names-in-at b keys n l))

  -- no slot is the third of its name exactly if no name comes three times
  thrice-few : every (λ n. not (name_thrice b n)) 128 ≡ true → (n : List ℕ) → count (name_is n) (used names) ≤ 2
  unfolding name_thrice name_twice
  thrice-few h n =
      ⊎_elim
      (λ (few : count (name_is n) (used names) < 3). omega arith)
      (λ (many : 3 ≤ count (name_is n) (used names)).
      let f : Three (name_is n) names = found-three (name_is n) names many in
      let third : f.k < 128 = omega (arith, f.below, names-in-length b keys) in
      let second : f.j < 128 = omega (arith, f.order_too) in
      let first : f.i < 128 = omega (arith, f.order) in
      let twice : name_twice b f.j ≡ true =
      some-true (λ m. same_name (name_slot b f.j) (name_slot b m)) f.j f.i f.order
      (names-alike f.j f.i second first ∙ both-named n (get_or names f.i none) (get_or names f.j none) f.at_i f.at_j) in
      let thrice : name_thrice b f.k ≡ true =
      some-true (λ m. same_name (name_slot b f.k) (name_slot b m) && name_twice b m) f.k f.j f.order_too
      (and_both (same_name (name_slot b f.k) (name_slot b f.j)) (name_twice b f.j)
      (names-alike f.k f.j third second ∙ both-named n (get_or names f.j none) (get_or names f.k none) f.at_j f.at_k) twice) in
      absurd (true≢false (sym thrice ∙ not-true (name_thrice b f.k) (every-at (λ m. not (name_thrice b m)) 128 f.k h third))))
      (below_or (count (name_is n) (used names)) 3)

  -- the name of a used slot
  record Named (x : Option NameRecord) : Type 0 where
    its : List ℕ
    is-it : holds (name_is its) x ≡ true

  named_in : (x y : Option NameRecord) → alike_in (λ r s. name_is r.name s) x y ≡ true → Named y
  named_in none y d = absurd (false≢true d)
  named_in (some r) none d = absurd (false≢true d)
  named_in (some r) (some s) d = record { its = s.name; is-it = same_refl s.name }

  few-thrice : ((n : List ℕ) → count (name_is n) (used names) ≤ 2) → (n : ℕ) → n < 128 → name_thrice b n ≡ false
  unfolding name_thrice name_twice
  few-thrice few n l =
      is_false (name_thrice b n) (λ e.
      let second : Hit (λ m. same_name (name_slot b n) (name_slot b m) && name_twice b m) n = some-hit (λ m. same_name (name_slot b n) (name_slot b m) && name_twice b m) n e in
      let first : Hit (λ m. same_name (name_slot b second.at) (name_slot b m)) second.at =
      some-hit (λ m. same_name (name_slot b second.at) (name_slot b m)) second.at
      (and_right (same_name (name_slot b n) (name_slot b second.at)) (name_twice b second.at) second.holds) in
      let middle : second.at < 128 = omega (arith, second.below) in
      let lowest : first.at < 128 = omega (arith, first.below) in
      let upper : alike_in (λ r s. name_is r.name s) (get_or names second.at none) (get_or names n none) ≡ true =
      sym (names-alike n second.at l middle)
      ∙ and_left (same_name (name_slot b n) (name_slot b second.at)) (name_twice b second.at) second.holds in
      let lower : alike_in (λ r s. name_is r.name s) (get_or names first.at none) (get_or names second.at none) ≡ true =
      sym (names-alike second.at first.at middle lowest) ∙ first.holds in
      let it : Named (get_or names n none) = named_in (get_or names second.at none) (get_or names n none) upper in
      let at_second : holds (name_is it.its) (get_or names second.at none) ≡ true =
      one-named it.its (get_or names second.at none) (get_or names n none) it.is-it upper in
      let at_first : holds (name_is it.its) (get_or names first.at none) ≡ true =
      one-named it.its (get_or names first.at none) (get_or names second.at none) at_second lower in
      omega (
        arith,
        few it.its,
        three-at (name_is it.its) names first.at second.at n first.below second.below at_first at_second it.is-it,
      ))

  -- the rules of either edition, of the area and of its table
  pub record Few (two : Bool) : Type 0 where
    pub name_few : (n : List ℕ) → count (name_is n) (used names) ≤ records_of_a_name two
    pub pin_once : (n k : List ℕ) → count (pin_is n k) (used names) ≤ 1

  pub distinct-few : names_distinct b ≡ true → Few (of_two b)
  unfolding names_distinct name_again
  distinct-few h = go (of_two b) h
    where
      go : (two : Bool) → every (λ n. not (cond two (pin_twice b n || name_thrice b n) (name_twice b n))) 128 ≡ true → Few two
      go false e =
          let once : (n : List ℕ) → count (name_is n) (used names) ≤ 1 = apart-once name_of (used names) (sym (names_apart b keys) ∙ e) in
          record { name_few = once; pin_once = names-pins (used names) once }
      go true e =
          let parts : (every (λ n. not (pin_twice b n)) 128 && every (λ n. not (name_thrice b n)) 128) ≡ true = sym (every-neither (pin_twice b) (name_thrice b) 128) ∙ e in
          record {
            name_few = thrice-few (and_right (every (λ n. not (pin_twice b n)) 128) _ parts);
            pin_once = apart-pins (used names) (sym pins-distinct ∙ and_left (every (λ n. not (pin_twice b n)) 128) _ parts);
          }

  pub few-distinct : Few (of_two b) → names_distinct b ≡ true
  unfolding names_distinct name_again
  few-distinct f = go (of_two b) f
    where
      go : (two : Bool) → Few two → every (λ n. not (cond two (pin_twice b n || name_thrice b n) (name_twice b n))) 128 ≡ true
      go false f = names_apart b keys ∙ once-apart name_of (used names) f.name_few
      go true f =
          every-neither (pin_twice b) (name_thrice b) 128
          ∙ and_both _ _ (pins-distinct ∙ pins-apart (used names) f.pin_once) (every_true (λ n. not (name_thrice b n)) 128 (λ n l. ap not (few-thrice f.name_few n l)))
