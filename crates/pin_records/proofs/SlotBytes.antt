-- What the bytes of a slot say of the record that is read from it.
use mathlib.Core.Path.{◌≡◌, sym, ◌∙◌, ap}
use mathlib.Core.Bool.{Bool, true, false, cond, not}
use mathlib.Core.List.{List}
use mathlib.Core.Option.{Option, none, some}
use Prim.Native.Nat.{ℕ, ◌<◌}
use native.Mathlib.Omega.{arith}
use lib.ListN.{length, get_or}
use Rattle.octets.specs.Octets.{part, same}
use Rattle.octets.proofs.Tests.{by_test, is_false}
use Rattle.octets.proofs.Parts.{part_length}
use Rattle.octets.proofs.Equal.{same_true}
use Rattle.pin_model.specs.Table.{KeyRecord, key_record, NameRecord, key_is, name_is}
use Rattle.pin_model.specs.Layout.{decode_key, decode_name, keys_in, names_in, key_slot, name_slot, is_used, key_in, name_length, name_in, floor_field}
use Rattle.pin_model.specs.Fits.{holds}
use Rattle.pin_model.proofs.NameBytes.{name_read}
use Rattle.pin_model.proofs.Decoded.{keys-in-at, names-in-at}
use Rattle.pin_records.specs.Find.{is_free}

-- x is read from a slot's bytes: a, if the slot is used
pub record ReadFrom {A : Type 0} (s : List ℕ) (a : A) (x : Option A) : Type 0 where
  pub is : x ≡ cond (is_used s) (some a) none

abbrev pub key_read : List ℕ → KeyRecord
key_read s = key_record (key_in s) (floor_field s)

module _ (b : List ℕ) {s : List ℕ} where
  pub key-read : (k : ℕ) → k < 64 → s ≡ key_slot b k → ReadFrom s (key_read s) (get_or (keys_in b) k none)
  unfolding decode_key
  key-read k l e = record { is = keys-in-at b k l ∙ ap decode_key (sym e) }

  pub name-read : (keys : List (Option KeyRecord)) (n : ℕ) → n < 128 → s ≡ name_slot b n → ReadFrom s (name_read keys s) (get_or (names_in keys b) n none)
  unfolding decode_name
  name-read keys n l e = record { is = names-in-at b keys n l ∙ ap (decode_name keys) (sym e) }

module _ {A : Type 0} {s : List ℕ} {a : A} {x : Option A} (r : ReadFrom s a x) where
  pub read-free : not (is_used s) ≡ is_free x
  read-free = by_test (is_used s) (λ u. rw (r.is, u)) (λ u. rw (r.is, u))

  pub read-unused : (p : A → Bool) → is_used s ≡ false → holds p x ≡ false
  read-unused p u = rw (r.is, u)

  read-used : (p : A → Bool) → is_used s ≡ true → holds p x ≡ p a
  read-used p u = rw (r.is, u)

pub read-key : {s : List ℕ} {x : Option KeyRecord} (key : List ℕ) → ReadFrom s (key_read s) x → is_used s ≡ true
    → same (part s 8 64) key ≡ holds (key_is key) x
read-key key r u = sym (read-used r (key_is key) u)

module _ {s : List ℕ} {a : NameRecord} {x : Option NameRecord} (name : List ℕ) (r : ReadFrom s a x) (its : a.name ≡ name_in s) where
  pub read_name : name_length s ≡ length name → is_used s ≡ true → same (part s 16 (length name)) name ≡ holds (name_is name) x
  read_name l u = ap (λ (n : ℕ). same (part s 16 n) name) (sym l) ∙ ap (λ (y : List ℕ). same y name) (sym its) ∙ sym (read-used r (name_is name) u)

  -- a name of another length
  pub read-other : length s ≡ 272 → name_length s < 256 → (name_length s ≡ length name → ⊥) → holds (name_is name) x ≡ false
  read-other l short differs =
      by_test (is_used s)
      (λ u. read-used r (name_is name) u
      ∙ is_false (same a.name name) (λ e.
      differs (sym (part_length s 16 (name_length s) (omega arith)) ∙ sym (ap length its) ∙ ap length (same_true a.name name e))))
      (λ u. read-unused r (name_is name) u)
