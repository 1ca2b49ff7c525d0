-- A sound area is the area of its table, which is sound; so an area is sound exactly when it is the area of a sound table.
use mathlib.Core.Path.{◌≡◌, refl, sym, ◌∙◌, ap, ap₂}
use mathlib.Core.Bool.{true}
use mathlib.Core.List.{List, ◌∷◌, ◌++◌}
use mathlib.Core.Option.{Option, none, some}
use mathlib.Core.Logic.{◌↔◌}
use Prim.Native.Nat.{ℕ, zero, suc, ◌+◌, ◌*◌, ◌≤◌, ◌<◌}
use native.Mathlib.Omega.{arith}
use lib.Dec.{eqb}
use lib.Seq.{drop-cons}
use lib.ListN.{length, get_or, drop}
use borrow.Author.Tests.{eqb-true, eq-eqb, le-leb}
use Rattle.octets.specs.Octets.{Bytes, part, all, any}
use Rattle.octets.specs.Search.{some as some_below}
use Rattle.octets.proofs.Tests.{by_test, and_left, and_right}
use Rattle.octets.proofs.Search.{every-at, Hit, some-hit}
use Rattle.octets.proofs.Parts.{part_length}
use Rattle.octets.proofs.Equal.{same-eq}
use Rattle.pin_model.specs.Slots.{used, apart}
use Rattle.pin_model.specs.Table.{clock_limit, KeyRecord, Table, key_is, pinned_to}
use Rattle.pin_model.specs.Layout.{joined, key_at, encode_key, decode_key, encode_name, decode_name, edition_byte, encode, keys_in, names_in, decode, latest_in, of_two, key_slot, name_slot, is_used, key_number}
use Rattle.pin_model.specs.Sound.{key_shaped, keys_shaped, name_shaped, names_shaped, refers_to, key_named, keys_named, sound}
use Rattle.pin_model.specs.SoundTable.{sound_name, sound_table}
use Rattle.pin_model.specs.Fits.{key_fits, keys_whole, Fits}
use Rattle.pin_model.proofs.Places.{any_at, all_from}
use Rattle.pin_model.proofs.Cut.{part_then, part-last, zero-part, part_bytes, number-part}
use Rattle.pin_model.proofs.Joined.{joined-split}
use Rattle.pin_model.proofs.KeyBytes.{decode-free-key, decode-key-fits, encode-decode-key}
use Rattle.pin_model.proofs.NameBytes.{decode-used-name, decode-free-name}
use Rattle.pin_model.proofs.NameRules.{encode-decode-name, decode-name-sound}
use Rattle.pin_model.proofs.Decoded.{keys-in-length, keys-in-at, names-in-length, names-in-at, keys-distinct}
use Rattle.pin_model.proofs.Repeats.{key_read, used-key-at, name-pointed, pointed-passes, number-placed, Few, distinct-few}
use Rattle.pin_model.proofs.SoundFacts.{names-few, pins-apart}
use Rattle.pin_model.proofs.SoundTable.{sound-table-fits}
use Rattle.pin_model.proofs.SoundEncode.{sound-encode}
use Rattle.pin_model.proofs.Rules.{Rules, rules-of}

module _ (b : List ℕ) (r : Rules b) where
  abbrev keys : List (Option KeyRecord)
  keys = keys_in b

  key-slot-length : (k : ℕ) → k < 64 → length (key_slot b k) ≡ 72
  unfolding key_slot
  key-slot-length k l = part_length b (8 + 72 * k) 72 (omega (arith, r.whole))

  name-slot-length : (n : ℕ) → n < 128 → length (name_slot b n) ≡ 272
  unfolding name_slot
  name-slot-length n l = part_length b (4616 + 272 * n) 272 (omega (arith, r.whole))

  name-slot-shaped : (n : ℕ) → n < 128 → name_shaped (latest_in b) (name_slot b n) ≡ true
  unfolding names_shaped
  name-slot-shaped n l = every-at (λ n. name_shaped (latest_in b) (name_slot b n)) 128 n r.names_right l

  keys-apart : apart (λ k j. key_is k.key j) (used keys) ≡ true
  keys-apart = sym (keys-distinct b) ∙ r.no_key_twice

  -- the rules of the table
  pub table-keys : keys_whole (decode b) ≡ true
  table-keys =
      all_from key_fits keys (λ k l.
      let m : k < 64 = omega (arith, keys-in-length b) in
      rw (keys-in-at b k m) (decode-key-fits (key_slot b k) (key-slot-length k m)))

  names-keyed : all (λ r. any (key_is r.key) (used keys)) (used (names_in keys b)) ≡ true
  names-keyed =
      all_from (λ r. any (key_is r.key) (used keys)) (names_in keys b) (λ n l.
      let m : n < 128 = omega (arith, names-in-length b keys) in
      rw (names-in-at b keys n m)
      (by_test (is_used (name_slot b n))
      (λ u. rw (decode-used-name keys (name_slot b n) u)
      (any_at (key_is (key_at (get_or keys (key_number (name_slot b n)) none))) keys (key_number (name_slot b n)) (pointed-passes b r.no_key_twice r.keyed_names (name_slot b n) (name-pointed b r.no_key_twice r.keyed_names n m u))))
      (λ u. rw (decode-free-name keys (name_slot b n) u))))

  key-pinned : (k : ℕ) (x : KeyRecord) → k < 64 → is_used (key_slot b k) ≡ true → get_or keys k none ≡ some x → any (pinned_to x.key) (used (names_in keys b)) ≡ true
  unfolding keys_named key_named refers_to
  key-pinned k x l u e =
      let t : some_below (λ n. refers_to k (name_slot b n)) 128 ≡ true = rw u at (every-at (key_named b) 64 k r.named_keys l) in
      let h : Hit (λ n. refers_to k (name_slot b n)) 128 = some-hit (λ n. refers_to k (name_slot b n)) 128 t in
      let v : is_used (name_slot b h.at) ≡ true = and_left (is_used (name_slot b h.at)) _ h.holds in
      let q : key_number (name_slot b h.at) ≡ k = eqb-true (key_number (name_slot b h.at)) k (and_right (is_used (name_slot b h.at)) _ h.holds) in
      any_at (pinned_to x.key) (names_in keys b) h.at
      (rw (names-in-at b keys h.at h.below, decode-used-name keys (name_slot b h.at) v)
      (same-eq (key_at (get_or keys (key_number (name_slot b h.at)) none)) x.key (ap (λ (i : ℕ). key_at (get_or keys i none)) q ∙ ap key_at e)))

  keys-named : all (λ k. any (pinned_to k.key) (used (names_in keys b))) (used keys) ≡ true
  keys-named =
      all_from (λ k. any (pinned_to k.key) (used (names_in keys b))) keys (λ k l.
      let m : k < 64 = omega (arith, keys-in-length b) in
      by_test (is_used (key_slot b k))
      (λ u. rw (used-key-at b r.no_key_twice r.keyed_names k m u) (key-pinned k (key_read b r.no_key_twice r.keyed_names k) m u (used-key-at b r.no_key_twice r.keyed_names k m u)))
      (λ u. rw (keys-in-at b k m ∙ decode-free-key (key_slot b k) u)))

  names-sound : all (sound_name (latest_in b)) (used (names_in keys b)) ≡ true
  names-sound =
      all_from (sound_name (latest_in b)) (names_in keys b) (λ n l.
      let m : n < 128 = omega (arith, names-in-length b keys) in
      rw (names-in-at b keys n m) (decode-name-sound keys (latest_in b) (name_slot b n) (name-slot-shaped n m)))

  repeats : Few b r.no_key_twice r.keyed_names (of_two b)
  repeats = distinct-few b r.no_key_twice r.keyed_names r.no_name_twice

  pub table-sound : sound_table (decode b) ≡ true
  table-sound =
      rw (
        le-leb (latest_in b) clock_limit r.latest_sound,
        eq-eqb (length keys) 64 (keys-in-length b),
        eq-eqb (length (names_in keys b)) 128 (names-in-length b keys),
        keys-apart,
        names-few (of_two b) (used (names_in keys b)) repeats.name_few,
        pins-apart (used (names_in keys b)) repeats.pin_once,
        names-keyed,
        keys-named,
      )
      names-sound

  edition-written : (n : ℕ) → n ≤ 1 → edition_byte (eqb n 1) ≡ n
  edition-written zero h = refl
  edition-written (suc zero) h = refl
  edition-written (suc (suc n)) h = absurd (omega arith)

  -- the bytes
  module _ (bytes : Bytes b) where
    name-slot-bytes : (n : ℕ) → Bytes (name_slot b n)
    unfolding name_slot
    name-slot-bytes n = part_bytes b (4616 + 272 * n) 272 bytes

    key-written : (k : ℕ) → k < 64 → encode_key (decode_key (key_slot b k)) ≡ key_slot b k
    unfolding keys_shaped
    key-written k l = encode-decode-key (key_slot b k) (key-slot-length k l) (every-at (λ k. key_shaped (key_slot b k)) 64 k r.keys_right l)

    name-written : (n : ℕ) → n < 128 → encode_name keys (decode_name keys (name_slot b n)) ≡ name_slot b n
    name-written n l =
        encode-decode-name keys (latest_in b) (name_slot b n) (name-slot-length n l) (name-slot-bytes n) (name-slot-shaped n l) (number-placed b r.no_key_twice r.keyed_names n l)

    keys-written : joined encode_key keys ≡ part b 8 4608
    unfolding keys_in key_slot
    keys-written = joined-split decode_key 72 encode_key 64 b 8 key-written

    names-written : joined (encode_name keys) (names_in keys b) ≡ drop 4616 b
    unfolding names_in name_slot
    names-written = joined-split (decode_name keys) 272 (encode_name keys) 128 b 4616 name-written ∙ part-last b 4616 34816 r.whole

    bytes-written : encode (decode b) ≡ b
    unfolding encode
    bytes-written =
        let w : length b ≡ 39432 = r.whole in
        ap₂ ◌++◌ (number-part b 0 4 (omega arith) bytes)
        (ap₂ ◌∷◌ (edition-written (get_or b 4 0) r.edition_right)
        (ap₂ ◌++◌ (sym (zero-part b 5 3 (omega arith) r.head_zero))
        (ap₂ ◌++◌ keys-written names-written ∙ part_then b 8 4608 4616 refl)
        ∙ part_then b 5 3 8 refl)
        ∙ sym (drop-cons b 4 0 (omega arith)))
        ∙ part_then b 0 4 4 refl

pub record SoundArea (b : List ℕ) : Type 0 where
  pub table : sound_table (decode b) ≡ true
  pub keys : keys_whole (decode b) ≡ true
  pub bytes : encode (decode b) ≡ b

pub sound-decode : (b : List ℕ) → Bytes b → sound b ≡ true → SoundArea b
sound-decode b bytes h =
    let r : Rules b = rules-of b h in
    record { table = table-sound b r; keys = table-keys b r; bytes = bytes-written b r bytes }

pub sound-fits : (b : List ℕ) → Bytes b → sound b ≡ true → Fits (decode b)
sound-fits b bytes h = let a : SoundArea b = sound-decode b bytes h in sound-table-fits (decode b) a.table a.keys

-- the area of some sound table
pub record AreaOfSound (b : List ℕ) : Type 0 where
  pub table : Table
  pub table_sound : sound_table table ≡ true
  pub keys : keys_whole table ≡ true
  pub bytes : b ≡ encode table

pub sound-exactly : (b : List ℕ) → Bytes b → (sound b ≡ true) ↔ AreaOfSound b
sound-exactly b bytes = (
  (λ h. let a : SoundArea b = sound-decode b bytes h in record { table = decode b; table_sound = a.table; keys = a.keys; bytes = sym a.bytes }),
  (λ a. ap sound a.bytes ∙ sound-encode a.table a.table_sound a.keys),
)
