-- An area that holds a table: it is read back, and each field of a slot says what the table's slot does.
use mathlib.Core.Path.{◌≡◌, refl, sym, ◌∙◌, ap, subst}
use mathlib.Core.Bool.{true, false}
use mathlib.Core.List.{List}
use mathlib.Core.Option.{Option, none, some}
use Prim.Native.Nat.{ℕ, ◌≤◌, ◌<◌}
use native.Mathlib.Omega.{arith}
use lib.ListN.{length, get_or}
use Rattle.octets.specs.Octets.{part, number, number_after}
use Rattle.pin_model.specs.Slots.{used}
use Rattle.pin_model.specs.Table.{KeyRecord, NameRecord, Table, key_is, pinned_to}
use Rattle.pin_model.specs.Layout.{key_at, present, or_zero, encode_key, encode_name, decode, key_slot, name_slot, key_number, end_present, initial_in, end_in}
use Rattle.pin_model.specs.Sound.{refers_to}
use Rattle.pin_model.specs.Fits.{holds, floor_at, name_fits}
use Rattle.pin_model.proofs.Lists.{count}
use Rattle.pin_model.proofs.Places.{free_or}
use Rattle.pin_model.proofs.KeyPlaces.{place_found, number-pinned}
use Rattle.pin_model.proofs.Fits.{name-fits, name-fits-at}
use Rattle.pin_model.proofs.NameBytes.{initial-field, end-field}
use Rattle.pin_model.proofs.Encoded.{encode-key-slot, encode-name-slot, decode-encode}
use Rattle.pin_table.specs.declared.minutes.Minutes.{Minutes}
use Rattle.std.specs.Prelude.{Some, None}
use Rattle.pin_records.specs.Holds.{Holds, Stored}
use Rattle.pin_records.specs.Find.{is_free, initial_at, end_at}
use Rattle.pin_records.specs.Read.{end_found, pinned_key}
use Rattle.pin_records.proofs.Placed.{Used, is-used}

-- the fields of a slot as it is written
floor-of : (x : Option KeyRecord) → get_or (encode_key x) 1 0 ≡ floor_at x
unfolding encode_key
floor-of none = refl
floor-of (some k) = refl

module _ (keys : List (Option KeyRecord)) where
  initial-of : (x : Option NameRecord) → free_or (name_fits keys) x ≡ true → initial_in (encode_name keys x) ≡ initial_at x
  unfolding encode_name part number number_after
  initial-of none o = refl
  initial-of (some r) o = initial-field keys r (name-fits keys r o).initial_fits

  absent-of : (x : Option NameRecord) → (end_present (encode_name keys x) ≡ 1 → ⊥) → None ≡ end_found (end_at x)
  unfolding encode_name
  absent-of none f = refl
  absent-of (some r) f = go r.end f
    where
      go : (e : Option ℕ) → (present e ≡ 1 → ⊥) → None ≡ end_found e
      go none f = refl
      go (some end) f = absurd (f refl)

  end_of : (x : Option NameRecord) (m : Minutes) → free_or (name_fits keys) x ≡ true → end_present (encode_name keys x) ≡ 1 → m.0 ≡ end_in (encode_name keys x)
      → Some m ≡ end_found (end_at x)
  unfolding encode_name
  end_of none m o e v = absurd (omega arith)
  end_of (some r) m o e v = go r.end (v ∙ end-field keys r (name-fits keys r o).end_fits) e
    where
      go : (end : Option ℕ) → m.0 ≡ or_zero end → present end ≡ 1 → Some m ≡ end_found end
      go none d e = absurd (omega arith)
      go (some end) d e = ap (λ (n : ℕ). Some (record { 0 = n })) d

  number_of : (x : Option NameRecord) → key_number (encode_name keys x) ≡ pinned_key keys x
  unfolding encode_name
  number_of none = refl
  number_of (some r) = refl

  number-below : (x : Option NameRecord) → free_or (name_fits keys) x ≡ true → length keys ≡ 64 → pinned_key keys x < 64
  number-below none o e = omega arith
  number-below (some r) o e = omega (arith, (place_found r.key keys (name-fits keys r o).recorded).below)

  refers-of : (x : Option NameRecord) (k : ℕ) → free_or (name_fits keys) x ≡ true → ((κ : List ℕ) → count (key_is κ) (used keys) ≤ 1) → is_free (get_or keys k none) ≡ false
      → refers_to k (encode_name keys x) ≡ holds (pinned_to (key_at (get_or keys k none))) x
  unfolding refers_to encode_name
  refers-of none k o once u = refl
  refers-of (some r) k o once u =
      let y : Used (get_or keys k none) = is-used (get_or keys k none) u in
      number-pinned keys r k y.what (name-fits keys r o).recorded (once y.what.key) y.there
      ∙ sym (ap (λ (z : Option KeyRecord). pinned_to (key_at z) r) y.there)

-- the area of a table
module _ {b : List ℕ} {t : Table} (h : Holds b t) where
  pub holds-decode : decode b ≡ t
  holds-decode = ap decode h.bytes ∙ decode-encode t h.fits

  pub holds-stored : Stored b
  holds-stored = subst (Holds b) (sym holds-decode) h

  key-slot : {s : List ℕ} (k : ℕ) → k < 64 → s ≡ key_slot b k → s ≡ encode_key (get_or t.keys k none)
  key-slot k l e = e ∙ ap (λ (a : List ℕ). key_slot a k) h.bytes ∙ encode-key-slot t h.fits k l

  name-slot : {s : List ℕ} (n : ℕ) → n < 128 → s ≡ name_slot b n → s ≡ encode_name t.keys (get_or t.names n none)
  name-slot n l e = e ∙ ap (λ (a : List ℕ). name_slot a n) h.bytes ∙ encode-name-slot t h.fits n l

  pub held-floor : {s : List ℕ} (k : ℕ) → k < 64 → s ≡ key_slot b k → get_or s 1 0 ≡ floor_at (get_or t.keys k none)
  held-floor k l e = ap (λ (a : List ℕ). get_or a 1 0) (key-slot k l e) ∙ floor-of (get_or t.keys k none)

  module _ {s : List ℕ} (n : ℕ) (l : n < 128) (e : s ≡ name_slot b n) where
    fits : free_or (name_fits t.keys) (get_or t.names n none) ≡ true
    fits = name-fits-at t h.fits n

    pub held-initial : initial_in s ≡ initial_at (get_or t.names n none)
    held-initial = ap initial_in (name-slot n l e) ∙ initial-of t.keys (get_or t.names n none) fits

    pub held-absent : (end_present s ≡ 1 → ⊥) → None ≡ end_found (end_at (get_or t.names n none))
    held-absent f = absent-of t.keys (get_or t.names n none) (λ d. f (ap end_present (name-slot n l e) ∙ d))

    pub held-end : (m : Minutes) → end_present s ≡ 1 → m.0 ≡ end_in s → Some m ≡ end_found (end_at (get_or t.names n none))
    held-end m d v =
        end_of t.keys (get_or t.names n none) m fits (sym (ap end_present (name-slot n l e)) ∙ d) (v ∙ ap end_in (name-slot n l e))

    pub held_number : key_number s ≡ pinned_key t.keys (get_or t.names n none)
    held_number = ap key_number (name-slot n l e) ∙ number_of t.keys (get_or t.names n none)

    pub held_below : pinned_key t.keys (get_or t.names n none) < 64
    held_below = number-below t.keys (get_or t.names n none) fits h.fits.key_slots

    pub held-refers : (k : ℕ) → is_free (get_or t.keys k none) ≡ false → refers_to k s ≡ holds (pinned_to (key_at (get_or t.keys k none))) (get_or t.names n none)
    held-refers k u = ap (refers_to k) (name-slot n l e) ∙ refers-of t.keys (get_or t.names n none) k fits h.fits.key_once u
