-- The key of a name's record, by the key slot whose number stands in the name's.
use mathlib.Core.Path.{◌≡◌, sym, ◌∙◌, ap}
use mathlib.Core.Bool.{false}
use mathlib.Core.List.{List}
use mathlib.Core.Option.{none, some}
use Prim.Native.Nat.{ℕ}
use lib.ListN.{get_or}
use Rattle.octets.specs.Octets.{same}
use Rattle.pin_model.specs.Table.{NameRecord, Table, key_is, pinned_to}
use Rattle.pin_model.specs.Fits.{holds, name_fits}
use Rattle.pin_model.proofs.Places.{all-used-at}
use Rattle.pin_model.proofs.KeyPlaces.{PlaceFound, place_found}
use Rattle.pin_model.proofs.Fits.{name-fits}
use Rattle.pin_records.specs.Holds.{Holds}
use Rattle.pin_records.specs.Find.{is_free}
use Rattle.pin_records.specs.Read.{pinned_key}
use Rattle.pin_records.proofs.Placed.{Used, is-used}

module _ {b : List ℕ} {t : Table} (h : Holds b t) (n : ℕ) where
  pub pinned-place : (r : NameRecord) → get_or t.names n none ≡ some r → PlaceFound r.key t.keys
  pinned-place r there =
      place_found r.key t.keys (name-fits t.keys r (all-used-at (name_fits t.keys) t.names n r h.fits.names_fit there)).recorded

  pub pinned-by-slot : (key : List ℕ) {k : ℕ} → is_free (get_or t.names n none) ≡ false → k ≡ pinned_key t.keys (get_or t.names n none)
      → holds (key_is key) (get_or t.keys k none) ≡ holds (pinned_to key) (get_or t.names n none)
  pinned-by-slot key used-slot at =
      let u : Used (get_or t.names n none) = is-used (get_or t.names n none) used-slot in
      let place : PlaceFound u.what.key t.keys = pinned-place u.what u.there in
      ap (λ (j : ℕ). holds (key_is key) (get_or t.keys j none)) (at ∙ ap (pinned_key t.keys) u.there)
      ∙ ap (holds (key_is key)) place.there
      ∙ ap (λ (κ : List ℕ). same κ key) place.its-key
      ∙ sym (ap (holds (pinned_to key)) u.there)
