-- What the steps share: an area's table put another way, a tack's key among the slots.
use mathlib.Core.Path.{◌≡◌, ◌∙◌, ap, subst}
use mathlib.Core.Bool.{Bool, false}
use mathlib.Core.List.{List}
use mathlib.Core.Option.{Option}
use Prim.Native.Nat.{ℕ}
use Rattle.std.specs.Prelude.{Some, None}
use Rattle.octets.specs.Octets.{any}
use Rattle.tack_extension.specs.Tack.{public_key}
use Rattle.pin_model.specs.Slots.{used}
use Rattle.pin_model.specs.Table.{KeyRecord, NameRecord, Table, table, key_is}
use Rattle.pin_model.specs.Fits.{holds}
use Rattle.pin_records.specs.Holds.{Holds}
use Rattle.pin_records.specs.Find.{first_slot, slot_found}
use Rattle.pin_records.proofs.Found.{FoundAt, key-found-at, key-absent}

-- the keys, or the names, of a table that an area holds, put another way
module _ {d : List ℕ} {two : Bool} {latest : ℕ} where
  pub with_keys_lem : {keys keys' : List (Option KeyRecord)} {names : List (Option NameRecord)} → keys ≡ keys' → Holds d (table two latest keys names) → Holds d (table two latest keys' names)
  with_keys_lem {names = names} e h = subst (λ (l : List (Option KeyRecord)). Holds d (table two latest l names)) e h

  pub with-names : {keys : List (Option KeyRecord)} {names names' : List (Option NameRecord)} → names ≡ names' → Holds d (table two latest keys names) → Holds d (table two latest keys names')
  with-names {keys = keys} e h = subst (λ (l : List (Option NameRecord)). Holds d (table two latest keys l)) e h

-- the part of a tack that is its key
module _ (tack : List ℕ) {key : List ℕ} (its : key ≡ public_key tack) where
  module _ {b : List ℕ} {t : Table} (h : Holds b t) where
    pub tack-key-at : (k : ℕ) → Some k ≡ slot_found 64 (first_slot (holds (key_is key)) t.keys) → FoundAt (λ x. x.key) (public_key tack) t.keys 64 k
    tack-key-at k e = key-found-at t.keys h.fits.key_slots (public_key tack) k (e ∙ ap (λ (κ : List ℕ). slot_found 64 (first_slot (holds (key_is κ)) t.keys)) its)

    pub tack-key-absent : None ≡ slot_found 64 (first_slot (holds (key_is key)) t.keys) → any (key_is (public_key tack)) (used t.keys) ≡ false
    tack-key-absent e = key-absent t.keys h.fits.key_slots (public_key tack) (e ∙ ap (λ (κ : List ℕ). slot_found 64 (first_slot (holds (key_is κ)) t.keys)) its)
