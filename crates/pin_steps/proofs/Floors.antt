-- Step 1 on an area: the floor of the tack's key rises, where it has a record with a lower one.
use mathlib.Core.Path.{◌≡◌, sym, ◌∙◌, ap}
use mathlib.Core.Bool.{false}
use mathlib.Core.List.{List}
use mathlib.Core.Option.{Option, none, some}
use Prim.Native.Nat.{ℕ, ◌≤◌, ◌<◌, max}
use native.Mathlib.Omega.{arith}
use lib.ListN.{get_or, set}
use lib.Seq.{set-get_or}
use Rattle.octets.specs.Octets.{any}
use Rattle.tack_extension.specs.Tack.{public_key, min_generation}
use Rattle.pin_model.specs.Slots.{used, changed}
use Rattle.pin_model.specs.Table.{KeyRecord, Table, key_is, key_record}
use Rattle.pin_model.specs.Fits.{floor_at}
use Rattle.pin_model.specs.Judge.{raised_to, raise}
use Rattle.pin_model.proofs.OneSlot.{changed-none}
use Rattle.pin_records.specs.Holds.{Holds, with_key}
use Rattle.pin_records.specs.Store.{with_floor}
use Rattle.pin_records.proofs.Found.{FoundAt, found-changed}
use Rattle.pin_steps.proofs.Tacks.{with_keys_lem}

module _ (tack : List ℕ) {b : List ℕ} {t : Table} (h : Holds b t) where
  pub raise-absent : any (key_is (public_key tack)) (used t.keys) ≡ false → Holds b (raise tack t)
  raise-absent e = with_keys_lem (sym (changed-none (key_is (public_key tack)) (raised_to (min_generation tack)) t.keys e)) h

  module _ {k : ℕ} (x : FoundAt (λ y. y.key) (public_key tack) t.keys 64 k) where
    -- the slots after the step, by the floor that it gives
    raised : (m : ℕ) → max (floor_at (get_or t.keys k none)) (min_generation tack) ≡ m
        → set t.keys k (some (key_record x.what.key m)) ≡ changed (key_is (public_key tack)) (raised_to (min_generation tack)) t.keys
    raised m e =
        ap (λ (n : ℕ). set t.keys k (some (key_record x.what.key n)))
        (sym e ∙ ap (λ (y : Option KeyRecord). max (floor_at y) (min_generation tack)) x.there)
        ∙ sym (found-changed x (h.fits.key_once (public_key tack)) (raised_to (min_generation tack)))

    pub raise-kept : min_generation tack ≤ floor_at (get_or t.keys k none) → Holds b (raise tack t)
    raise-kept l =
        with_keys_lem
        (sym (set-get_or t.keys k none)
        ∙ ap (set t.keys k) x.there
        ∙ raised x.what.floor (omega (arith, ap floor_at x.there))) h

    pub raise-stored : {d : List ℕ} {m : ℕ} → m ≡ min_generation tack → floor_at (get_or t.keys k none) < m
        → Holds d (with_key t k (with_floor m (get_or t.keys k none))) → Holds d (raise tack t)
    raise-stored {d} {m} e l g =
        with_keys_lem (ap (λ (y : Option KeyRecord). set t.keys k (with_floor m y)) x.there ∙ raised m (omega arith)) g
