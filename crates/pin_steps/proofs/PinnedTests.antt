-- The test that the code makes of a name's key: of the record in the slot that holds the name.
use mathlib.Core.Path.{◌≡◌, ◌∙◌, ap₂}
use mathlib.Core.Bool.{Bool}
use mathlib.Core.List.{List}
use mathlib.Core.Option.{Option, none, some}
use Prim.Native.Nat.{ℕ}
use lib.ListN.{get_or}
use Rattle.tack_extension.specs.Tack.{public_key}
use Rattle.pin_model.specs.Table.{NameRecord, Table, pinned_to}
use Rattle.pin_model.specs.Fits.{holds}

module _ (t : Table) (n : ℕ) (r : NameRecord) (there : get_or t.names n none ≡ some r) where
  pub pinned-test : (tack : List ℕ) {key : List ℕ} {v : Bool} → key ≡ public_key tack → v ≡ holds (pinned_to key) (get_or t.names n none)
      → v ≡ pinned_to (public_key tack) r
  pinned-test tack its e =
      e ∙ ap₂ (λ (κ : List ℕ) (x : Option NameRecord). holds (pinned_to κ) x) its there
