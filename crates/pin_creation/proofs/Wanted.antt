-- Whether step 2(ii) wants a record, from what the name's slot says.
use mathlib.Core.Path.{◌≡◌, sym, ◌∙◌, ap}
use mathlib.Core.Bool.{Bool, true, false, not, ◌&&◌, ◌||◌}
use mathlib.Core.List.{List}
use mathlib.Core.Option.{Option, none}
use Prim.Native.Nat.{ℕ}
use lib.ListN.{get_or}
use Rattle.octets.specs.Octets.{any}
use Rattle.octets.proofs.Tests.{and_left}
use Rattle.tack_extension.specs.Tack.{public_key}
use Rattle.pin_model.specs.Slots.{used}
use Rattle.pin_model.specs.Table.{NameRecord, Table, name_is, pinned_to, active}
use Rattle.pin_model.specs.Fits.{holds}
use Rattle.pin_model.specs.Judge.{wants_record}
use Rattle.pin_model.proofs.Lists.{none-implied}
use Rattle.pin_records.specs.Holds.{Holds}
use Rattle.pin_records.proofs.DistinctNames.{one-record}
use Rattle.pin_records.proofs.Found.{FoundAt, found-any}
use Rattle.pin_steps.proofs.PinnedTests.{pinned-test}

-- by whether the call may make a record
pub by-may-record : (name tack : List ℕ) (clock : ℕ) (t : Table) {may allowed wants : Bool} → may ≡ allowed
    → wants ≡ wants_record allowed name clock tack t → wants ≡ wants_record may name clock tack t
by-may-record name tack clock t e w = w ∙ ap (λ (m : Bool). wants_record m name clock tack t) (sym e)

module _ (name tack : List ℕ) (clock : ℕ) {b : List ℕ} {t : Table} (h : Holds b t) where
  abbrev keeps : NameRecord → Bool
  keeps r = pinned_to (public_key tack) r || active clock r

  pub wanted-new : any (name_is name) (used t.names) ≡ false → true ≡ wants_record true name clock tack t
  wanted-new e = sym (ap not (none-implied (λ r. name_is name r && keeps r) (name_is name) (λ r. and_left (name_is name r) (keeps r)) (used t.names) e))

  module _ (one : t.two ≡ false) {n : ℕ} (x : FoundAt (λ r. r.name) name t.names 128 n) {key : List ℕ} (its : key ≡ public_key tack) where
    -- by whether the record has the tack's key
    wanted_by : (v : Bool) → v ≡ holds (pinned_to key) (get_or t.names n none) → not (v || active clock x.what) ≡ wants_record true name clock tack t
    wanted_by v e =
        ap (λ (own : Bool). not (own || active clock x.what)) (pinned-test t n x.what x.there tack its e)
        ∙ sym (ap not (found-any x (one-record h.distinct one name) keeps))

    pub wanted-own : true ≡ holds (pinned_to key) (get_or t.names n none) → false ≡ wants_record true name clock tack t
    wanted-own e = wanted_by true e

    pub wanted-other : false ≡ holds (pinned_to key) (get_or t.names n none) → not (holds (active clock) (get_or t.names n none)) ≡ wants_record true name clock tack t
    wanted-other e = ap (λ (o : Option NameRecord). not (holds (active clock) o)) x.there ∙ wanted_by false e
