-- Whether a slot's pin is active, and the verdict by the one slot that has the name.
use mathlib.Core.Path.{◌≡◌, refl, sym, ◌∙◌, ap, ap₂}
use mathlib.Core.Bool.{Bool, true, false, cond, ◌&&◌, and_assoc}
use mathlib.Core.List.{List}
use mathlib.Core.Option.{Option, none, some}
use Prim.Native.Nat.{ℕ}
use native.Mathlib.Omega.{arith}
use lib.ListN.{length, get_or}
use Rattle.octets.specs.Octets.{any}
use Rattle.octets.proofs.Tests.{and_left}
use Rattle.octets.proofs.Equal.{same-turned}
use Rattle.tack_extension.specs.Tack.{public_key}
use Rattle.pin_model.specs.Slots.{used}
use Rattle.pin_model.specs.Table.{NameRecord, Table, name_is, pinned_to, active}
use Rattle.pin_model.specs.Fits.{holds}
use Rattle.pin_model.specs.Connection.{unless_empty, shows}
use Rattle.pin_model.specs.Judge.{active_of, verdict_by}
use Rattle.pin_model.proofs.TackShown.{not-shown, shown}
use Rattle.pin_model.proofs.Lists.{any-ext, none-implied}
use Rattle.pin_records.specs.Holds.{Holds}
use Rattle.pin_steps.specs.Steps.{shown_for}
use Rattle.pin_records.proofs.DistinctNames.{one-record}
use Rattle.pin_records.proofs.Found.{FoundAt, found-any}

module _ {b : List ℕ} {t : Table} (h : Holds b t) (name : List ℕ) (clock : ℕ) (tack : List ℕ) where
  pub verdict-absent : any (name_is name) (used t.names) ≡ false → 0 ≡ verdict_by name clock (unless_empty tack) t
  verdict-absent e =
      sym (ap (λ (v : Bool). cond v (cond (any (λ r. active_of name clock r && shown_for tack r) (used t.names)) 1 2) 0)
      (none-implied (active_of name clock) (name_is name) (λ r. and_left (name_is name r) (active clock r)) (used t.names) e))

  module _ (one : t.two ≡ false) {n : ℕ} (x : FoundAt (λ r. r.name) name t.names 128 n) where
    -- the verdict by that slot's record
    by-slot : (v w : Bool) → holds (active clock) (get_or t.names n none) ≡ v → shown_for tack x.what ≡ w
        → cond v (cond (v && w) 1 2) 0 ≡ verdict_by name clock (unless_empty tack) t
    by-slot v w e d =
        let own : active clock x.what ≡ v = sym (ap (holds (active clock)) x.there) ∙ e in
        sym (ap₂ (λ (y z : Bool). cond y (cond z 1 2) 0)
        (found-any x (one-record h.distinct one name) (active clock) ∙ own)
        (any-ext (λ r. active_of name clock r && shown_for tack r) (λ r. name_is name r && (active clock r && shown_for tack r))
        (λ r. and_assoc (name_is name r) (active clock r) (shown_for tack r)) (used t.names)
        ∙ found-any x (one-record h.distinct one name) (λ r. active clock r && shown_for tack r)
        ∙ ap₂ ◌&&◌ own d))

    pub verdict-inactive : holds (active clock) (get_or t.names n none) ≡ false → 0 ≡ verdict_by name clock (unless_empty tack) t
    verdict-inactive e = by-slot false (shown_for tack x.what) e refl

    module _ (e : holds (active clock) (get_or t.names n none) ≡ true) where
      pub verdict-empty : length tack ≡ 0 → 2 ≡ verdict_by name clock (unless_empty tack) t
      verdict-empty l = by-slot true false e (ap (λ (s : Option (List ℕ)). shows s x.what.key) (not-shown tack l))

      pub verdict-shown : (v : Bool) → v ≡ holds (shown_for tack) (get_or t.names n none) → cond v 1 2 ≡ verdict_by name clock (unless_empty tack) t
      verdict-shown v d = by-slot true v e (sym (d ∙ ap (holds (shown_for tack)) x.there))

-- a tack that is 166 bytes long is shown
pub shown-key : (tack : List ℕ) → length tack ≡ 166 → {key : List ℕ} → key ≡ public_key tack → (x : Option NameRecord)
    → holds (pinned_to key) x ≡ holds (shown_for tack) x
shown-key tack l its none = refl
shown-key tack l its (some r) =
    ap (λ (κ : List ℕ). pinned_to κ r) its ∙ same-turned r.key (public_key tack)
    ∙ ap (λ (s : Option (List ℕ)). shows s r.key) (sym (shown tack (λ e. omega (arith, e, l))))
