-- Deletion of a name that has records, and of one that has none.
use mathlib.Core.Path.{◌≡◌, sym, ap, ◌∙◌}
use mathlib.Core.Bool.{Bool, true, false, cond}
use mathlib.Core.List.{List}
use mathlib.Core.Option.{none}
use Prim.Native.Nat.{ℕ}
use Rattle.std.specs.Prelude as answer
use Rattle.std.specs.Prelude.{Some, None}
use Rattle.std.specs.Option.{is_some}
use Rattle.octets.proofs.Options.{clash}
use Rattle.pin_model.specs.Slots.{freed}
use Rattle.pin_model.specs.Table.{holding, name_is, name_recorded, without}
use Rattle.pin_model.specs.Layout.{encode, decode}
use Rattle.pin_model.specs.Fits.{holds}
use Rattle.pin_model.specs.Calls.{plain, refusal, answer, area_after, delete}
use Rattle.pin_records.specs.Holds.{Holds, Stored, without_unnamed}
use Rattle.pin_records.specs.Find.{first_slot, slot_found}
use Rattle.pin_records.proofs.Found.{name-found-at, name-absent}
use Rattle.pin_records.proofs.HeldSlots.{holds-decode}
use Rattle.pin_refusals.proofs.Passed.{call-passed}

module _ (b name : List ℕ) (passes : refusal (delete name) b ≡ none) where
  by-records : (recorded : Bool) → name_recorded name (decode b) ≡ recorded
      → (plain (cond recorded 3 4) ≡ answer (delete name) b) × (encode (cond recorded (without name (decode b)) (decode b)) ≡ area_after (delete name) b)
  by-records recorded e =
      let w = call-passed (delete name) b passes in (
        ap (λ (t : Bool). plain (cond t 3 4)) (sym e) ∙ w.0,
        ap (λ (t : Bool). encode (cond t (without name (decode b)) (decode b))) (sym e) ∙ w.1,
      )

  pub delete-nothing : Stored b → name_recorded name (decode b) ≡ false → (plain 4 ≡ answer (delete name) b) × (b ≡ area_after (delete name) b)
  delete-nothing stored e = let w = by-records false e in (w.0, stored.bytes ∙ w.1)

  -- the name's slots are cleared, then every key that no name is left on
  pub delete-found : name_recorded name (decode b) ≡ true → (cleared after : List ℕ)
      → Holds cleared (holding (decode b) (decode b).keys (freed (name_is name) (decode b).names)) → Holds after (without_unnamed (decode cleared))
      → (plain 3 ≡ answer (delete name) b) × (after ≡ area_after (delete name) b)
  delete-found e cleared after h k =
      let w = by-records true e in
      let left : without_unnamed (decode cleared) ≡ without name (decode b) = ap without_unnamed (holds-decode h) in
      (w.0, k.bytes ∙ ap encode left ∙ w.1)

-- what the search says of the name
module _ {b : List ℕ} (stored : Stored b) (name : List ℕ) (o : answer.Option ℕ) (e : o ≡ slot_found 128 (first_slot (holds (name_is name)) (decode b).names)) where
  pub recorded-none : is_some o ≡ false → name_recorded name (decode b) ≡ false
  recorded-none d = go o e d
    where
      go : (o : answer.Option ℕ) → o ≡ slot_found 128 (first_slot (holds (name_is name)) (decode b).names) → is_some o ≡ false → name_recorded name (decode b) ≡ false
      go None e d = name-absent (decode b).names stored.fits.name_slots name e
      go (Some n) e d = clash (cc)

  pub recorded-some : is_some o ≡ true → name_recorded name (decode b) ≡ true
  recorded-some d = go o e d
    where
      go : (o : answer.Option ℕ) → o ≡ slot_found 128 (first_slot (holds (name_is name)) (decode b).names) → is_some o ≡ true → name_recorded name (decode b) ≡ true
      go None e d = clash (cc)
      go (Some n) e d = (name-found-at (decode b).names stored.fits.name_slots name n e).recorded
