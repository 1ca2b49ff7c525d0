-- Step 3 by the broken keys: one key after the other, and one key on an area.
use mathlib.Core.Path.{◌≡◌, refl, sym, ◌∙◌, ap, ap₂, subst, fun_ext}
use mathlib.Core.Bool.{Bool, true, false, cond, ◌||◌, true≢false, or-false}
use mathlib.Core.List.{List, [], ◌∷◌, ◌++◌}
use mathlib.Core.Option.{Option, none, some}
use Prim.Native.Nat.{ℕ}
use lib.Dec.{ltb}
use lib.ListN.{get_or}
use Rattle.octets.specs.Octets.{same, any}
use Rattle.octets.proofs.Tests.{is_false}
use Rattle.octets.proofs.Equal.{same-turned}
use Rattle.pin_model.specs.Slots.{used, freed}
use Rattle.pin_model.specs.Table.{Table, holding, key_is, pinned_to}
use Rattle.pin_model.specs.Layout.{key_at, decode}
use Rattle.pin_model.specs.Fits.{name_fits}
use Rattle.pin_model.specs.Connection.{listed}
use Rattle.pin_model.specs.Judge.{break}
use Rattle.pin_model.proofs.Lists.{any-count, all-implied, any_append, any-nothing}
use Rattle.pin_model.proofs.Slots.{freed-none, count-gone}
use Rattle.pin_model.proofs.Fields.{all_found}
use Rattle.pin_model.proofs.Fits.{name-fits}
use Rattle.pin_records.specs.Holds.{Holds, with_key}
use Rattle.pin_records.specs.Find.{is_free}
use Rattle.pin_records.proofs.HeldSlots.{holds-decode}
use Rattle.pin_records.proofs.Found.{FoundAt, found-freed}
use Rattle.pin_steps.proofs.Tacks.{with_keys_lem, with-names}

module _ {A : Type 0} where
  -- slots freed by one test and then by another
  freed-twice : (p q : A → Bool) (l : List (Option A)) → freed q (freed p l) ≡ freed (λ a. p a || q a) l
  freed-twice p q [] = refl
  freed-twice p q (none ∷ l) = ap (λ (m : List (Option A)). none ∷ m) (freed-twice p q l)
  freed-twice p q (some a ∷ l) =
      elim (p a) as (λ b. freed q (cond b none (some a) ∷ freed p l) ≡ cond (b || q a) none (some a) ∷ freed (λ x. p x || q x) l) [
        | true ↦ ap (λ (m : List (Option A)). none ∷ m) (freed-twice p q l)
        | false ↦ ap (λ (m : List (Option A)). cond (q a) none (some a) ∷ m) (freed-twice p q l)
      ]

  freed-ext : (p q : A → Bool) → ((a : A) → p a ≡ q a) → (l : List (Option A)) → freed p l ≡ freed q l
  freed-ext p q h l = ap (λ (f : A → Bool). freed f l) (fun_ext h)

  -- none of those that go is left
  freed-gone : (q : A → Bool) (l : List (Option A)) → any q (used (freed q l)) ≡ false
  freed-gone q l = any-count q (used (freed q l)) ∙ ap (ltb 0) (count-gone q l)

-- keys after other keys
module _ {A : Type 0} (key : A → List ℕ) (ks ms : List (List ℕ)) where
  freed-more : (l : List (Option A)) → freed (λ a. listed ms (key a)) (freed (λ a. listed ks (key a)) l) ≡ freed (λ a. listed (ks ++ ms) (key a)) l
  freed-more l =
      freed-twice (λ a. listed ks (key a)) (λ a. listed ms (key a)) l
      ∙ freed-ext (λ a. listed ks (key a) || listed ms (key a)) (λ a. listed (ks ++ ms) (key a)) (λ a. sym (any_append (λ b. same b (key a)) ks ms)) l

pub break-more : (ks ms : List (List ℕ)) (t : Table) → break ms (break ks t) ≡ break (ks ++ ms) t
break-more ks ms t = ap₂ (holding t) (freed-more (λ k. k.key) ks ms t.keys) (freed-more (λ r. r.key) ks ms t.names)

pub break-none : (t : Table) → break [] t ≡ t
break-none t =
    ap₂ (holding t) (freed-none (λ k. false) t.keys (any-nothing (used t.keys))) (freed-none (λ r. false) t.names (any-nothing (used t.names)))

-- one key
by_key : {A : Type 0} (field : A → List ℕ) (key : List ℕ) (l : List (Option A)) → freed (λ a. same (field a) key) l ≡ freed (λ a. listed (key ∷ []) (field a)) l
by_key field key l =
    freed-ext (λ a. same (field a) key) (λ a. listed (key ∷ []) (field a)) (λ a. same-turned (field a) key ∙ sym (or-false (same key (field a)))) l

module _ (key : List ℕ) {b : List ℕ} {t : Table} (h : Holds b t) where
  to-key : {d : List ℕ} → Holds d (holding t (freed (key_is key) t.keys) (freed (pinned_to key) t.names)) → Holds d (break (key ∷ []) t)
  to-key g = with_keys_lem (by_key (λ k. k.key) key t.keys) (with-names (by_key (λ r. r.key) key t.names) g)

  -- a key that has no record has no names
  unnamed : any (key_is key) (used t.keys) ≡ false → any (pinned_to key) (used t.names) ≡ false
  unnamed e =
      is_false (any (pinned_to key) (used t.names)) (λ d.
      true≢false (sym (all_found (λ r. r.key) (λ κ. any (key_is κ) (used t.keys)) (used t.names)
      (all-implied (name_fits t.keys) (λ r. any (key_is r.key) (used t.keys)) (λ r f. (name-fits t.keys r f).recorded) (used t.names) h.fits.names_fit)
      key d) ∙ e))

  pub break-absent : any (key_is key) (used t.keys) ≡ false → Holds b (break (key ∷ []) t)
  break-absent e =
      to-key (with_keys_lem (sym (freed-none (key_is key) t.keys e)) (with-names (sym (freed-none (pinned_to key) t.names (unnamed e))) h))

  -- a recorded key whose names are dropped
  module _ {k : ℕ} (x : FoundAt (λ y. y.key) key t.keys 64 k) {d : List ℕ}
      (g : Holds d (holding t t.keys (freed (pinned_to (key_at (get_or t.keys k none))) t.names))) where
    pub broken-used : is_free (get_or (decode d).keys k none) ≡ false
    broken-used = ap (λ (v : Table). is_free (get_or v.keys k none)) (holds-decode g) ∙ x.in_use

    pub broken-unnamed : any (pinned_to (key_at (get_or (decode d).keys k none))) (used (decode d).names) ≡ false
    broken-unnamed =
        ap (λ (v : Table). any (pinned_to (key_at (get_or v.keys k none))) (used v.names)) (holds-decode g)
        ∙ freed-gone (pinned_to (key_at (get_or t.keys k none))) t.names

    pub break-cleared : {a : List ℕ} → Holds a (with_key (decode d) k none) → Holds a (break (key ∷ []) t)
    break-cleared {a} f =
        to-key (with_keys_lem (sym (found-freed x (h.fits.key_once key)))
        (with-names (ap (λ (κ : List ℕ). freed (pinned_to κ) t.names) (ap key_at x.there ∙ x.its))
        (subst (λ (v : Table). Holds a (with_key v k none)) (holds-decode g) f)))
