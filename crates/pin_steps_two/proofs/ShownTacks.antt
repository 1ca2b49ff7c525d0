-- What a call's tacks say of a record, part by part.
use mathlib.Core.Path.{◌≡◌, refl, sym, ◌∙◌, ap, ap₂, subst}
use mathlib.Core.Bool.{Bool, true, false, not, ◌&&◌, ◌||◌, or-false}
use mathlib.Core.List.{List, [], ◌∷◌, ◌++◌}
use mathlib.Core.Option.{Option, none, some}
use Prim.Native.Nat.{ℕ}
use native.Mathlib.Omega.{arith}
use lib.ListN.{length}
use Rattle.octets.specs.Octets.{same}
use Rattle.octets.proofs.Equal.{same-turned}
use Rattle.tack_extension.specs.Tack.{public_key}
use Rattle.tack_extension_two.specs.ExtensionTwo.{parts_two, enables_first, enables_second}
use Rattle.pin_model.specs.Slots.{used}
use Rattle.pin_model.specs.Table.{NameRecord, Table, pinned_to, settled_at}
use Rattle.pin_model.specs.Layout.{decode}
use Rattle.pin_model.specs.Fits.{holds}
use Rattle.pin_model.specs.Connection.{Shown, shown_in, tacks_in, key_shown}
use Rattle.pin_model.specs.Judge.{raise, active_of}
use Rattle.pin_model.specs.JudgeTwo.{contradicted, raise_each, raised_at}
use Rattle.pin_model.proofs.Lists.{any-ext, any_append}
use Rattle.pin_records.specs.Holds.{Holds}
use Rattle.pin_records.proofs.HeldSlots.{holds-decode}
use Rattle.pin_steps_two.specs.Shown.{shown_for, enabled_for}

-- the tacks by their bytes, each with its flag, and as a step has them that looks at no flag
abbrev pub tacks_by : List ℕ → List ℕ → ℕ → List Shown
tacks_by first second flags = tacks_in (parts_two first second flags)

abbrev pub both_tacks : List ℕ → List ℕ → List Shown
both_tacks first second = shown_in true first ++ shown_in true second

-- one tack
pub shows-whole : (tack : List ℕ) → length tack ≡ 166 → {key : List ℕ} → key ≡ public_key tack → (x : Option NameRecord)
    → holds (pinned_to key) x ≡ holds (shown_for (shown_in true tack)) x
shows-whole [] l its x = absurd (omega arith)
shows-whole (b ∷ bs) l its none = refl
shows-whole (b ∷ bs) l {key} its (some r) =
    ap (same r.key) its ∙ same-turned r.key (public_key (b ∷ bs)) ∙ sym (or-false (same (public_key (b ∷ bs)) r.key))

-- the flag of a tack matters where it is asked for alone
any_flag : (enabled : Bool) (tack k : List ℕ) → key_shown (shown_in enabled tack) k ≡ key_shown (shown_in true tack) k
any_flag enabled [] k = refl
any_flag enabled (b ∷ bs) k = refl

-- two tests of a slot, one of which is enough
module _ {A : Type 0} (p q both : A → Bool) (split : (a : A) → both a ≡ (p a || q a)) where
  pub by_first : (x : Option A) → holds p x ≡ true → true ≡ holds both x
  by_first none e = sym e
  by_first (some a) e = sym (split a ∙ ap (λ (b : Bool). b || q a) e)

  pub by-second : (x : Option A) → holds p x ≡ false → holds q x ≡ holds both x
  by-second none e = refl
  by-second (some a) e = sym (split a ∙ ap (λ (b : Bool). b || q a) e)

module _ (first second : List ℕ) where
  module _ (flags : ℕ) where
    abbrev on-first : Bool
    on-first = enables_first (parts_two first second flags)

    abbrev on-second : Bool
    on-second = enables_second (parts_two first second flags)

    pub enabled-split : (r : NameRecord)
        → enabled_for (tacks_by first second flags) r ≡ (enabled_for (shown_in on-first first) r || enabled_for (shown_in on-second second) r)
    unfolding tacks_in
    enabled-split r = any_append (λ s. s.enabled && same (public_key s.tack) r.key) (shown_in on-first first) (shown_in on-second second)

    shown-same : (k : List ℕ) → key_shown (tacks_by first second flags) k ≡ key_shown (both_tacks first second) k
    unfolding tacks_in
    shown-same k =
        any_append (λ s. same (public_key s.tack) k) (shown_in on-first first) (shown_in on-second second)
        ∙ ap₂ ◌||◌ (any_flag on-first first k) (any_flag on-second second k)
        ∙ sym (any_append (λ s. same (public_key s.tack) k) (shown_in true first) (shown_in true second))

    pub contradicted-same : (name : List ℕ) (clock : ℕ) (t : Table)
        → contradicted name clock (both_tacks first second) t ≡ contradicted name clock (tacks_by first second flags) t
    contradicted-same name clock t =
        any-ext (λ r. active_of name clock r && not (key_shown (both_tacks first second) r.key))
        (λ r. active_of name clock r && not (key_shown (tacks_by first second flags) r.key))
        (λ r. ap (λ (b : Bool). active_of name clock r && not b) (sym (shown-same r.key))) (used t.names)

    raised-same : (t : Table) → raise_each (both_tacks first second) t ≡ raise_each (tacks_by first second flags) t
    unfolding tacks_in
    raised-same t = go first second
      where
        go : (f s : List ℕ) → raise_each (shown_in true f ++ shown_in true s) t ≡ raise_each (shown_in on-first f ++ shown_in on-second s) t
        go [] [] = refl
        go [] (b ∷ bs) = refl
        go (a ∷ l) [] = refl
        go (a ∷ l) (b ∷ bs) = refl

    pub raised_at-same : (clock : ℕ) (t : Table) → raised_at clock (both_tacks first second) t ≡ raised_at clock (tacks_by first second flags) t
    raised_at-same clock t = ap (settled_at clock) (raised-same t)

-- floors raised by some tacks, and then by others
raise-append : (l m : List Shown) (t : Table) → raise_each (l ++ m) t ≡ raise_each m (raise_each l t)
raise-append [] m t = refl
raise-append (s ∷ l) m t = raise-append l m (raise s.tack t)

pub raised_both : {a d e : List ℕ} (first second : List ℕ) (clock : ℕ) (t : Table) → Holds a (raise_each (shown_in true first) t)
    → Holds d (raise_each (shown_in true second) (decode a)) → Holds e (settled_at clock (decode d)) → Holds e (raised_at clock (both_tacks first second) t)
raised_both {a} {d} {e} first second clock t f g h =
    subst (λ (u : Table). Holds e (settled_at clock u))
    (holds-decode g ∙ ap (raise_each (shown_in true second)) (holds-decode f) ∙ sym (raise-append (shown_in true first) (shown_in true second) t)) h
