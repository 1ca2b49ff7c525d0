-- The verdict, and what is learned unless contradicted.
use mathlib.Core.Path.{◌≡◌, refl, sym, ◌∙◌, ap, ap₂, subst}
use mathlib.Core.Bool.{Bool, true, false, cond, not, ◌&&◌}
use mathlib.Core.List.{List}
use Prim.Native.Nat.{ℕ}
use Rattle.octets.specs.Octets.{any}
use Rattle.host_name.specs.Name.{well_formed}
use Rattle.pin_model.specs.Slots.{used, freed}
use Rattle.pin_model.specs.Table.{NameRecord, Table, holding, without_all}
use Rattle.pin_model.specs.Layout.{encode, decode}
use Rattle.pin_model.specs.Connection.{Shown}
use Rattle.pin_model.specs.Judge.{active_of}
use Rattle.pin_model.specs.JudgeTwo.{raised_at, contradicted, verdict_by_two, is_removed, learn_each, no_room_each, learn_two, no_room_in_two}
use Rattle.pin_model.specs.Calls as calls
use Rattle.pin_model.proofs.SoundTwo.{removed-stage}
use Rattle.pin_records.specs.Holds.{Holds, without_unnamed}
use Rattle.pin_records.proofs.HeldSlots.{holds-decode}
use Rattle.pin_steps_two.specs.SettledTwo.{SettledTwo}
use Rattle.pin_steps_two.specs.StepsTwo.{steps_two, steps_answer_two}
use Rattle.pin_steps_two.proofs.ShownTacks.{tacks_by, both_tacks, raised_at-same}
use Rattle.pin_steps_two.proofs.OwnPins.{to-stage, from-stage}

module _ (name : List ℕ) (clock : ℕ) (tacks : List Shown) (t : Table) (d : List ℕ) where
  abbrev left : Table
  left = without_all (is_removed name clock tacks) t

  abbrev pub Judged : ℕ → Bool → Type 0
  Judged verdict lacks =
      (calls.judgement true verdict lacks ≡ calls.judgement true (verdict_by_two name clock tacks t) (no_room_in_two name clock tacks t)) × (d ≡ encode (learn_two name clock tacks t))

  -- by whether it is contradicted, and whether a record is active
  judged-by : (against pinned : Bool) → contradicted name clock tacks t ≡ against → any (active_of name clock) (used t.names) ≡ pinned
      → Holds d (cond against t (learn_each name clock tacks left)) → Judged (cond against 2 (cond pinned 1 0)) (not against && no_room_each name clock tacks left)
  judged-by against pinned e f h = (
    ap₂ (calls.judgement true) (ap₂ (λ (a p : Bool). cond a 2 (cond p 1 0)) (sym e) (sym f)) (ap (λ (a : Bool). not a && no_room_each name clock tacks left) (sym e)),
    h.bytes ∙ ap (λ (a : Bool). encode (cond a t (learn_each name clock tacks left))) (sym e),
  )

  pub judged-contradicted : contradicted name clock tacks t ≡ true → Holds d t → Judged 2 false
  judged-contradicted e h = judged-by true (any (active_of name clock) (used t.names)) e refl h

  pub judged-passed : (pinned : Bool) {lacks : Bool} → contradicted name clock tacks t ≡ false → any (active_of name clock) (used t.names) ≡ pinned
      → lacks ≡ no_room_each name clock tacks left → Holds d (learn_each name clock tacks left) → Judged (cond pinned 1 0) lacks
  judged-passed pinned {lacks} e f g h = (
    ap (calls.judgement true (cond pinned 1 0)) g ∙ (judged-by false pinned e f h).0,
    (judged-by false pinned e f h).1,
  )

-- the records go, then the keys that no name is left on
pub keys-dropped : (gone : NameRecord → Bool) (t : Table) {a d : List ℕ} → Holds a (holding t t.keys (freed gone t.names))
    → Holds d (without_unnamed (decode a)) → Holds d (without_all gone t)
keys-dropped gone t {a} {d} g h = subst (λ (u : Table). Holds d (without_unnamed u)) (holds-decode g) h

pub dropped-settled : (name : List ℕ) {clock : ℕ} → well_formed name ≡ true → (gone : NameRecord → Bool) {t : Table} {d : List ℕ}
    → Holds d (without_all gone t) → SettledTwo clock t → SettledTwo clock (decode d)
dropped-settled name {clock} formed gone h known =
    subst (SettledTwo clock) (sym (holds-decode h)) (from-stage (removed-stage name clock formed gone (to-stage known)))

pub learned-from : (name : List ℕ) (clock : ℕ) (tacks : List Shown) {a d : List ℕ} {t : Table} → Holds a t → Holds d (learn_each name clock tacks (decode a))
    → Holds d (learn_each name clock tacks t)
learned-from name clock tacks {a} {d} g h = subst (λ (u : Table). Holds d (learn_each name clock tacks u)) (holds-decode g) h

-- the table with its floors raised, whatever the flags
module _ (first second : List ℕ) (flags clock : ℕ) (t : Table) {a : List ℕ} where
  raised-table : Holds a (raised_at clock (both_tacks first second) t) → decode a ≡ raised_at clock (tacks_by first second flags) t
  raised-table h = holds-decode h ∙ raised_at-same first second flags clock t

  pub raised-as : (P : Table → Type 0) → Holds a (raised_at clock (both_tacks first second) t) → P (raised_at clock (tacks_by first second flags) t) → P (decode a)
  raised-as P h p = subst P (sym (raised-table h)) p

  pub judged-from : (name : List ℕ) {d : List ℕ} {r : calls.Answer} → Holds a (raised_at clock (both_tacks first second) t)
      → r ≡ calls.judgement true (verdict_by_two name clock (tacks_by first second flags) (decode a)) (no_room_in_two name clock (tacks_by first second flags) (decode a))
      → d ≡ encode (learn_two name clock (tacks_by first second flags) (decode a))
      → (r ≡ steps_answer_two name clock (tacks_by first second flags) t) × (d ≡ encode (steps_two name clock (tacks_by first second flags) t))
  judged-from name h p q =
      let tacks : List Shown = tacks_by first second flags in (
        p ∙ ap (λ (u : Table). calls.judgement true (verdict_by_two name clock tacks u) (no_room_in_two name clock tacks u)) (raised-table h),
        q ∙ ap (λ (u : Table). encode (learn_two name clock tacks u)) (raised-table h),
      )
