-- What the area holds after steps 1 and 2, and after all of them.
use mathlib.Core.Path.{◌≡◌, sym, ap, ap₂, subst, ◌∙◌}
use mathlib.Core.Bool.{Bool, true, false}
use mathlib.Core.List.{List, map}
use mathlib.Core.Option.{Option}
use Prim.Native.Nat.{ℕ, ◌≤◌}
use native.Mathlib.Omega.{arith}
use lib.ListN.{length}
use Rattle.tack_extension.specs.Tack.{break_key, break_signatures}
use Rattle.pin_model.specs.Table.{clock_limit, Table, settled_at}
use Rattle.pin_model.specs.Layout.{encode, decode}
use Rattle.pin_model.specs.SoundTable.{sound_table}
use Rattle.pin_model.specs.Connection.{unless_empty}
use Rattle.pin_model.specs.Judge.{raise, extend, no_room_for, create, learn, no_room_in, break, steps, verdict_by}
use Rattle.pin_model.specs.Calls.{judgement}
use Rattle.pin_model.proofs.Disabled.{not_extended}
use Rattle.pin_model.proofs.Editions.{learned-edition}
use Rattle.pin_model.proofs.TackShown.{shown}
use Rattle.pin_records.specs.Holds.{Holds}
use Rattle.pin_records.proofs.HeldSlots.{holds-decode, holds-stored}
use Rattle.pin_judge.specs.Known.{InOrder}
use Rattle.pin_judge.specs.Answered.{steps_answer}
use Rattle.pin_judge.proofs.Learnt.{raised-sound, extended-sound}

-- u is what step 1 left
pub ready-to-extend : {b name : List ℕ} {clock : ℕ} (tack : List ℕ) (u : Table) → u ≡ raise tack (decode b) → InOrder b name clock
    → (sound_table (settled_at clock u) ≡ true) × (u.two ≡ false)
ready-to-extend {b} {name} {clock} tack u its known = (
  ap (λ (v : Table). sound_table (settled_at clock v)) its
      ∙ raised-sound tack clock (decode b) known.admitted.table_sound known.clock_in_order known.admitted.clock_in_limit,
  ap (λ (v : Table). v.two) its ∙ known.admitted.of_one,
)

-- steps 1 and 2(i), with activation or without
module _ (on : Bool) (name : List ℕ) (clock : ℕ) (tack : List ℕ) (t : Table) where
  abbrev pub prolonged : Table
  prolonged = extend on name clock tack (raise tack t)

  pub extended : on ≡ true → {raised after : List ℕ} → Holds raised (raise tack t) → Holds after (extend true name clock tack (decode raised)) → Holds after prolonged
  extended e {after = after} h w =
      rw e (subst (λ (u : Table). Holds after (extend true name clock tack u)) (holds-decode h) w)

  pub unextended : on ≡ false → {raised : List ℕ} → Holds raised (raise tack t) → Holds raised prolonged
  unextended e {raised} h = rw e (subst (Holds raised) (sym (not_extended name tack clock (raise tack t))) h)

  -- step 2(ii), on what they leave
  module _ {d : List ℕ} (h : Holds d prolonged) where
    pub ready-to-create : sound_table t ≡ true → t.two ≡ false → t.latest ≤ clock → clock ≤ clock_limit
        → (sound_table (settled_at clock (decode d)) ≡ true) × ((decode d).two ≡ false)
    ready-to-create sound one in_order in_limit = (
      ap (λ (v : Table). sound_table (settled_at clock v)) (holds-decode h) ∙ extended-sound tack clock t sound in_order in_limit on name one,
      ap (λ (v : Table). v.two) (holds-decode h) ∙ one,
    )

    pub created : (may : Bool) {r : Bool} {after : List ℕ} → length tack ≡ 166
        → (r ≡ no_room_for may name clock tack (decode d)) × Holds after (create may name clock tack (decode d))
        → (r ≡ no_room_in on may name clock (unless_empty tack) t) × Holds after (learn on may name clock (unless_empty tack) t)
    created may {r} {after} long w =
        subst (λ (shown : Option (List ℕ)). (r ≡ no_room_in on may name clock shown t) × Holds after (learn on may name clock shown t))
        (sym (shown tack (λ e. omega arith)))
        (subst (λ (u : Table). (r ≡ no_room_for may name clock tack u) × Holds after (create may name clock tack u)) (holds-decode h) w)

-- steps 3 and 4
module _ (on may : Bool) (name : List ℕ) (clock : ℕ) (tack breaks : List ℕ) (t : Table) {learnt broken after : List ℕ} {full : Bool}
    (one : (full ≡ no_room_in on may name clock (unless_empty tack) t) × Holds learnt (learn on may name clock (unless_empty tack) t))
    (two : Holds broken (break (map break_key (break_signatures breaks)) (decode learnt)))
    (three : Holds after (settled_at clock (decode broken))) where
  table-after : decode after ≡ steps on may name clock (unless_empty tack) (map break_key (break_signatures breaks)) t
  table-after =
      holds-decode three
      ∙ ap (settled_at clock) (holds-decode two ∙ ap (break (map break_key (break_signatures breaks))) (holds-decode one.1))

  pub still_one : t.two ≡ false → (decode after).two ≡ false
  still_one one = ap (λ (u : Table). u.two) table-after ∙ learned-edition on may name clock (unless_empty tack) t ∙ one

  pub applied : (n : ℕ) → n ≡ verdict_by name clock (unless_empty tack) (decode after)
      → (judgement false n full ≡ steps_answer on may name clock (unless_empty tack) (map break_key (break_signatures breaks)) t)
      × (after ≡ encode (steps on may name clock (unless_empty tack) (map break_key (break_signatures breaks)) t))
  applied n e = (
    ap₂ (judgement false) (e ∙ ap (verdict_by name clock (unless_empty tack)) table-after) one.0,
    (holds-stored three).bytes ∙ ap encode table-after,
  )
