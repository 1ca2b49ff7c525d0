-- By the slot's bytes: whether it is used, then the name's length, then the name.
use Rattle.std.proofs.Common.{◌≡◌, refl, sym, ◌∙◌, true, false, length, eqb, rules, arith}
use borrow.Author.Tests.{eqb-true, eqb-false}
use Rattle.pin_model.specs.Layout.{is_used}
use Rattle.pin_records.proofs.SlotBytes.{name-read, read-unused, read_name, read-other}
use Rattle.pin_records.proofs.find.holds_name.Goals.{then-is_used, else-is_used}
use Rattle.pin_records.proofs.find.holds_name.Goals as goal

pub returns-then-from-name : goal.returns-then-from-name
returns-then-from-name c =
    let slot = c.name_slot-s.ensures in
    elim c.if-is_used.branch [
      | then-is_used w ↦
          let used : is_used c.name_slot-s.result.now ≡ true = cc in
          let even : eqb w.from.result (length c.args.name.now) ≡ true = cc in
          c.same_at.ensures
          ∙ read_name _ (name-read _ _ _ slot.1 slot.0) refl (sym (w.from.ensures ∙ w.name_length.ensures) ∙ eqb-true _ _ even) used
      | else-is_used w ↦ cc
    ]

pub returns-else-from-name : goal.returns-else-from-name
returns-else-from-name c =
    let slot = c.name_slot-s.ensures in
    elim c.if-is_used.branch [
      | then-is_used w ↦
          let uneven : eqb w.from.result (length c.args.name.now) ≡ false = cc in
          c.if-from-name.false
          ∙ sym (read-other _ (name-read _ _ _ slot.1 slot.0) refl (search rules) (omega (arith, w.name_length.ensures)) (λ e. eqb-false _ _ uneven (w.from.ensures ∙ w.name_length.ensures ∙ e)))
      | else-is_used w ↦
          let free : is_used c.name_slot-s.result.now ≡ false = cc in
          c.if-from-name.false ∙ sym (read-unused (name-read _ _ _ slot.1 slot.0) _ free)
    ]
