-- Names of different lengths differ.
use Rattle.std.proofs.Common.{◌≡◌, sym, ◌∙◌, rules, eqb, false}
use mathlib.Core.Bool.{and-false}
use borrow.Author.Tests.{eqb-false}
use Rattle.pin_model.specs.Layout.{is_used}
use Rattle.pin_model.specs.Sound.{same_name}
use Rattle.pin_distinct.proofs.SlotPairs.{names-differ}
use Rattle.pin_distinct.proofs.repeats.same_name.Goals.{then-name_length, else-name_length, then-is_used, else-is_used}
use Rattle.pin_distinct.proofs.repeats.same_name.Goals as goal

pub returns-else-is_used-2 : goal.returns-else-is_used-2
unfolding same_name
returns-else-is_used-2 c =
    elim c.if-name_length.branch [
      | then-name_length w ↦ search rules
      | else-name_length w ↦ elim c.if-is_used.branch [
        | then-is_used v ↦
            let uneven : eqb v.name_length.result v.name_length-then-is_used.result ≡ false = sym v.value-is ∙ w.if-name_length.false in
            let unlike = names-differ c.args.s.now c.args.r.now c.told-s c.told-r (c.fits-s 2) (c.fits-r 2) (λ e. eqb-false _ _ uneven (v.name_length.ensures ∙ e ∙ sym v.name_length-then-is_used.ensures)) in
            c.if-is_used-2.false ∙ sym (rw (unlike, and-false (is_used c.args.r.now)) (and-false (is_used c.args.s.now)))
        | else-is_used v ↦ search rules
      ]
    ]
