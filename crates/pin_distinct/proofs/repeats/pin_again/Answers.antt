-- By the edition, as the definition goes; in edition two the slots before it are asked in turn.
use Rattle.std.proofs.Common.{sym, ◌∙◌, rules}
use Rattle.pin_model.specs.Layout.{name_slot}
use Rattle.pin_model.specs.Sound.{same_pin, pin_twice}
use Rattle.pin_table.proofs.Ranges.{any-below, below}
use Rattle.pin_distinct.specs.Pins.{pin_again}
use Rattle.pin_distinct.proofs.repeats.pin_again.Goals as goal

pub returns-then-is_two : goal.returns-then-is_two
unfolding pin_again pin_twice
returns-then-is_two c =
    let b = c.args.area.now in
    any-below (λ m. same_pin (name_slot b c.args.n) (name_slot b m)) c.args.n _ _ _ c.any.ensures.ran (below _ cc) (λ x v q k. search rules)
    ∙ sym (rw (sym c.is_two.ensures ∙ c.if-is_two.true))

pub returns : goal.returns
unfolding pin_again
returns c = c.name_twice.ensures ∙ sym (rw (sym c.is_two.ensures ∙ c.if-is_two.false))
