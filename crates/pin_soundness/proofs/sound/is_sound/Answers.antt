-- An empty table is sound.
use Rattle.std.proofs.Common.{sym, ap, ◌∙◌}
use Rattle.octets.specs.Octets.{all_zero}
use Rattle.pin_soundness.proofs.Rules.{zeros_are_sound}
use Rattle.pin_soundness.proofs.sound.is_sound.Goals as goal

pub returns-then-is_empty : goal.returns-then-is_empty
returns-then-is_empty c =
    let whole = c.in-Ok.ensures.1 in
    c.if-is_empty.true
    ∙ sym (zeros_are_sound c.args.area.now whole.long (ap all_zero (sym whole.same) ∙ c.is_empty.ensures c.if-is_empty.true))
