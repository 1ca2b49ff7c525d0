-- 27; else the name that is handed on is the folded one, cut at 254 bytes. What judging leaves of a sound area is sound.
use mathlib.Core.Path.{sym, ap, ◌∙◌}
use Rattle.pin_model.specs.Sound.{sound}
use Rattle.pin_model.specs.Seen.{seen}
use Rattle.pin_model.proofs.Rules.{rules-of}
use Rattle.pin_model.proofs.AreaKept.{left-keeps}
use Rattle.pin_judge.proofs.Judged.{refused-edition, handed-on}
use Rattle.pin_judge.proofs.judge_sound_area.Goals as goal

pub is_two-requires : goal.is_two-requires
is_two-requires c = (rules-of _ c.requires).whole

pub returns-then-is_two : goal.returns-then-is_two
returns-then-is_two c =
    let w = refused-edition (seen c.args.connection.now) c.args.area.now c.requires (sym c.is_two.ensures ∙ c.if-is_two.true) in
    record { answer = w.0; area = w.1; sound = c.requires }

pub returns : goal.returns
returns c =
    let its = c.as_slice.ensures ∙ c.of-folded.ensures in
    let e = c.judge_folded.ensures in
    let w = handed-on (seen c.args.connection.now) c.args.area.now its (e.answer, e.area) in
    record { answer = w.0; area = w.1; sound = ap sound w.1 ∙ left-keeps _ _ c.requires }
