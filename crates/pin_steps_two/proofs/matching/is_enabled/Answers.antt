-- By the first tack, or by the second.
use mathlib.Core.Path.{sym, ◌∙◌}
use mathlib.Core.Option.{none}
use lib.ListN.{get_or}
use Rattle.tack_extension.specs.Answers.{tack_bytes}
use Rattle.tack_extension_two.specs.ExtensionTwo.{parts_two, enables_first, enables_second}
use Rattle.pin_model.specs.Layout.{decode}
use Rattle.pin_model.specs.Connection.{shown_in}
use Rattle.pin_refusals_two.specs.Parts.{tacks_in_order}
use Rattle.pin_steps_two.specs.Shown.{enabled_for}
use Rattle.pin_steps_two.proofs.ShownTacks.{by_first, by-second, enabled-split}
use Rattle.pin_steps_two.proofs.matching.is_enabled.Goals as goal

pub returns-then-shows_enabled : goal.returns-then-shows_enabled
returns-then-shows_enabled c =
    let f = tack_bytes c.args.tacks.first in
    let g = tack_bytes c.args.tacks.second in
    let p = parts_two f g c.args.tacks.flags in
    c.if-shows_enabled.true
    ∙ by_first (enabled_for (shown_in (enables_first p) f)) (enabled_for (shown_in (enables_second p) g)) (enabled_for (tacks_in_order c.args.tacks))
    (enabled-split f g c.args.tacks.flags) (get_or (decode c.args.area.now).names c.args.n none) (sym c.if-shows_enabled.ensures)

pub returns-else-shows_enabled : goal.returns-else-shows_enabled
returns-else-shows_enabled c =
    let f = tack_bytes c.args.tacks.first in
    let g = tack_bytes c.args.tacks.second in
    let p = parts_two f g c.args.tacks.flags in
    c.shows_enabled-else-shows_enabled.ensures
    ∙ by-second (enabled_for (shown_in (enables_first p) f)) (enabled_for (shown_in (enables_second p) g)) (enabled_for (tacks_in_order c.args.tacks))
    (enabled-split f g c.args.tacks.flags) (get_or (decode c.args.area.now).names c.args.n none) (sym c.if-shows_enabled.ensures)
