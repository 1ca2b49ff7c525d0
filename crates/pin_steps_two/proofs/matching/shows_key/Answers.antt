-- A tack is 166 bytes long, so its part is not empty.
use mathlib.Core.Path.{◌≡◌, ◌∙◌}
use mathlib.Core.Option.{none}
use lib.ListN.{get_or}
use Rattle.std.proofs.Common.{rules, length}
use Rattle.pin_model.specs.Layout.{decode}
use Rattle.pin_steps_two.proofs.ShownTacks.{shows-whole}
use Rattle.pin_steps_two.proofs.matching.shows_key.Goals as goal

pub returns : goal.returns
returns c =
    let size : length c.args.tack.now ≡ 166 = search rules in
    c.pinned_to.ensures ∙ shows-whole c.args.tack.now size c.public_key.ensures (get_or (decode c.args.area.now).names c.args.n none)
