-- By the key's record, if there is one.
use mathlib.Core.Path.{sym, ◌∙◌, ap₂}
use lib.Dec.{ltb}
use Rattle.pin_refusals.proofs.Floors.{not-revoked, revoked-by}
use Rattle.pin_refusals.proofs.tack.is_revoked.Goals as goal

pub returns-in_default : goal.returns-in_default
returns-in_default c = sym (not-revoked c.requires _ _ c.public_key.ensures c.in_default.ensures)

pub returns : goal.returns
returns c =
    ap₂ ltb c.generation.ensures c.floor.ensures
    ∙ sym (revoked-by c.requires _ _ c.public_key.ensures _ c.in-Some.ensures)
