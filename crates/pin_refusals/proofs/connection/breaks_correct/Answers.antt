-- The signatures against the bits.
use mathlib.Core.Path.{ap, ◌∙◌}
use lib.Dec.{leb}
use lib.ListN.{length}
use Prim.Native.Nat.{◌/◌}
use Rattle.std.proofs.Common.{rules}
use Rattle.pin_refusals.proofs.BreakBits.{bits-counted}
use Rattle.pin_refusals.proofs.connection.breaks_correct.Goals as goal

pub returns : goal.returns
returns c =
    ap (leb (length c.args.breaks.now / 128)) c.trailing_ones.ensures ∙ bits-counted c.args.breaks.now c.args.bits (search rules) c.requires
