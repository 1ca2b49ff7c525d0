-- The chunks are the break signatures, one after the other.
use native.Mathlib.Omega.{arith}
use mathlib.Core.Path.{ap, ◌∙◌}
use mathlib.Core.List.{List, []}
use Prim.Native.Nat.{ℕ}
use lib.ListN.{get_or}
use Rattle.pin_model.specs.Layout.{decode}
use Rattle.pin_records.proofs.HeldSlots.{holds-stored}
use Rattle.pin_steps.proofs.BreakParts.{signed-chunks, breaks-start, breaks-next, breaks-end}
use Rattle.pin_steps.proofs.breaks.break_keys.Goals as goal

pub loop-signed-init : goal.loop-signed-init
loop-signed-init c = breaks-start c.args.breaks.now (decode c.args.area.now) c.requires.0

pub break_key-requires-in-loop-signed : goal.break_key-requires-in-loop-signed
break_key-requires-in-loop-signed c = holds-stored c.loop-signed.invariant

pub loop-signed-preserved : goal.loop-signed-preserved
loop-signed-preserved c =
    let chunks = c.as_chunks.ensures in
    breaks-next c.args.breaks.now (decode c.args.area.now) c.loop-signed.signed-index c.loop-signed.invariant (omega (arith, chunks.front_len))
    (ap (λ (l : List (List ℕ)). get_or l c.loop-signed.signed-index []) (chunks.front ∙ signed-chunks c.args.breaks.now))
    c.break_key.ensures c.break_key-in-loop-signed.ensures

pub returns : goal.returns
returns c =
    breaks-end c.args.breaks.now (decode c.args.area.now) c.loop-signed.signed-index c.loop-signed.invariant
    (omega (arith, c.as_chunks.ensures.front_len, c.loop-signed-test.false))
