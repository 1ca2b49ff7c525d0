use Rattle.std.proofs.Common.{◌≢◌, ◌<◌, ℕ, length, ap, ◌∙◌, arith, below_more, get_or, take, get_or-set_other, get_or-set_same}
use lib.ListN.{length-take, length-set}
use lib.Seq.{get_or-take}
use Rattle.host_name.specs.Folding.{folded_byte}
use Rattle.host_name.proofs.Folded.{front, lowered}
use Rattle.host_name.proofs.folding.Folded.of.Goals as goal

pub loop-i-preserved : goal.loop-i-preserved
loop-i-preserved c =
    let i : ℕ = c.loop-i.i in
    let s = c.args.name.now in
    let below : i < length c.loop-i.folded-inside.bytes = omega (arith, length-take c.min-length.result s) in
    let read = get_or-take c.min-length.result s i 0 (omega (arith, length-take c.min-length.result s)) in (
      simp length-set c.loop-i.invariant.0,
      below_more _ _
          (λ k h. let ne : k ≢ i = omega arith in rw get_or-set_other (c.loop-i.invariant.1 k h))
          (rw get_or-set_same (c.to_ascii_lowercase.ensures.value ∙ lowered (get_or (take c.min-length.result s) i 0) ∙ ap folded_byte read)),
      c.loop-i.invariant.2,
    )

pub returns : goal.returns
returns c =
    ap (λ (n : ℕ). take n c.loop-i.folded-inside.bytes) c.loop-i.invariant.2
    ∙ front c.args.name.now c.loop-i.folded-inside.bytes 254 _ c.min-length.ensures (omega arith)
    (λ i l. c.loop-i.invariant.1 i (omega (arith, length-take c.min-length.result c.args.name.now)))
