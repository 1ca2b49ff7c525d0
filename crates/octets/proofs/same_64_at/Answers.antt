use Rattle.std.proofs.Common.{ℕ, List, sym, arith, ◌-◌, ◌*◌}
use Rattle.octets.proofs.Equal.{same-part}
use Rattle.octets.proofs.Words.{words-agree, words-differ, from-eight}
use Rattle.octets.proofs.same_64_at.Goals as goal

pub returns-then-word_at : goal.returns-then-word_at
returns-then-word_at c =
    sym (words-differ c.args.s.now c.args.at c.args.p.now (8 * (c.loop-i.i - 1)) c.word_at.ensures c.word_at-in-loop-i.ensures 64 (omega arith) (omega arith) c.if-word_at.true)

pub loop-i-preserved : goal.loop-i-preserved
loop-i-preserved c =
    let i : ℕ = 8 * (c.loop-i.i - 1) in
    let agree = words-agree c.args.s.now c.args.at c.args.p.now i c.word_at.ensures c.word_at-in-loop-i.ensures (λ k. (c.type_inv.s k).fits) c.fits-p (omega arith) (omega arith) c.if-word_at.false in
    from-eight _ i (λ j l m. agree j l) (λ j l. c.loop-i.invariant j (omega arith))

pub returns : goal.returns
returns c =
    let s : List ℕ = c.args.s.now in
    let p : List ℕ = c.args.p.now in
    let e = same-part s c.args.at p (omega arith) (λ j l. c.loop-i.invariant j (omega arith) (omega arith)) in
    sym (rw c.told-p at e)
