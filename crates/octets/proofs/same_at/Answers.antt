use Rattle.std.proofs.Common.{ℕ, sym, arith, ◌*◌, length}
use Rattle.octets.proofs.Words.{below-eight, words-agree, words-differ, last_word}
use Rattle.octets.proofs.same_at.Goals as goal

pub returns-then-word_at : goal.returns-then-word_at
returns-then-word_at c =
    sym (words-differ c.args.s.now c.args.at c.args.p.now (8 * c.loop-i.i) c.word_at.ensures c.word_at-in-loop-i.ensures (length c.args.p.now) (omega arith) (omega arith) c.if-word_at.true)

pub loop-i-preserved : goal.loop-i-preserved
loop-i-preserved c =
    let i : ℕ = 8 * c.loop-i.i in
    let agree = words-agree c.args.s.now c.args.at c.args.p.now i c.word_at.ensures c.word_at-in-loop-i.ensures (λ k. (c.shared_slice_known-1.given k).fits) (λ k. (c.shared_slice_known-2-1.given k).fits) (omega arith) (omega arith) c.if-word_at.false in
    λ j l. below-eight _ i agree c.loop-i.invariant j (omega arith)

pub returns : goal.returns
returns c =
    last_word c.args.s.now c.args.at c.args.p.now _ c.word_at-2.ensures c.word_at-3.ensures (λ k. (c.shared_slice_known-1.given k).fits) (λ k. (c.shared_slice_known-2-1.given k).fits) (omega arith) (omega arith) (λ j l. c.loop-i.invariant j (omega arith))
