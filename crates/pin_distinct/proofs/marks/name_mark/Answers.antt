use Rattle.std.proofs.Common.{◌∙◌, arith}
use Rattle.pin_distinct.proofs.Hashing.{hash-none, hash-more, mark-end}
use Rattle.pin_distinct.proofs.marks.name_mark.Goals as goal

pub loop-i-init : goal.loop-i-init
loop-i-init c = hash-none _

pub loop-i-preserved : goal.loop-i-preserved
loop-i-preserved c = c.with_word-h.ensures ∙ hash-more _ _ _ _ c.loop-i.invariant c.word_at.ensures

pub returns : goal.returns
returns c = c.mark_of.ensures ∙ mark-end c.args.s.now (omega arith) (omega arith) c.requires _ _ _ c.padded_name-padded.ensures c.loop-i.invariant (omega arith)
