-- An empty span is 0 and 0.
use borrow.Author.Tests.{eq-eqb, ne_eqb}
use Rattle.tack.specs.Extension.{span_of}
use Rattle.tack.proofs.extension.span_at.Goals as goal

pub returns-then-length-eq0 : goal.returns-then-length-eq0
unfolding span_of
returns-then-length-eq0 c = simp (eq-eqb _ _ c.if-length-eq0.true)

pub returns : goal.returns
unfolding span_of
returns c = simp (ne_eqb _ _ c.if-length-eq0.false)
