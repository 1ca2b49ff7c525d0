-- The bytes of the target hash against those of the hash, where they are as many.
use mathlib.Core.Path.{sym, ◌∙◌}
use native.Mathlib.Omega.{arith}
use borrow.Author.Tests.{ne_eqb}
use Rattle.pin_model.proofs.TackShown.{hash-differs}
use Rattle.pin_refusals.proofs.Shown.{hash-whole}
use Rattle.pin_refusals.proofs.tack.targets.Goals as goal

pub returns-then-hash-eq32 : goal.returns-then-hash-eq32
returns-then-hash-eq32 c = c.same_at.ensures ∙ hash-whole _ (omega arith) _ _ c.target_hash.ensures c.if-hash-eq32.true

pub returns-else-hash-eq32 : goal.returns-else-hash-eq32
returns-else-hash-eq32 c = ne_eqb _ 32 c.if-hash-eq32.false ∙ sym (hash-differs _ (omega arith) _ c.if-hash-eq32.false)
