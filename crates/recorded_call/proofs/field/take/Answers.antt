-- Each answer by the tests before it.
use mathlib.Core.Path.{sym}
use native.Mathlib.Omega.{arith}
use Rattle.std.proofs.lemmas.Bool.Decides.{nat_tests}
use Rattle.std.proofs.lemmas.Grind.{common_steps}
use Rattle.recorded_call.proofs.Fields.{field-short, field-long}
use Rattle.recorded_call.proofs.field.take.Goals as goal
use Rattle.recorded_call.proofs.field.take.Goals.{then-first-tag-via-then-first-tag, then-first-tag-via-else-first-tag+then-n-least, then-first-tag-via-else-first-tag+else-n-least+then-most-n}

pub returns-in_default-clause-value : goal.returns-in_default-clause-value
returns-in_default-clause-value c = let a = c.args in sym (field-short a.tag a.least a.most a.s.now (omega (arith, c.in_default.len_below)))

pub returns-then-first-tag-clause-value : goal.returns-then-first-tag-clause-value
returns-then-first-tag-clause-value c =
    let a = c.args in
    rw (field-long a.tag a.least a.most a.s.now _ c.in-len3-up.len_at_least c.number_at-n.ensures)
    (elim c.then-first-tag.branch [ then-first-tag-via-then-first-tag w ↦ grind (arith, nat_tests) | then-first-tag-via-else-first-tag+then-n-least w ↦ grind (arith, nat_tests) | then-first-tag-via-else-first-tag+else-n-least+then-most-n w ↦ grind (arith, nat_tests) ])

pub returns-in_default-split_at_checked-clause-value : goal.returns-in_default-split_at_checked-clause-value
returns-in_default-split_at_checked-clause-value c =
    let a = c.args in
    rw (field-long a.tag a.least a.most a.s.now _ c.in-len3-up.len_at_least c.number_at-n.ensures) (grind (arith, nat_tests, common_steps))

pub returns-clause-value : goal.returns-clause-value
returns-clause-value c =
    let a = c.args in
    rw (field-long a.tag a.least a.most a.s.now _ c.in-len3-up.len_at_least c.number_at-n.ensures) (grind (arith, nat_tests, common_steps))
