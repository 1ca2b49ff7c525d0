-- The first dot of the bytes from `at` on, or their end.
use Rattle.std.proofs.Common.{◌≡◌, List, ℕ, ◌-◌, drop, take, length, ap, ◌∙◌, arith, rules, tests}
use Rattle.std.specs.Prelude.{eqb}
use lib.ListN.{length-drop}
use lib.Seq.{take_all}
use Rattle.std.proofs.lemmas.Iterator.{YieldsList-from_slice}
use Rattle.std.proofs.lemmas.Iterator.Search.{position_from_yields_List}
use Rattle.host_name.specs.Scan.{to_dot}
use Rattle.host_name.proofs.Dots.{first-dot, to_dot-short}
use Rattle.host_name.proofs.label_end.Goals as goal

pub returns : goal.returns
returns c =
    let rest : List ℕ = drop c.args.at c.args.name.now in
    let lent : List ℕ = take (256 - c.args.at) rest in
    let all : lent ≡ rest = take_all (256 - c.args.at) rest (omega (arith, length-drop c.args.at c.args.name.now)) in
    let found = position_from_yields_List (λ b. eqb b 46) _ _ c.position.result c.position.ensures.ran (YieldsList-from_slice lent c.iter.ensures.rest) (λ x b q k. search (rules, tests)) in
    let end : c.unwrap_or.result ≡ length (to_dot rest) =
    c.unwrap_or.ensures ∙ first-dot lent c.position.result found ∙ ap (λ (l : List ℕ). length (to_dot l)) all in
    (omega (arith, to_dot-short rest, length-drop c.args.at c.args.name.now), omega arith)
