-- Each turn of the fold answers for one byte more.
use Rattle.std.proofs.Common.{◌≡◌, Bool, List, ℕ, ◌+◌, true, ◌&&◌, get_or, refl, rules, tests, ap, ◌∙◌, arith}
use Rattle.std.proofs.iter.Yields.{nat_range_steps}
use Rattle.std.proofs.lemmas.Fn.{fold_over}
use Rattle.std.proofs.lemmas.Iterator.{YieldsList-from_range}
use Rattle.octets.specs.Octets.{all}
use Rattle.host_name.proofs.Steps.{all-snoc}
use Rattle.padded_name.specs.Neighbours.{neighbours}
use Rattle.padded_name.proofs.PaddedNames.{all-range}
use Rattle.padded_name.proofs.all_neighbours.Goals as goal

pub returns : goal.returns
returns g c =
    let p = λ (i : ℕ). neighbours (get_or c.args.padded.now i 0) (get_or c.args.padded.now (i + 1) 0) in
    fold_over nat_range_steps (λ i. i) _ (λ (xs : List ℕ) (r : Bool). r ≡ all p xs) _
    (λ ys a x b f' h k. let e : b ≡ (a && p x) = search (rules, tests) in (e ∙ ap (λ (t : Bool). t && p x) h ∙ all-snoc p ys x, search (rules, tests)))
    _ _ true c.fold.result (YieldsList-from_range 0 g.row.M g.row.M refl (omega arith)).runs refl c.fold.ensures.ran
    ∙ all-range p g.row.M
