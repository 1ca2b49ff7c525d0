-- Each turn of the fold answers for one byte more.
use Rattle.std.proofs.Common.{◌≡◌, Bool, List, ℕ, true, ◌&&◌, refl, rules, tests, ap, ◌∙◌}
use Rattle.std.proofs.lemmas.Fn.{fold_over, fronts, slice_gives}
use Rattle.octets.specs.Octets.{all}
use Rattle.host_name.specs.Scan.{name_byte}
use Rattle.host_name.proofs.Steps.{all-snoc}
use Rattle.host_name.proofs.only_name_bytes.Goals as goal

pub returns : goal.returns
returns c =
    rw c.iter.ensures.rest at
    (fold_over fronts (λ y. y.now) _ (λ (xs : List ℕ) (r : Bool). r ≡ all name_byte xs) _
    (λ ys a x b f' h k. let e : b ≡ (a && name_byte x.now) = search (rules, tests) in (e ∙ ap (λ (t : Bool). t && name_byte x.now) h ∙ all-snoc name_byte ys x.now, refl))
    c.iter.result _ true c.fold.result (slice_gives c.iter.result) refl c.fold.ensures.ran)
