-- The bytes behind the first n of a part are the part from n on.
use native.Mathlib.Omega.{arith}
use mathlib.Core.Path.{◌≡◌, sym, ap, ◌∙◌}
use Prim.Native.Nat.{ℕ, ◌+◌, ◌-◌}
use mathlib.Core.List.{List}
use lib.ListN.{length, take, drop, length-drop}
use lib.Seq.{length-take-le, drop-drop}
use Rattle.std.proofs.Common.{rules}
use Rattle.std.proofs.lemmas.List.{drop-take}
use Rattle.replay.proofs.input.Unplayed.pass.Goals as goal

pub returns : goal.returns
returns c =
    let b = c.self.inside.buffer in
    let from = c.self.inside.from in
    let n = c.args.n in
    let left = c.self.inside.to - from in
    let long : length b ≡ 65536 = search rules in
    let size : length c.args.self.now ≡ left =
    ap (λ (l : List ℕ). length l) (sym c.self.view_is) ∙ length-take-le left (drop from b) (omega (arith, length-drop from b)) in
    let same : c.self.inside.to - (from + n) ≡ left - n = omega arith in
    let whole : n + (left - n) ≡ left = omega arith in
    ap (λ (m : ℕ). take m (drop (from + n) b)) same
    ∙ ap (take (left - n)) (sym (drop-drop n from b))
    ∙ sym (drop-take n (left - n) (drop from b))
    ∙ ap (λ (m : ℕ). drop n (take m (drop from b))) whole
    ∙ ap (drop n) c.self.view_is
