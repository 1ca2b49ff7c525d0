use Rattle.std.proofs.Common.{◌≡◌, List, ℕ, refl, sym, ap, ◌∙◌, arith, length, ◌-◌, [], ◌∷◌}
use borrow.Rule.Slice.PartMut.{put_mid}
use Rattle.std.specs.Int.{w32, from_be_bytes}
use Rattle.octets.specs.Octets.{part}
use Rattle.octets.proofs.Parts.{part-lent, part_length}
use Rattle.octets.proofs.Numbers.{read-number}
use Rattle.octets.proofs.number_at.Goals as goal

pub returns : goal.returns
returns g c =
    let n = g.row.WIDTH in
    let p : List ℕ = part c.args.s.now c.args.at n in
    let size : length p ≡ n = part_length c.args.s.now c.args.at n c.requires.1 in
    let its = c.copy_from_slice.ensures.after ∙ (part-lent c.args.s.now c.args.at n _ refl c.requires.1).0 in
    c.from_be_bytes.ensures
    ∙ ap (λ (l : List ℕ). from_be_bytes w32 (put_mid (4 - n) (4 - (4 - n)) (0 ∷ 0 ∷ 0 ∷ 0 ∷ []) l)) its
    ∙ ap (λ (m : ℕ). from_be_bytes w32 (put_mid (4 - m) (4 - (4 - m)) (0 ∷ 0 ∷ 0 ∷ 0 ∷ []) p)) (sym size)
    ∙ read-number p (omega arith)
