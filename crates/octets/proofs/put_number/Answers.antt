use Rattle.std.proofs.Common.{List, ℕ, ap, ◌∙◌, arith, take, drop, ◌-◌}
use Rattle.octets.proofs.Numbers.{last-bytes, big_endian-length}
use Rattle.octets.proofs.put_number.Goals as goal

pub returns : goal.returns
returns g c =
    let n = g.row.WIDTH in
    let its = ap (λ (l : List ℕ). take (4 - (4 - n)) (drop (4 - n) l)) c.to_be_bytes-bytes.ensures ∙ last-bytes n c.args.v c.requires.0 in
    let wrote = rw its at c.put_part.ensures in
    (omega (arith, wrote.0, big_endian-length n c.args.v), wrote.1)
