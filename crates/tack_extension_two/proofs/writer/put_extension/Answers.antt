-- Three pieces, each behind the one before it, are the extension's bytes.
use mathlib.Core.Path.{refl, ap, ◌∙◌}
use mathlib.Core.List.{List, [], ◌∷◌}
use Prim.Native.Nat.{ℕ}
use native.Mathlib.Omega.{arith}
use lib.ListN.{length}
use Rattle.octets.specs.Octets.{put, big_endian}
use Rattle.octets.proofs.Numbers.{big_endian-length}
use Rattle.tack_extension.proofs.Writing.{start, step}
use Rattle.tack_extension_two.proofs.WritingTwo.{joined-two}
use Rattle.tack_extension_two.proofs.writer.put_extension.Goals as goal

pub returns : goal.returns
returns c =
    let t = c.args.tacks.now in
    let o = c.args.out.now in
    let n = length t in
    let w₁ = step (big_endian 2 n) (big_endian-length 2 n) (start o) (omega arith) c.put_number-at_tacks.ensures in
    let w₂ = step t refl w₁ (omega arith) c.put_part-at_flags.ensures in
    let w₃ = step (c.args.flags ∷ []) refl w₂ (omega arith) c.put_part.ensures in
    let e = joined-two t c.args.flags in
    (w₃.place ∙ ap (λ (l : List ℕ). length l) e, w₃.bytes ∙ ap (λ (l : List ℕ). put o 0 l) e)
