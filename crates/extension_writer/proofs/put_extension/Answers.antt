-- Five pieces, each behind the one before it, are the extension's bytes.
use mathlib.Core.Path.{refl, ap, ◌∙◌}
use mathlib.Core.List.{List, [], ◌∷◌}
use Prim.Native.Nat.{ℕ}
use native.Mathlib.Omega.{arith}
use lib.ListN.{length}
use Rattle.octets.specs.Octets.{put, big_endian}
use Rattle.octets.proofs.Numbers.{big_endian-length}
use Rattle.tack_extension.proofs.Writing.{start, step}
use Rattle.extension_writer.proofs.ExtensionBytes.{joined}
use Rattle.extension_writer.proofs.put_extension.Goals as goal

pub returns : goal.returns
returns c =
    let t = c.args.tack.now in
    let b = c.args.breaks.now in
    let o = c.args.out.now in
    let w₁ = step (length t ∷ []) refl (start o) (omega arith) c.put_part-at_tack.ensures in
    let w₂ = step t refl w₁ (omega arith) c.put_part-at_length.ensures in
    let w₃ = step (big_endian 2 (length b)) (big_endian-length 2 (length b)) w₂ (omega arith) c.put_number-at_breaks.ensures in
    let w₄ = step b refl w₃ (omega arith) c.put_part-at_activation.ensures in
    let w₅ = step (c.args.activation ∷ []) refl w₄ (omega arith) c.put_part.ensures in
    let e = joined t b c.args.activation in
    (w₅.place ∙ ap (λ (l : List ℕ). length l) e, w₅.bytes ∙ ap (λ (l : List ℕ). put o 0 l) e)
