-- The three answers by the tests before them; two pieces, one behind the other, are the bytes to be signed.
use mathlib.Core.Path.{refl, ap, ◌∙◌}
use mathlib.Core.List.{[], ◌∷◌}
use native.Mathlib.Omega.{arith}
use lib.ListN.{length, take}
use lib.Dec.{eqb}
use borrow.Author.Tests.{eq-eqb, ne_eqb}
use Rattle.tack_extension.specs.Tack.{signed_bytes}
use Rattle.std.specs.Prelude.{Ok}
use Rattle.tack_extension.proofs.Writing.{start, step, bad-part, no-space, written}
use Rattle.extension_writer.proofs.ExtensionBytes.{signed-length}
use Rattle.extension_writer.proofs.write_signed_bytes.Goals as goal

pub returns-then-tack-ne166 : goal.returns-then-tack-ne166
returns-then-tack-ne166 c =
    let a = c.args in
    let w = bad-part (eqb (length a.tack.now) 166) (signed_bytes a.tack.now) a.out.now (ne_eqb _ _ c.if-tack-ne166.true) in
    record { answer = w.0; written = w.1 }

pub returns-then-out-lt110 : goal.returns-then-out-lt110
returns-then-out-lt110 c =
    let a = c.args in
    let w = no-space (eqb (length a.tack.now) 166) (signed_bytes a.tack.now) a.out.now (eq-eqb _ _ c.if-tack-ne166.false)
    (omega (arith, signed-length a.tack.now c.if-tack-ne166.false)) in
    record { answer = w.0; written = w.1 }

pub returns : goal.returns
unfolding signed_bytes
returns c =
    let a = c.args in
    let t = a.tack.now in
    let w₁ = step (116 ∷ 97 ∷ 99 ∷ 107 ∷ 95 ∷ 115 ∷ 105 ∷ 103 ∷ []) refl (start a.out.now) (omega arith) c.put_part-at.ensures in
    let w₂ = step (take 102 t) refl w₁ (omega arith) c.put_part.ensures in
    let w = written (eqb (length t) 166) (signed_bytes t) a.out.now (eq-eqb _ _ c.if-tack-ne166.false) (omega (arith, signed-length t c.if-tack-ne166.false)) in
    record { answer = ap Ok w₂.place ∙ w.0; written = w₂.bytes ∙ w.1 }
