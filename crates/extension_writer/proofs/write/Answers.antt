-- The three answers, each with what it leaves in the output, by the tests before it.
use mathlib.Core.Path.{sym, ap, ◌∙◌}
use native.Mathlib.Omega.{arith}
use lib.ListN.{length}
use Rattle.tack_extension.specs.Extension.{parts, good, bytes_of}
use Rattle.std.specs.Prelude.{Ok}
use Rattle.tack_extension.proofs.Writing.{bad-part, no-space, written}
use Rattle.extension_writer.proofs.ExtensionBytes.{bytes-length, good-sizes}
use Rattle.extension_writer.proofs.write.Goals as goal

pub returns-then-not-good_parts : goal.returns-then-not-good_parts
returns-then-not-good_parts c =
    let a = c.args in
    let p = parts a.tack.now a.breaks.now a.activation in
    let w = bad-part (good p) (bytes_of p) a.out.now (sym c.if-not-good_parts.ensures) in
    record { answer = w.0; written = w.1 }

pub overflow_add-t-2 : goal.overflow_add-t-2
overflow_add-t-2 c =
    let a = c.args in
    omega (arith, good-sizes (length a.tack.now) (length a.breaks.now) a.activation (sym c.if-not-good_parts.ensures))

pub returns-then-out-t : goal.returns-then-out-t
returns-then-out-t c =
    let a = c.args in
    let p = parts a.tack.now a.breaks.now a.activation in
    let w = no-space (good p) (bytes_of p) a.out.now (sym c.if-not-good_parts.ensures)
    (omega (arith, bytes-length p)) in
    record { answer = w.0; written = w.1 }

pub put_extension-requires : goal.put_extension-requires
put_extension-requires c =
    let a = c.args in
    let w = good-sizes (length a.tack.now) (length a.breaks.now) a.activation (sym c.if-not-good_parts.ensures) in
    (omega arith, omega arith, c.if-out-t.false)

pub returns : goal.returns
returns c =
    let e = c.put_extension.ensures in
    let a = c.args in
    let p = parts a.tack.now a.breaks.now a.activation in
    let w = written (good p) (bytes_of p) a.out.now (sym c.if-not-good_parts.ensures) (omega (arith, bytes-length p, c.if-out-t.false)) in
    record { answer = ap Ok e.0 ∙ w.0; written = e.1 ∙ w.1 }
