-- The field of an extension that came is three bytes longer than the extension.
use native.Mathlib.Omega.{arith}
use Rattle.recorded_call.proofs.Bytes.{field-length}
use Rattle.call_writer.proofs.extension_size.Goals as goal

pub overflow_add-result : goal.overflow_add-result
overflow_add-result c =
    let r = rw c.in-Some.is at c.requires in
    omega (arith, r, field-length 5 c.in-Some.extension.now)

pub returns-in-Some : goal.returns-in-Some
returns-in-Some c = rw c.in-Some.is (omega (arith, field-length 5 c.in-Some.extension.now))
