-- Where an extension came its field is put, and else nothing.
use mathlib.Core.Path.{sym}
use native.Mathlib.Omega.{arith}
use Rattle.octets.proofs.Parts.{put-none}
use Rattle.recorded_call.proofs.Bytes.{field-length}
use Rattle.call_writer.proofs.put_extension.Goals as goal

pub put_field-requires : goal.put_field-requires
put_field-requires c =
    let r = rw c.in-Some.is at c.requires in
    let full = field-length 5 c.in-Some.extension.now in
    (omega arith, omega arith)

pub returns-in-Some : goal.returns-in-Some
returns-in-Some c =
    rw c.in-Some.is (omega (arith, field-length 5 c.in-Some.extension.now, c.put_field.ensures.0), c.put_field.ensures.1)

pub returns-in-None : goal.returns-in-None
returns-in-None c = rw c.in-None.is (omega arith, sym (put-none c.args.out.now c.args.at))
