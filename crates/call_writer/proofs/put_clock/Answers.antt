-- The clock's four bytes are the field's value.
use mathlib.Core.Path.{◌≡◌, ◌∙◌}
use native.Mathlib.Omega.{arith}
use Rattle.octets.specs.Octets.{big_endian}
use Rattle.octets.proofs.Numbers.{big_endian-length, last-bytes}
use Rattle.call_writer.proofs.put_clock.Goals as goal

pub put_field-requires : goal.put_field-requires
put_field-requires c = (omega arith, omega arith)

pub returns : goal.returns
returns c =
    let bytes : c.to_be_bytes.result ≡ big_endian 4 c.args.clock = c.to_be_bytes.ensures ∙ last-bytes 4 c.args.clock (omega arith) in
    let e = rw bytes at c.put_field.ensures in
    (omega (arith, e.0, big_endian-length 4 c.args.clock), e.1)
