-- Three pieces, each behind the one before it, are the field's bytes.
use mathlib.Core.Path.{refl}
use mathlib.Core.List.{[], ◌∷◌, ◌++◌}
use native.Mathlib.Omega.{arith}
use lib.ListN.{length}
use Rattle.octets.specs.Octets.{big_endian}
use Rattle.octets.proofs.Numbers.{big_endian-length}
use Rattle.octets.proofs.Runs.{behind}
use Rattle.recorded_call.proofs.Bytes.{field-length}
use Rattle.call_writer.proofs.put_field.Goals as goal

pub returns : goal.returns
returns c =
    let a = c.args in
    let v = a.value.now in
    let n = big_endian 2 (length v) in
    let e = behind a.out.now a.at (a.tag ∷ []) n (big_endian-length 2 (length v)) (omega arith) c.put_part-at_length.ensures c.put_number-at_value.ensures in
    let f = behind a.out.now a.at ((a.tag ∷ []) ++ n) v refl (omega (arith, big_endian-length 2 (length v))) e c.put_part.ensures in
    (omega (arith, f.0, field-length a.tag v), f.1)
