-- The name, the extension's field if there is one, and 53 bytes more.
use native.Mathlib.Omega.{arith}
use Rattle.pin_model.specs.Seen.{seen}
use Rattle.recorded_call.proofs.Bytes.{sizes}
use Rattle.call_writer.proofs.CallBytes.{call_length}
use Rattle.call_writer.proofs.call_length.Goals as goal

pub extension_size-requires : goal.extension_size-requires
extension_size-requires c = (sizes (seen c.args.connection.now) c.requires).extension

pub overflow_add-result : goal.overflow_add-result
overflow_add-result c =
    let s = sizes (seen c.args.connection.now) c.requires in
    omega (arith, s.name, s.extension, c.extension_size.ensures)

pub overflow_add-result-2 : goal.overflow_add-result-2
overflow_add-result-2 c =
    let s = sizes (seen c.args.connection.now) c.requires in
    omega (arith, s.name, s.extension, c.extension_size.ensures)

pub returns : goal.returns
returns c =
    let k = seen c.args.connection.now in
    omega (arith, call_length k, (sizes k c.requires).hash, c.extension_size.ensures)
