-- The three answers, each with what it leaves in the output, by the tests before it.
use mathlib.Core.Path.{sym, ap, ◌∙◌}
use native.Mathlib.Omega.{arith}
use Rattle.std.specs.Prelude.{Ok}
use Rattle.tack_extension.proofs.Writing.{bad-part, no-space, written}
use Rattle.pin_model.specs.Seen.{seen}
use Rattle.recorded_call.specs.RecordedCall.{call_bytes, recordable}
use Rattle.call_writer.proofs.write_call.Goals as goal

pub returns-then-not-is_recordable : goal.returns-then-not-is_recordable
returns-then-not-is_recordable c =
    let k = seen c.args.connection.now in
    let w = bad-part (recordable k) (call_bytes k) c.args.out.now (sym c.if-not-is_recordable.ensures) in
    record { answer = w.0; written = w.1 }

pub returns-then-out-call_length : goal.returns-then-out-call_length
returns-then-out-call_length c =
    let k = seen c.args.connection.now in
    let w = no-space (recordable k) (call_bytes k) c.args.out.now (sym c.if-not-is_recordable.ensures) (omega (arith, c.call_length.ensures)) in
    record { answer = w.0; written = w.1 }

pub returns : goal.returns
returns c =
    let k = seen c.args.connection.now in
    let e = c.put_call.ensures in
    let w = written (recordable k) (call_bytes k) c.args.out.now (sym c.if-not-is_recordable.ensures) (omega (arith, c.call_length.ensures, c.if-out-call_length.false)) in
    record { answer = ap Ok e.0 ∙ w.0; written = e.1 ∙ w.1 }
