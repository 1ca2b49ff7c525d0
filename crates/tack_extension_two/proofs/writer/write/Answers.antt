-- The three answers, each with what it leaves in the output, by the tests before it.
use mathlib.Core.Path.{◌≡◌, sym, ap, ◌∙◌}
use mathlib.Core.Bool.{false}
use native.Mathlib.Omega.{arith}
use Rattle.std.specs.Prelude.{Ok}
use Rattle.tack_extension.proofs.Writing.{bad-part, no-space, written}
use Rattle.tack_extension_two.specs.ExtensionTwo.{parts_in, good_two, bytes_of_two}
use Rattle.tack_extension_two.proofs.GoodTwo.{in-good, bad-tacks, bad-flags}
use Rattle.tack_extension_two.proofs.WritingTwo.{bytes-length-two}
use Rattle.tack_extension_two.proofs.writer.write.Goals as goal
use Rattle.tack_extension_two.proofs.writer.write.Goals.{then-not-tacks_length-via-then-not-tacks_length, then-not-tacks_length-via-else-not-tacks_length+then-not-flags_allowed}

pub returns-then-not-tacks_length : goal.returns-then-not-tacks_length
returns-then-not-tacks_length c =
    let a = c.args in
    let t = a.tacks.now in
    let p = parts_in t a.flags in
    let bad : good_two p ≡ false = elim c.then-not-tacks_length.branch [
      | then-not-tacks_length-via-then-not-tacks_length w ↦ bad-tacks t a.flags (sym w.if-not-tacks_length.ensures)
      | then-not-tacks_length-via-else-not-tacks_length+then-not-flags_allowed w ↦ bad-flags t a.flags (sym w.if-not-flags_allowed.ensures)
    ] in
    let w = bad-part (good_two p) (bytes_of_two p) a.out.now bad in
    record { answer = w.0; written = w.1 }

pub returns-then-out-n : goal.returns-then-out-n
returns-then-out-n c =
    let a = c.args in
    let t = a.tacks.now in
    let p = parts_in t a.flags in
    let w = no-space (good_two p) (bytes_of_two p) a.out.now
    (in-good t a.flags (sym c.if-not-tacks_length.ensures) (sym c.if-not-flags_allowed.ensures))
    (omega (arith, bytes-length-two t a.flags)) in
    record { answer = w.0; written = w.1 }

pub returns : goal.returns
returns c =
    let e = c.put_extension.ensures in
    let a = c.args in
    let t = a.tacks.now in
    let p = parts_in t a.flags in
    let w =
    written (good_two p) (bytes_of_two p) a.out.now
    (in-good t a.flags (sym c.if-not-tacks_length.ensures) (sym c.if-not-flags_allowed.ensures))
    (omega (arith, bytes-length-two t a.flags, c.if-out-n.false)) in
    record { answer = ap Ok e.0 ∙ w.0; written = e.1 ∙ w.1 }
