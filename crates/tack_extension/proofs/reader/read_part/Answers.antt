use Rattle.std.proofs.Common.{◌≡◌, ◌≤◌, true, length, take, sym, ap, ◌∙◌, arith}
use lib.Seq.{length-take-le}
use Rattle.octets.specs.Octets.{number}
use Rattle.octets.proofs.Numbers.{read-two}
use Rattle.tack_extension.proofs.Reading.{cut-split, no-two-bytes, two_bytes}
use Rattle.tack_extension.proofs.reader.read_part.Goals as goal

pub returns-in_default : goal.returns-in_default
returns-in_default c = no-two-bytes _ c.args.s.now c.in_default.ensures.cases

pub returns : goal.returns
returns c =
    let s = c.args.s.now in
    let its = c.in-Some.ensures.cases in
    let n = c.from.result in
    let fits : 2 ≤ length s = omega (arith, its.2) in
    let size : length c.in-Some.length.now ≡ 2 = rw its.0 (length-take-le 2 s fits) in
    let e : n ≡ number (take 2 s) = c.from.ensures ∙ c.from_be_bytes.ensures ∙ read-two _ size ∙ ap number its.0 in
    rw its.1 at (cut-split c.split_at_checked.result _ n c.split_at_checked.ensures.cases) ∙ sym (two_bytes (λ m. true) s n fits e)
