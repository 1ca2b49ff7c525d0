-- The 128 bytes at the place of a number are the break signature of that number.
use Rattle.std.proofs.Common.{◌*◌, sym, ◌∙◌}
use Rattle.std.specs.Array.{IsFirstChunk}
use Rattle.octets.proofs.Parts.{first-lent}
use Rattle.tack_extension.proofs.BreakSignatures.{break-at}
use Rattle.tack_extension.proofs.fields.break_signature.Goals as goal

pub returns : goal.returns
returns c =
    let a = c.args in
    let chunk : IsFirstChunk _ c.unwrap.result.now 128 = rw c.unwrap.ensures at c.first_chunk.ensures.cases in
    chunk.same ∙ first-lent a.breaks.now (128 * a.i) 128 ∙ sym (break-at a.breaks.now a.i c.requires)
