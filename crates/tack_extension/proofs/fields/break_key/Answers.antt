use Rattle.std.specs.Array.{IsFirstChunk}
use Rattle.octets.specs.Octets.{part}
use Rattle.tack_extension.specs.Tack.{break_key}
use Rattle.tack_extension.proofs.fields.break_key.Goals as goal

pub returns : goal.returns
unfolding part break_key
returns c =
    let chunk : IsFirstChunk _ c.unwrap.result.now 64 = rw c.unwrap.ensures at c.first_chunk.ensures.cases in
    chunk.same
