use Rattle.std.proofs.Common.{◌∙◌, arith}
use Rattle.std.specs.Array.{IsFirstChunk}
use lib.Seq.{take-take}
use Rattle.octets.specs.Octets.{part}
use Rattle.tack_extension.specs.Tack.{target_hash}
use Rattle.tack_extension.proofs.fields.target_hash.Goals as goal

pub returns : goal.returns
unfolding part target_hash
returns c =
    let chunk : IsFirstChunk _ c.unwrap.result.now 32 = rw c.unwrap.ensures at c.first_chunk.ensures.cases in
    chunk.same ∙ take-take 32 96 _ (omega arith)
