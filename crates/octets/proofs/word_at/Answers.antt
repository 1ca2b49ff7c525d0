use Rattle.std.proofs.Common.{ap, arith, refl, take, ◌∙◌}
use lib.Seq.{take_all}
use Rattle.std.specs.Array.{IsFirstChunk}
use Rattle.octets.specs.Words.{word}
use Rattle.octets.proofs.Parts.{part-lent, part_length}
use Rattle.octets.proofs.Words.{read_word}
use Rattle.octets.proofs.word_at.Goals as goal

pub returns : goal.returns
returns c =
    let s = c.args.s.now in
    let chunk : IsFirstChunk _ c.unwrap.result.now 8 = rw c.unwrap.ensures at c.first_chunk.ensures.cases in
    let size = part_length s c.args.at 8 c.requires in
    let lent = part-lent s c.args.at 8 _ refl c.requires in
    let its = chunk.same ∙ ap (take 8) lent.0 ∙ take_all 8 _ (omega arith) in
    c.from_le_bytes.ensures ∙ read_word _ (rw its size) ∙ ap word its
