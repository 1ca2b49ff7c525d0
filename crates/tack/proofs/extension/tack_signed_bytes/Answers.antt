-- The writer's own contract, with its answer as numbers.
use mathlib.Core.Path.{ap, ◌∙◌}
use Rattle.tack.specs.Extension.{writing_answer}
use Rattle.tack.proofs.extension.tack_signed_bytes.Goals as goal

pub returns : goal.returns
returns c = record { answer = c.writing_answer.ensures ∙ ap writing_answer c.write_signed_bytes.ensures.answer; written = c.write_signed_bytes.ensures.written }
