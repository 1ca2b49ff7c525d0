-- The answers of the C interface, field by field.
use Rattle.std.specs.Prelude.{ℕ, ◌+◌, cond, List, length, eqb}
use Rattle.std.specs.Prelude.{Result}
use Rattle.std.proofs.Math.Option.{Option}
use Rattle.tack_extension.specs.declared.answers.WritingError.{WritingError}
use Rattle.tack_extension.specs.Extension.{Parts, tack_part}
use Rattle.tack_extension.specs.Answers.{alert_of, reading_number, reading_activation, writing_number, writing_bytes}
use Rattle.tack.specs.declared.extension.ReadingAnswer.{ReadingAnswer}
use Rattle.tack.specs.declared.extension.Span.{Span}
use Rattle.tack.specs.declared.extension.WritingAnswer.{WritingAnswer}

unfoldable pub reading_answer : Option Parts → ReadingAnswer
reading_answer r = record { number = reading_number r; alert = alert_of (reading_number r); activation = reading_activation r }

unfoldable pub writing_answer : Result ℕ WritingError → WritingAnswer
writing_answer w = record { number = writing_number w; alert = alert_of (writing_number w); written = writing_bytes w }

-- where a part lies in the caller's bytes; an empty part is 0 and 0
unfoldable pub span_of : ℕ → ℕ → Span
span_of start size = cond (eqb size 0) (record { start = 0; length = 0 }) (record { start = start; length = size })

-- behind the tack, its length byte and the two length bytes of the break signatures
abbrev pub breaks_start : List ℕ → ℕ
breaks_start s = length (tack_part s) + 3
