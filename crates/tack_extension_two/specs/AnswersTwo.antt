-- What the reader of edition two answers, by document 02, Q-3, and document 01, 'Extension bytes'. What the writer answers is as in
-- edition one.
use Rattle.std.specs.Prelude.{ℕ, Option, Some, None}
use Rattle.std.proofs.Math.Option.{Option as Perhaps, none, some}
use Rattle.tack_extension.specs.Answers.{tack_bytes}
use Rattle.tack_extension_two.specs.ExtensionTwo.{PartsTwo, parts_two}
use Rattle.tack_extension_two.specs.declared.reader.Tacks.{Tacks}

-- what the reader gave, as parts
abbrev pub parts_read_two : Option Tacks → Perhaps PartsTwo
parts_read_two (Some t) = some (parts_two (tack_bytes t.first) (tack_bytes t.second) t.flags)
parts_read_two None = none

-- 'The reader answers with 9 or 16 and', in place of the activation, the flags
abbrev pub reading_number : Perhaps PartsTwo → ℕ
reading_number (some p) = 9
reading_number none = 16

abbrev pub reading_flags : Perhaps PartsTwo → ℕ
reading_flags (some p) = p.flags
reading_flags none = 0
