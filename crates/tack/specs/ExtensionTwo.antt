-- The answers of the C interface on an extension of edition two, field by field.
use Rattle.std.specs.Prelude.{ℕ, Bool, true, false, List}
use Rattle.tack_extension.specs.Answers.{alert_of_two}
use Rattle.std.proofs.Math.Option.{Option}
use Rattle.tack_extension_two.specs.ExtensionTwo.{PartsTwo, parse_two, parts_or_none}
use Rattle.tack_extension_two.specs.AnswersTwo.{reading_number, reading_flags}
use Rattle.tack.specs.declared.extension.ReadingAnswer.{ReadingAnswer}

unfoldable pub reading_two_answer : Option PartsTwo → ReadingAnswer
reading_two_answer r = record { number = reading_number r; alert = alert_of_two (reading_number r); activation = reading_flags r }

-- the first tack, or the second: what it is, and where it begins
abbrev pub tack_in : Bool → List ℕ → List ℕ
tack_in false s = (parts_or_none (parse_two s)).first
tack_in true s = (parts_or_none (parse_two s)).second

abbrev pub tack_start : Bool → ℕ
tack_start false = 2
tack_start true = 168
