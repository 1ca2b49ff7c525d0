-- What the reader and the writers answer, by document 01, 'Extension bytes' and 'What each number says', and the alerts of document
-- 02, Q-3.
use Rattle.std.specs.Prelude.{ℕ, Bool, cond, ◌&&◌, ◌||◌, List, [], ◌∷◌, length, leb, eqb, Option, Some, None, Result, Ok, Err}
use Rattle.std.proofs.Math.Option.{Option as Perhaps, none, some}
use Rattle.std.specs.Borrow.{Bor}
use Rattle.octets.specs.Octets.{put}
use Rattle.tack_extension.specs.Extension.{Parts, parts}
use Rattle.tack_extension.specs.declared.reader.Extension.{Extension}
use Rattle.tack_extension.specs.declared.answers.WritingError.{WritingError}
use Rattle.tack_extension.specs.declared.answers.WritingError.TheVariants.{BadPart, NoSpace}

-- 'What each number says': the numbers that carry an alert; every other carries 0
abbrev pub alerts : List (ℕ × ℕ)
alerts =
    (2, 49) ∷ (16, 50) ∷ (17, 51) ∷ (18, 51) ∷ (19, 50) ∷ (20, 47) ∷ (21, 51) ∷ (22, 44) ∷ (23, 45) ∷ []

abbrev pub alert_in : List (ℕ × ℕ) → ℕ → ℕ
alert_in [] n = 0
alert_in (row ∷ rows) n = cond (eqb n row.0) row.1 (alert_in rows n)

unfoldable pub alert_of : ℕ → ℕ
alert_of n = alert_in alerts n

-- 'In this edition 16, 18-21 and 24 carry alert 42' (document 02, Q-3), bad_certificate in TLS; the others are as before
abbrev pub bad_certificate : ℕ → Bool
bad_certificate n = (eqb n 16 || (leb 18 n && leb n 21)) || eqb n 24

unfoldable pub alert_of_two : ℕ → ℕ
alert_of_two n = cond (bad_certificate n) 42 (alert_of n)

-- the tack's bytes, none where there is no tack
abbrev pub tack_bytes : Option (Bor (List ℕ)) → List ℕ
tack_bytes (Some tack) = tack.now
tack_bytes None = []

-- what the reader gave, as parts
abbrev pub parts_read : Option Extension → Perhaps Parts
parts_read (Some e) = some (parts (tack_bytes e.tack) e.breaks.now e.activation)
parts_read None = none

-- 'The reader answers with 9 or 16 and the activation'
abbrev pub reading_number : Perhaps Parts → ℕ
reading_number (some p) = 9
reading_number none = 16

abbrev pub reading_activation : Perhaps Parts → ℕ
reading_activation (some p) = p.activation
reading_activation none = 0

-- 'Wrong part lengths or activation give 25, then too small an output gives 26; both leave the output untouched': the
-- answer and the output, by whether the parts are good, the bytes to write and the output as it came
unfoldable pub writing : Bool → List ℕ → List ℕ → Result ℕ WritingError
writing is_good bytes out =
    cond is_good (cond (leb (length bytes) (length out)) (Ok (length bytes)) (Err NoSpace)) (Err BadPart)

unfoldable pub output : Bool → List ℕ → List ℕ → List ℕ
output is_good bytes out = cond (is_good && leb (length bytes) (length out)) (put out 0 bytes) out

abbrev pub writing_number : Result ℕ WritingError → ℕ
writing_number (Ok n) = 9
writing_number (Err BadPart) = 25
writing_number (Err NoSpace) = 26

abbrev pub writing_bytes : Result ℕ WritingError → ℕ
writing_bytes (Ok n) = n
writing_bytes (Err e) = 0
