-- The report's lines: how long they are, and that their fields written one behind another are the line.
use mathlib.Core.Path.{◌≡◌, refl}
use mathlib.Core.Bool.{Bool, true, false, cond}
use mathlib.Core.List.{List, [], ◌∷◌, ◌++◌, append_assoc}
use Prim.Native.Nat.{ℕ, ◌+◌, ◌≤◌, ◌<◌}
use native.Mathlib.Omega.{arith}
use lib.Dec.{ltb, eqb}
use lib.ListN.{length, length-append}
use borrow.Author.Tests.{ltb-true}
use Rattle.octets.specs.Octets.{all}
use Rattle.octets.proofs.Tests.{by_test, and_left, and_right}
use Rattle.tack_extension.specs.Answers.{alerts, alert_in, alert_of}
use Rattle.night_report.specs.Report.{decimal, line_of, total_line}
use Rattle.night_report.proofs.Decimal.{decimal-length, length-u64, length-u8}
use Rattle.night_report.proofs.Pieces.{Wrote, behind, four-behind}

-- a number with one byte behind it
abbrev pub field : ℕ → ℕ → List ℕ
field n b = decimal n ++ (b ∷ [])

field-length : (n b : ℕ) → length (field n b) ≡ length (decimal n) + 1
field-length n b = length-append (decimal n) (b ∷ [])

pub field-u64 : (n b : ℕ) → n < 18446744073709551616 → length (field n b) ≤ 21
field-u64 n b h = omega (arith, field-length n b, length-u64 n h)

field-u8 : (n b : ℕ) → n < 256 → length (field n b) ≤ 4
field-u8 n b h = omega (arith, field-length n b, length-u8 n h)

field-digit : (n b : ℕ) → n < 10 → length (field n b) ≤ 2
field-digit n b h = omega (arith, field-length n b, decimal-length 1 n h (omega arith))

alert-in : (rows : List (ℕ × ℕ)) (n : ℕ) → all (λ r. ltb r.1 256) rows ≡ true → alert_in rows n < 256
alert-in [] n h = omega arith
alert-in (row ∷ rows) n h =
    by_test (eqb n row.0)
    (λ e. simp e (ltb-true row.1 256 (and_left (ltb row.1 256) (all (λ r. ltb r.1 256) rows) h)))
    (λ e. simp e (alert-in rows n (and_right (ltb row.1 256) (all (λ r. ltb r.1 256) rows) h)))

alert-small : (n : ℕ) → alert_of n < 256
unfolding alert_of
alert-small n = alert-in alerts n refl

flag_small : (f : Bool) → cond f 1 0 < 10
flag_small true = omega arith
flag_small false = omega arith

four-length : (a b c d : List ℕ) → length (((a ++ b) ++ c) ++ d) ≡ length a + length b + length c + length d
four-length a b c d = simp length-append

-- the fields of a call's line are no longer than their numbers may be
abbrev pub Short : ℕ → ℕ → ℕ → ℕ → Type 0
Short index number alert flag =
    (length (field index 32) ≤ 21) × (length (field number 32) ≤ 4) × (length (field alert 32) ≤ 4) × (length (field flag 10) ≤ 2)

-- a call's line by its fields
module _ (index number : ℕ) (no_room : Bool) {alert flag : ℕ} (a : alert ≡ alert_of number) (f : flag ≡ cond no_room 1 0) where
  line-fields : ((field index 32 ++ field number 32) ++ field alert 32) ++ field flag 10 ≡ line_of index number (alert_of number) no_room
  unfolding line_of
  line-fields = rw (a, f) (simp append_assoc)

  pub short : index < 18446744073709551616 → number < 256 → Short index number alert flag
  short wide narrow = (
    field-u64 index 32 wide,
    field-u8 number 32 narrow,
    field-u8 alert 32 (rw a (alert-small number)),
    field-digit flag 10 (rw f (flag_small no_room)),
  )

  fields-length : index < 18446744073709551616 → number < 256 → length (((field index 32 ++ field number 32) ++ field alert 32) ++ field flag 10) ≤ 31
  fields-length wide narrow =
      rw (four-length (field index 32) (field number 32) (field alert 32) (field flag 10)) (omega (arith, short wide narrow))

  pub line-written : (b : List ℕ) (at : ℕ) {now₁ now₂ now₃ now₄ : List ℕ} {at₁ at₂ at₃ at₄ : ℕ}
      → index < 18446744073709551616 → number < 256 → at + 31 ≤ length b
      → Wrote b at (field index 32) now₁ at₁ → Wrote now₁ at₁ (field number 32) now₂ at₂
      → Wrote now₂ at₂ (field alert 32) now₃ at₃ → Wrote now₃ at₃ (field flag 10) now₄ at₄
      → Wrote b at (line_of index number (alert_of number) no_room) now₄ at₄
  line-written b at wide narrow room w₁ w₂ w₃ w₄ =
      rw (← line-fields)
      (four-behind b at (field index 32) (field number 32) (field alert 32) (field flag 10)
      (omega (arith, fields-length wide narrow)) w₁ w₂ w₃ w₄)

pub line-length : (index number : ℕ) (no_room : Bool) → index < 18446744073709551616 → number < 256 → length (line_of index number (alert_of number) no_room) ≤ 31
line-length index number no_room wide narrow = rw (← line-fields index number no_room refl refl) (fields-length index number no_room refl refl wide narrow)

-- the last line
pub total-length : (n : ℕ) → n < 18446744073709551616 → length (total_line n) ≤ 27
unfolding total_line
total-length n h = omega (arith, field-u64 n 10 h)

pub total-written : (b : List ℕ) (at n : ℕ) {now next : List ℕ} {place end : ℕ} → n < 18446744073709551616 → at + 27 ≤ length b
    → Wrote b at (116 ∷ 111 ∷ 116 ∷ 97 ∷ 108 ∷ 32 ∷ []) now place → Wrote now place (field n 10) next end
    → Wrote b at (total_line n) next end
unfolding total_line
total-written b at n h room = behind b at (116 ∷ 111 ∷ 116 ∷ 97 ∷ 108 ∷ 32 ∷ []) (field n 10) (omega (arith, total-length n h))
