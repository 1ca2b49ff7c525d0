-- The report on E4 and E5, from the answers that are proved of them.
use mathlib.Core.Path.{◌≡◌, refl, sym, ap, ◌∙◌}
use mathlib.Core.Bool.{true, false}
use mathlib.Core.List.{List, [], ◌∷◌, ◌++◌, append-nil}
use Prim.Native.Nat.{ℕ}
use lib.Dec.{leb}
use Rattle.octets.specs.Octets.{big_endian, number, number_after}
use Rattle.tack_extension.specs.Extension.{bytes_of, tack_step, breaks_step, activation_step, parse}
use Rattle.tack_extension.specs.Answers.{alert_of}
use Rattle.pin_model.specs.Connection.{parts_of, enabled}
use Rattle.pin_model.specs.Calls.{Call, judge, answered}
use Rattle.pin_model.specs.Run.{area_of}
use Rattle.pin_model.specs.Disabled.{with_choice, SameByChoice}
use Rattle.pin_model.proofs.Disabled.{disabled-servers}
use Rattle.recorded_call.specs.RecordedCall.{recordable, call_bytes}
use Rattle.recorded_call.proofs.RoundTrip.{reads-back}
use Rattle.night_report.specs.Report.{digits_within, decimal, line_of, line, total_line, report_from, report}
use Rattle.night_report.proofs.Nights.{report-line, report-end, nothing-recorded}
use Rattle.pin_examples.specs.ExamplesReport.{shown_at, ExampleReport}
use Rattle.pin_examples.proofs.Main.{e4-right, e5-right}

recordable-shown : (clock : ℕ) → leb clock 4294967295 ≡ true → recordable (shown_at clock) ≡ true
unfolding recordable bytes_of big_endian
recordable-shown clock h = rw h refl

-- each call as `replay` reads it, which asks for the old way; activation is 1, so it is answered as the call itself
abbrev played : ℕ → Call
played clock = judge (with_choice true (shown_at clock))

on : (clock : ℕ) → enabled (shown_at clock) ≡ true
unfolding enabled parts_of parse tack_step breaks_step activation_step number number_after bytes_of big_endian
on clock = refl

alike : (clock : ℕ) (b : List ℕ) → SameByChoice (shown_at clock) true b
alike clock b = (disabled-servers (shown_at clock) b).where_enabled (on clock) true

abbrev first : Call
first = played 1000

first-area : area_of false (first ∷ []) ≡ area_of false (judge (shown_at 1000) ∷ [])
unfolding area_of
first-area = (alike 1000 (area_of false [])).areas

line-0 : line_of 0 0 0 false ≡ 48 ∷ 32 ∷ 48 ∷ 32 ∷ 48 ∷ 32 ∷ 48 ∷ 10 ∷ []
unfolding line_of decimal digits_within alert_of
line-0 = refl

line-1 : line_of 1 1 0 false ≡ 49 ∷ 32 ∷ 49 ∷ 32 ∷ 48 ∷ 32 ∷ 48 ∷ 10 ∷ []
unfolding line_of decimal digits_within alert_of
line-1 = refl

total-2 : total_line 2 ≡ 116 ∷ 111 ∷ 116 ∷ 97 ∷ 108 ∷ 32 ∷ 50 ∷ 10 ∷ []
unfolding total_line decimal digits_within
total-2 = refl

pub example-report : ExampleReport
unfolding report answered alert_of
example-report =
    let one = call_bytes (shown_at 1000) in
    let two = call_bytes (shown_at 1600) in
    let e₁ : report_from [] (one ++ two) ≡ report_from [] ((one ++ two) ++ []) = ap (report_from []) (sym (append-nil (one ++ two))) in
    let e₂ = report-line [] (one ++ two) [] (with_choice true (shown_at 1000)) two (reads-back (shown_at 1000) two (recordable-shown 1000 refl)) in
    let e₃ = report-line (first ∷ []) (two ++ []) [] (with_choice true (shown_at 1600)) [] (reads-back (shown_at 1600) [] (recordable-shown 1600 refl)) in
    let e₄ : report_from (first ∷ []) (two ++ []) ≡ report_from (first ∷ []) ((two ++ []) ++ []) = ap (report_from (first ∷ [])) (sym (append-nil (two ++ []))) in
    let e₅ = report-end (played 1600 ∷ first ∷ []) [] nothing-recorded in
    let a₁ : line 0 (answered first (area_of false [])) ≡ line_of 0 0 0 false = ap (line 0) ((alike 1000 (area_of false [])).answers ∙ e4-right) in
    let second = (alike 1600 (area_of false (first ∷ []))).answers ∙ ap (answered (judge (shown_at 1600))) first-area ∙ e5-right in
    let a₂ : line 1 (answered (played 1600) (area_of false (first ∷ []))) ≡ line_of 1 1 0 false = ap (line 1) second in
    let tail : report_from (first ∷ []) (two ++ []) ≡ line_of 1 1 0 false ++ total_line 2 =
    e₄ ∙ e₃ ∙ ap (λ (l : List ℕ). l ++ report_from (played 1600 ∷ first ∷ []) []) a₂ ∙ ap (λ (l : List ℕ). line_of 1 1 0 false ++ l) e₅ in
    let whole : report_from [] (one ++ two) ≡ line_of 0 0 0 false ++ (line_of 1 1 0 false ++ total_line 2) =
    e₁ ∙ e₂ ∙ ap (λ (l : List ℕ). l ++ report_from (first ∷ []) (two ++ [])) a₁ ∙ ap (λ (l : List ℕ). line_of 0 0 0 false ++ l) tail in
    whole ∙ rw (line-0, line-1, total-2) refl
