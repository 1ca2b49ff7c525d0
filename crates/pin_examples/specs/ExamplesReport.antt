-- 'E4 and E5 on standard input give exactly `0 0 0 0` and `1 1 0 0`, then .. `total 2`' (document 02, Q-1).
use Rattle.std.specs.Prelude.{◌≡◌, [], ◌∷◌, ◌++◌, ℕ}
use Rattle.pin_model.specs.Connection.{Connection}
use Rattle.recorded_call.specs.RecordedCall.{call_bytes}
use Rattle.night_report.specs.Report.{report}
use Rattle.pin_examples.specs.Examples.{host, tack, later, showing}

-- the connections of E4 and E5, by their clocks
abbrev pub shown_at : ℕ → Connection
shown_at clock = showing host clock (tack 3 3 later)

abbrev pub ExampleReport : Type 0
ExampleReport =
    report (call_bytes (shown_at 1000) ++ call_bytes (shown_at 1600))
    ≡ 48 ∷ 32 ∷ 48 ∷ 32 ∷ 48 ∷ 32 ∷ 48 ∷ 10
    ∷ 49 ∷ 32 ∷ 49 ∷ 32 ∷ 48 ∷ 32 ∷ 48 ∷ 10
    ∷ 116 ∷ 111 ∷ 116 ∷ 97 ∷ 108 ∷ 32 ∷ 50 ∷ 10 ∷ []
