-- One turn of a replay: what it answers, and the area and the output after it.
use Rattle.std.specs.Prelude.{ℕ, ◌+◌, ◌-◌, ◌≤◌, ◌<◌, List, length, Result, Ok, Err}
use Rattle.octets.specs.Octets.{put}
use Rattle.tally.specs.Tally.{counted}
use Rattle.pin_model.specs.Connection.{Connection}
use Rattle.pin_model.specs.Calls.{judge, answered, area_left}
use Rattle.recorded_call.specs.RecordedCall.{Front, taken, cut_off, bad}
use Rattle.recorded_call.specs.declared.front.CallError.{CallError}
use Rattle.recorded_call.specs.declared.front.CallError.TheVariants.{CutOff, Bad}
use Rattle.night_report.specs.Report.{line}
use Rattle.night_play.specs.declared.Line.{Line}

-- a call is judged and its line written: how many bytes it took, where its line ends in the output, and its number
abbrev pub turn_by : ℕ → List ℕ → List ℕ → ℕ → Front Connection → Result Line CallError
turn_by index area night at (taken c rest) =
    let a = answered (judge c) area in
    Ok (record { taken = length night - length rest; end = at + length (line index a); number = a.number })
turn_by index area night at cut_off = Err CutOff
turn_by index area night at bad = Err Bad

abbrev pub area_by : List ℕ → Front Connection → List ℕ
area_by area (taken c rest) = area_left (judge c) area
area_by area cut_off = area
area_by area bad = area

abbrev pub out_by : ℕ → List ℕ → List ℕ → ℕ → Front Connection → List ℕ
out_by index area out at (taken c rest) = put out at (line index (answered (judge c) area))
out_by index area out at cut_off = out
out_by index area out at bad = out

-- a turn keeps within the night's bytes, and within the longest line; the longest call has 4,452 bytes
abbrev pub Within : List ℕ → ℕ → Result Line CallError → Type 0
Within night at (Ok l) = (l.taken ≤ length night) × (l.end ≤ at + 31)
Within night at (Err CutOff) = length night < 4452
Within night at (Err Bad) = Unit

-- the tally after a turn: a call that was judged is counted under its number
abbrev pub counts_by : List ℕ → List ℕ → Front Connection → List ℕ
counts_by area counts (taken c rest) = counted (answered (judge c) area).number counts
counts_by area counts cut_off = counts
counts_by area counts bad = counts
