-- What a turn makes of the run so far: a call more, or nothing.
use mathlib.Core.Path.{◌≡◌, refl, ap, ◌∙◌}
use mathlib.Core.Bool.{true, false}
use mathlib.Core.List.{List, [], ◌∷◌}
use Prim.Native.Nat.{ℕ, ◌+◌}
use native.Mathlib.Omega.{arith}
use Rattle.std.specs.Prelude.{Result, Ok}
use Rattle.octets.proofs.Options.{clash}
use Rattle.tally.specs.Tally.{counted, tallied}
use Rattle.pin_model.specs.Sound.{sound}
use Rattle.pin_model.specs.Connection.{Connection}
use Rattle.pin_model.specs.Calls.{judge, answered, area_left}
use Rattle.pin_model.specs.Run.{area_of, number_of}
use Rattle.pin_journal.proofs.Main.{area-sound}
use Rattle.recorded_call.specs.RecordedCall.{Front, taken, cut_off, bad, recorded}
use Rattle.recorded_call.specs.declared.front.CallError.{CallError}
use Rattle.night_report.specs.Report.{numbers}
use Rattle.night_play.specs.Turns.{turn_by, area_by, counts_by}
use Rattle.night_play.specs.declared.Line.{Line}
use Rattle.replay.specs.Progress.{Reached}

pub reached-sound : {area counts : List ℕ} {index : ℕ} → Reached area index counts → sound area ≡ true
reached-sound w = ap sound w.left ∙ area-sound false w.calls

-- before the first call
pub at-start : {area counts : List ℕ} → area ≡ area_of false [] → counts ≡ tallied [] → Reached area 0 counts
unfolding numbers
at-start e f = record { calls = []; left = e; number = refl; tally = f }

one_more : {area area_now counts counts_now : List ℕ} {index : ℕ} (c : Connection) → Reached area index counts
    → area_now ≡ area_left (judge c) area → counts_now ≡ counted (answered (judge c) area).number counts → Reached area_now (index + 1) counts_now
unfolding area_of numbers number_of tallied
one_more {area} {area_now} {counts} c w e f =
    record {
      calls = judge c ∷ w.calls;
      left = e ∙ ap (area_left (judge c)) w.left;
      number = omega (arith, w.number);
      tally = f ∙ ap (λ (b : List ℕ). counted (answered (judge c) b).number counts) w.left ∙ ap (counted (answered (judge c) (area_of false w.calls)).number) w.tally;
    }

-- by the answer of a turn on what stands in front of the night's bytes
module _ (night : List ℕ) (index at : ℕ) (area counts : List ℕ) (w : Reached area index counts) where
  pub call-more : {l : Line} {area_now counts_now : List ℕ} → ◌≡◌ {A = Result Line CallError} (Ok l) (turn_by index area night at (recorded night))
      → area_now ≡ area_by area (recorded night) → counts_now ≡ counts_by area counts (recorded night) → Reached area_now (index + 1) counts_now
  call-more {l} {area_now} {counts_now} e a f = go (recorded night) e a f
    where
      go : (x : Front Connection) → Ok l ≡ turn_by index area night at x → area_now ≡ area_by area x → counts_now ≡ counts_by area counts x
          → Reached area_now (index + 1) counts_now
      go (taken c rest) e a f = one_more c w a f
      go cut_off e a f = clash (cc)
      go bad e a f = clash (cc)
