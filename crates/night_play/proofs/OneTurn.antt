-- One turn, by what stands in front of the night's bytes.
use mathlib.Core.Path.{◌≡◌, refl, sym, ap, ◌∙◌}
use mathlib.Core.Bool.{Bool, false}
use mathlib.Core.List.{List}
use Prim.Native.Nat.{ℕ, ◌+◌, ◌-◌, ◌≤◌}
use native.Mathlib.Omega.{arith}
use lib.ListN.{length}
use Rattle.std.specs.Prelude.{Result, Ok, Err, MatchResult}
use Rattle.octets.specs.Octets.{put}
use Rattle.tack_extension.specs.Answers.{alert_of}
use Rattle.pin_model.specs.declared.Checks.{Checks}
use Rattle.pin_model.specs.declared.Connection as declared
use Rattle.pin_model.specs.Connection.{Connection}
use Rattle.pin_model.specs.Calls.{Answer, judge, answered, area_left}
use Rattle.pin_answers.specs.Numbers.{judgement_answer, refusal_number, verdict_number}
use Rattle.pin_answers.specs.declared.Judged.{Judged}
use Rattle.pin_answers.specs.declared.Refusal.{Refusal}
use Rattle.recorded_call.specs.RecordedCall.{Front, taken}
use Rattle.recorded_call.specs.Fronts.{stopped, Within as WithinCall}
use Rattle.recorded_call.specs.declared.front.CallError.{CallError}
use Rattle.recorded_call.specs.declared.front.CallError.TheVariants.{CutOff, Bad}
use Rattle.night_report.specs.Report.{line_of, line}
use Rattle.night_play.specs.Turns.{turn_by, area_by, out_by, Within}
use Rattle.night_play.specs.declared.Line.{Line}

-- a judgement of edition one: its number, the alert of that number, and whether there was no room
pub judgement-number : (j : Result Judged Refusal) (n : ℕ) → MatchResult j (λ d. n ≡ verdict_number d.verdict) (λ r. n ≡ refusal_number r) → n ≡ (judgement_answer j).number
judgement-number (Ok d) n h = h
judgement-number (Err r) n h = h

pub judgement-alert : (j : Result Judged Refusal) → (judgement_answer j).alert ≡ alert_of (judgement_answer j).number
judgement-alert (Ok d) = refl
judgement-alert (Err r) = refl

pub judgement-room : (j : Result Judged Refusal) (b : Bool) → MatchResult j (λ d. b ≡ d.no_room) (λ r. b ≡ false) → b ≡ (judgement_answer j).no_room
judgement-room (Ok d) b h = h
judgement-room (Err r) b h = h

-- a turn on what stands in front of the night's bytes
pub record Played (r : Result Line CallError) (index : ℕ) (area area_now night out out_now : List ℕ) (at : ℕ) (x : Front Connection) : Type 0 where
  pub turned : r ≡ turn_by index area night at x
  pub judged : area_now ≡ area_by area x
  pub written : out_now ≡ out_by index area out at x
  pub within : Within night at r

module _ (index : ℕ) (area night out : List ℕ) (at : ℕ) (x : Front Connection) where
  pub played-line : (c : Connection) (rest : List ℕ) (a : Answer) {area_now out_now : List ℕ} {end number : ℕ} {no_room : Bool}
      → taken c rest ≡ x → length rest ≤ length night
      → a ≡ answered (judge c) area → area_now ≡ area_left (judge c) area
      → number ≡ a.number → a.alert ≡ alert_of a.number → no_room ≡ a.no_room
      → (end ≡ at + length (line_of index number (alert_of number) no_room)) × (out_now ≡ put out at (line_of index number (alert_of number) no_room))
      → end ≤ at + 31
      → Played (Ok (record { taken = length night - length rest; end = end; number = number })) index area area_now night out out_now at x
  played-line c rest a {area_now} {out_now} {end} {number} {no_room} read shorter replied judged numbered alerted room wrote fits =
      let same : line_of index number (alert_of number) no_room ≡ line index (answered (judge c) area) = rw (numbered, ← alerted, room, replied) refl in
      let its : number ≡ (answered (judge c) area).number = numbered ∙ ap (λ (b : Answer). b.number) replied in
      let place : end ≡ at + length (line index (answered (judge c) area)) = wrote.0 ∙ ap (λ (l : List ℕ). at + length l) same in
      rw (← read)
      (record { turned = line_same place its; judged = judged; written = wrote.1 ∙ ap (λ (l : List ℕ). put out at l) same; within = (omega arith, fits) })
    where
      line_same : {n a b d e : ℕ} → a ≡ b → d ≡ e
          → ◌≡◌ {A = Result Line CallError} (Ok (record { taken = n; end = a; number = d })) (Ok (record { taken = n; end = b; number = e }))
      line_same y z = rw (y, z) refl

  pub played-stopped : (e : CallError) (r : Result Line CallError) → r ≡ Err e → stopped e ≡ x → WithinCall {T = declared.Connection Checks} night (Err e)
      → Played r index area area night out out at x
  played-stopped CutOff r same read fits = rw (same, ← read) (record { turned = refl; judged = refl; written = refl; within = fits })
  played-stopped Bad r same read fits = rw (same, ← read) (record { turned = refl; judged = refl; written = refl; within = fits })
