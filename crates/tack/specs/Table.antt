-- The answers of the C interface on a pin table, field by field.
use Rattle.std.specs.Prelude.{ℕ, ◌/◌, ◌%◌, Bool, eqb}
use Rattle.pin_model.specs.declared.ChecksTwo.{ChecksTwo}
use Rattle.pin_model.specs.Calls.{Answer}
use Rattle.tack.specs.declared.table.JudgementAnswer.{JudgementAnswer}
use Rattle.tack.specs.declared.table.OutcomeAnswer.{OutcomeAnswer}
use Rattle.tack.specs.declared.table.InspectionAnswer.{InspectionAnswer}

unfoldable pub judgement_of : Answer → JudgementAnswer
judgement_of a = record { number = a.number; alert = a.alert; no_room = a.no_room }

-- the caller's answers about two tacks: bit 0 is the first one's, bit 1 the second's
abbrev pub checks_two : Bool → ℕ → ℕ → ChecksTwo
checks_two finished points correct =
    record {
      handshake_finished = finished;
      first_is_point = eqb (points % 2) 1;
      first_correct = eqb (correct % 2) 1;
      second_is_point = eqb (points / 2 % 2) 1;
      second_correct = eqb (correct / 2 % 2) 1;
    }

unfoldable pub outcome_of : Answer → OutcomeAnswer
outcome_of a = record { number = a.number; alert = a.alert }

unfoldable pub inspection_of : Answer → InspectionAnswer
inspection_of a =
    record {
      number = a.number;
      alert = a.alert;
      floor = a.floor;
      initial = a.initial;
      end = a.end;
      minutes_left = a.minutes_left;
    }
