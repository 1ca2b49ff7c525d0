-- A judgement in numbers is the definition's.
use mathlib.Core.Path.{◌≡◌, refl}
use Rattle.std.specs.Prelude.{Result, Ok, Err}
use Rattle.tack_extension.specs.Answers.{alert_of, alert_of_two}
use Rattle.pin_answers.specs.Numbers.{judgement_answer, judgement_two_answer}
use Rattle.pin_answers.specs.declared.Judged.{Judged}
use Rattle.pin_answers.specs.declared.Refusal.{Refusal}
use Rattle.tack.specs.declared.table.JudgementAnswer.{JudgementAnswer}
use Rattle.tack.specs.Table.{judgement_of}

module _ (j : Result Judged Refusal) (a : JudgementAnswer) (number : a.number ≡ (judgement_answer j).number) (no_room : a.no_room ≡ (judgement_answer j).no_room) where
  -- in edition one
  pub judgement-is : a.alert ≡ alert_of a.number → a ≡ judgement_of (judgement_answer j)
  unfolding judgement_of
  judgement-is alert = go j number no_room
    where
      go : (j : Result Judged Refusal) → a.number ≡ (judgement_answer j).number → a.no_room ≡ (judgement_answer j).no_room
          → a ≡ judgement_of (judgement_answer j)
      go (Ok x) n r = rw (← r, ← n, ← alert) refl
      go (Err x) n r = rw (← r, ← n, ← alert) refl

  -- and in edition two
  pub judgement-two-is : a.alert ≡ alert_of_two a.number → a ≡ judgement_of (judgement_two_answer j)
  unfolding judgement_of
  judgement-two-is alert = go j number no_room
    where
      go : (j : Result Judged Refusal) → a.number ≡ (judgement_answer j).number → a.no_room ≡ (judgement_answer j).no_room
          → a ≡ judgement_of (judgement_two_answer j)
      go (Ok x) n r = rw (← r, ← n, ← alert) refl
      go (Err x) n r = rw (← r, ← n, ← alert) refl
