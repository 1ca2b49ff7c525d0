-- The papers' number and the values for every case of an answer: document 01, 'What each number says', and document 02, Q-3.
use Rattle.std.specs.Prelude.{Bool, true, false, ℕ, pos, Option, Some, None, Result, Ok, Err}
use Rattle.std.proofs.Math.Option as model
use Rattle.pin_model.specs.Calls.{Answer, answer_of, plain}
use Rattle.pin_model.specs.Calls as calls
use Rattle.pin_answers.specs.declared.Refusal.{Refusal}
use Rattle.pin_answers.specs.declared.Refusal.TheVariants.{AreaLength, Damaged, NameMalformed, ClockAboveLimit, ClockBeforeLatest, HandshakeUnfinished, ExtensionMalformed, BreakIncorrect, KeyNoPoint, GenerationBelowOwn, TargetUnequal, SignatureIncorrect, Revoked, Expired, OneKeyTwice, OtherEdition}
use Rattle.pin_answers.specs.declared.Verdict.{Verdict}
use Rattle.pin_answers.specs.declared.Verdict.TheVariants.{Unpinned, Confirmed, Contradicted}
use Rattle.pin_answers.specs.declared.Judged.{Judged}
use Rattle.pin_answers.specs.declared.Deletion.{Deletion}
use Rattle.pin_answers.specs.declared.Deletion.TheVariants.{Deleted, NotRecorded}
use Rattle.pin_answers.specs.declared.End.{End}
use Rattle.pin_answers.specs.declared.Inspection.{Inspection}

abbrev pub refusal_number : Refusal → ℕ
refusal_number AreaLength = 10
refusal_number Damaged = 11
refusal_number NameMalformed = 12
refusal_number ClockAboveLimit = 13
refusal_number ClockBeforeLatest = 14
refusal_number HandshakeUnfinished = 15
refusal_number ExtensionMalformed = 16
refusal_number BreakIncorrect = 17
refusal_number KeyNoPoint = 18
refusal_number GenerationBelowOwn = 19
refusal_number TargetUnequal = 20
refusal_number SignatureIncorrect = 21
refusal_number Revoked = 22
refusal_number Expired = 23
refusal_number OneKeyTwice = 24
refusal_number OtherEdition = 27

-- the number of a test that refused, none where it passed
abbrev pub checked_number : {T : Type 0} → Result T Refusal → model.Option ℕ
checked_number (Ok t) = model.none
checked_number (Err r) = model.some (refusal_number r)

abbrev pub verdict_number : Verdict → ℕ
verdict_number Unpinned = 0
verdict_number Confirmed = 1
verdict_number Contradicted = 2

-- a judgement in either edition: `two` is the yes for edition two
abbrev pub judgement_in : Bool → Result Judged Refusal → Answer
judgement_in two (Ok j) = calls.judgement two (verdict_number j.verdict) j.no_room
judgement_in two (Err r) = calls.judgement two (refusal_number r) false

abbrev pub judgement_answer : Result Judged Refusal → Answer
judgement_answer j = judgement_in false j

abbrev pub judgement_two_answer : Result Judged Refusal → Answer
judgement_two_answer j = judgement_in true j

-- what a deletion did
abbrev pub done_number : Deletion → ℕ
done_number Deleted = 3
done_number NotRecorded = 4

abbrev pub deletion_answer : Result Deletion Refusal → Answer
deletion_answer (Ok d) = plain (done_number d)
deletion_answer (Err r) = plain (refusal_number r)

-- what a record says
abbrev pub record_answer : ℕ → ℕ → Option End → Answer
record_answer floor initial None = answer_of false 5 false floor initial 0 (pos 0)
record_answer floor initial (Some e) = answer_of false 6 false floor initial e.end e.minutes_left

abbrev pub inspection_answer : Result (Option Inspection) Refusal → Answer
inspection_answer (Ok None) = plain 4
inspection_answer (Ok (Some i)) = record_answer i.floor i.initial i.end
inspection_answer (Err r) = plain (refusal_number r)

abbrev pub starting_answer : {T : Type 0} → Result T Refusal → Answer
starting_answer (Ok t) = plain 7
starting_answer (Err r) = plain (refusal_number r)
