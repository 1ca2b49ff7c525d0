-- The steps of edition two together, by what they look at of a connection. Cited by the functions below the open one: a reader of the
-- open contract can skip this file.
use Rattle.std.specs.Prelude.{true, List, ℕ}
use Rattle.pin_model.specs.Table.{Table}
use Rattle.pin_model.specs.Connection.{Shown}
use Rattle.pin_model.specs.JudgeTwo.{raised_at, verdict_by_two, no_room_in_two, learn_two}
use Rattle.pin_model.specs.Calls.{Answer, judgement}

-- the table that they leave, and their answer
abbrev pub steps_two : List ℕ → ℕ → List Shown → Table → Table
steps_two name clock tacks t = learn_two name clock tacks (raised_at clock tacks t)

abbrev pub steps_answer_two : List ℕ → ℕ → List Shown → Table → Answer
steps_answer_two name clock tacks t =
    judgement true (verdict_by_two name clock tacks (raised_at clock tacks t)) (no_room_in_two name clock tacks (raised_at clock tacks t))
