-- The answer of steps 1 to 4, by what they look at of a connection. Cited by private functions alone: a reader of the open contract can
-- skip this file.
use Rattle.std.specs.Prelude.{Bool, false, List, ℕ}
use Rattle.std.proofs.Math.Option.{Option}
use Rattle.pin_model.specs.Table.{Table}
use Rattle.pin_model.specs.Judge.{no_room_in, steps, verdict_by}
use Rattle.pin_model.specs.Calls.{Answer, judgement}

abbrev pub steps_answer : Bool → Bool → List ℕ → ℕ → Option (List ℕ) → List (List ℕ) → Table → Answer
steps_answer enabled may_record name clock tack broken t =
    let after = steps enabled may_record name clock tack broken t in
    judgement false (verdict_by name clock tack after) (no_room_in enabled may_record name clock tack t)
