-- The name that is handed on is the folded one, cut at 254 bytes.
use mathlib.Core.Path.{ap, ◌∙◌}
use mathlib.Core.List.{List}
use Prim.Native.Nat.{ℕ}
use Rattle.pin_model.specs.Calls.{inspect, answer}
use Rattle.pin_model.proofs.LongNames.{inspect-handed}
use Rattle.pin_manage.proofs.inspection.inspect.Goals as goal

pub returns : goal.returns
returns c =
    let a = c.args in
    c.inspect_folded.ensures
    ∙ ap (λ (name : List ℕ). answer (inspect a.second name a.clock) a.area.now) (c.as_slice.ensures ∙ c.of.ensures)
    ∙ (inspect-handed a.second a.name.now a.clock a.area.now).0
