-- The name that is handed on is the folded one, cut at 254 bytes.
use mathlib.Core.Path.{ap, ◌∙◌}
use mathlib.Core.List.{List}
use Prim.Native.Nat.{ℕ}
use Rattle.pin_model.specs.Calls.{delete, answer, area_after}
use Rattle.pin_model.proofs.LongNames.{delete-handed}
use Rattle.pin_manage.proofs.deletion.delete.Goals as goal

pub returns : goal.returns
returns c =
    let a = c.args in
    let its = c.as_slice.ensures ∙ c.of.ensures in
    let same = delete-handed a.name.now a.area.now in
    let w = c.delete_folded.ensures in
    record {
      answer = w.answer ∙ ap (λ (name : List ℕ). answer (delete name) a.area.now) its ∙ same.0;
      area = w.area ∙ ap (λ (name : List ℕ). area_after (delete name) a.area.now) its ∙ same.1;
    }
