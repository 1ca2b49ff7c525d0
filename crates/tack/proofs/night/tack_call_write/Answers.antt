-- The writer's own contract, with its answer as numbers.
use mathlib.Core.Path.{ap, ap₂, ◌∙◌}
use mathlib.Core.Bool.{Bool, true}
use mathlib.Core.List.{List}
use Prim.Native.Nat.{ℕ}
use Rattle.tack_extension.specs.Answers.{writing, output}
use Rattle.pin_model.specs.Connection.{checks_by}
use Rattle.tack.specs.Extension.{writing_answer}
use Rattle.tack.proofs.Ignored.{writing-ignores}
use Rattle.tack.proofs.night.tack_call_write.Goals as goal

pub returns : goal.returns
returns c =
    let a = c.args in
    let w = writing-ignores a.clock a.name a.extension a.spki_sha256
    (checks_by a.handshake_finished a.key_is_point a.signature_correct a.breaks_correct true) a.extension_came _ c.then_some.ensures in
    let e = c.write_call.ensures in
    record {
      answer = c.writing_answer.ensures ∙ ap writing_answer (e.answer ∙ ap₂ (λ (good : Bool) (bytes : List ℕ). writing good bytes a.out.now) w.0 w.1);
      written = e.written ∙ ap₂ (λ (good : Bool) (bytes : List ℕ). output good bytes a.out.now) w.0 w.1;
    }
