-- What judging answers and leaves, in numbers.
use mathlib.Core.Path.{ap, ◌∙◌}
use Rattle.pin_model.specs.Connection.{checks_by}
use Rattle.tack.specs.Table.{judgement_of}
use Rattle.tack.proofs.Ignored.{judge-ignores}
use Rattle.tack.proofs.Outcomes.{judgement-is}
use Rattle.tack.proofs.table.tack_judge.Goals as goal

pub returns : goal.returns
returns c =
    let a = c.args in
    let w = judge-ignores a.clock a.name a.extension a.spki_sha256 a.table.now
    (checks_by a.handshake_finished a.key_is_point a.signature_correct a.breaks_correct a.learn_disabled) a.extension_came _ c.then_some.ensures in
    let e = c.judgement_answer.ensures in
    record {
      answer = judgement-is _ _ e.number e.no_room e.alert ∙ ap judgement_of (c.judge.ensures.answer ∙ w.0);
      table = c.judge.ensures.area ∙ w.1;
    }
