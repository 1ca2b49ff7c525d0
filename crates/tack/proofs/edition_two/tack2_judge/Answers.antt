-- What judging answers and leaves, in numbers.
use mathlib.Core.Path.{ap, ◌∙◌}
use Rattle.tack.specs.Table.{judgement_of, checks_two}
use Rattle.tack.proofs.Ignored.{judge-two-ignores}
use Rattle.tack.proofs.Outcomes.{judgement-two-is}
use Rattle.tack.proofs.edition_two.tack2_judge.Goals as goal

pub returns : goal.returns
returns c =
    let a = c.args in
    let w = judge-two-ignores a.clock a.name a.extension a.spki_sha256 a.table.now
    (checks_two a.handshake_finished a.keys_are_points a.signatures_correct) a.extension_came _ c.then_some.ensures in
    let e = c.judgement_answer.ensures in
    record {
      answer = judgement-two-is _ _ e.number e.no_room e.alert ∙ ap judgement_of (c.judge.ensures.answer ∙ w.0);
      table = c.judge.ensures.area ∙ w.1;
    }
