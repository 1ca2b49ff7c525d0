-- E1 to E12, the spellings of Q-2, the expired tacks of Q-4 and the disabled servers of Q-7 hold: computed on the model's tables, and
-- carried over to bytes by the run.
use mathlib.Core.Path.{◌≡◌, refl, ◌∙◌}
use mathlib.Core.Bool.{false}
use Rattle.octets.specs.Octets.{number, number_after}
use Rattle.tack_extension.specs.Extension.{tack_step, breaks_step, activation_step, parse}
use Rattle.pin_model.specs.Layout.{joined, encode_key, encode_name, encode}
use Rattle.pin_model.specs.Run.{area_of}
use Rattle.pin_journal.proofs.Main.{area-run, answer-run}
use Rattle.pin_examples.specs.Examples.{ReadingRight, Row, Right, after, Every, nothing, ◌also◌, e4, e4_area, e5, e5_inspected, e6, e7, e8, e8_inspected, e9, e10, e11, e12_at1000, e12_at1001, spelled_made, spelled_confirmed, spelled_contradicted, spelled_inspected, spelled_a_z, spelled_before_a, spelled_behind_z, expired_raises, expired_area, expired_revokes, expired_allows, expired_break, expired_break_inspected, expired_lower, expired_lower_inspected, expired_unrecorded, disabled_default, disabled_area, disabled_yes, disabled_keeps, disabled_keeps_inspected, yes_replaces, yes_replaces_inspected, reading_examples, spelled_examples, expired_examples, disabled_examples, Examples}
use Rattle.pin_examples.proofs.Model.{model_answer}

right : (r : Row) → model_answer false r.history r.call ≡ r.gives → Right r
unfolding model_answer
right r e = answer-run false r.call r.history ∙ e

e1-e2-e3-right : Every ReadingRight reading_examples
unfolding parse tack_step breaks_step activation_step number number_after
e1-e2-e3-right = refl also refl also refl also nothing

pub e4-right : Right e4
unfolding model_answer
e4-right = right e4 refl

e4-bytes : area_of false (after e4) ≡ e4_area
unfolding model_answer encode joined encode_key encode_name e4_area
e4-bytes = area-run false (after e4) ∙ refl

pub e5-right : Right e5
unfolding model_answer
e5-right = right e5 refl

e5_inspected-right : Right e5_inspected
unfolding model_answer
e5_inspected-right = right e5_inspected refl

e6-right : Right e6
unfolding model_answer
e6-right = right e6 refl

e7-right : Right e7
unfolding model_answer
e7-right = right e7 refl

e8-right : Right e8
unfolding model_answer
e8-right = right e8 refl

e8_inspected-right : Right e8_inspected
unfolding model_answer
e8_inspected-right = right e8_inspected refl

e9-right : Right e9
unfolding model_answer
e9-right = right e9 refl

e10-right : Right e10
unfolding model_answer
e10-right = right e10 refl

e11-right : Right e11
unfolding model_answer
e11-right = right e11 refl

e12_at1000-right : Right e12_at1000
unfolding model_answer
e12_at1000-right = right e12_at1000 refl

e12_at1001-right : Right e12_at1001
unfolding model_answer
e12_at1001-right = right e12_at1001 refl

spellings-right : Every Right spelled_examples
unfolding model_answer
spellings-right =
    right spelled_made refl also right spelled_confirmed refl also right spelled_contradicted refl also right spelled_inspected refl
    also right spelled_a_z refl also right spelled_before_a refl also right spelled_behind_z refl also nothing

expired-right : Every Right expired_examples
unfolding model_answer
expired-right =
    right expired_raises refl also right expired_revokes refl also right expired_allows refl also right expired_break refl
    also right expired_break_inspected refl also right expired_lower refl also right expired_lower_inspected refl
    also right expired_unrecorded refl also nothing

expired-bytes : area_of false (after expired_raises) ≡ expired_area
unfolding model_answer encode joined encode_key encode_name e4_area
expired-bytes = area-run false (after expired_raises) ∙ refl

disabled-right : Every Right disabled_examples
unfolding model_answer
disabled-right =
    right disabled_default refl also right disabled_yes refl also right disabled_keeps refl also right disabled_keeps_inspected refl
    also right yes_replaces refl also right yes_replaces_inspected refl also nothing

disabled-bytes : area_of false (after disabled_default) ≡ disabled_area
unfolding model_answer encode joined encode_key encode_name disabled_area
disabled-bytes = area-run false (after disabled_default) ∙ refl

yes-bytes : area_of false (after disabled_yes) ≡ e4_area
unfolding model_answer encode joined encode_key encode_name e4_area
yes-bytes = area-run false (after disabled_yes) ∙ refl

pub examples-hold : Examples
examples-hold = record {
  readings = e1-e2-e3-right;
  rows =
      e4-right also e5-right also e5_inspected-right also e6-right also e7-right also e8-right also e8_inspected-right
      also e9-right also e10-right also e11-right also e12_at1000-right also e12_at1001-right also nothing;
  e4_bytes = e4-bytes;
  spellings = spellings-right;
  expired = expired-right;
  expired_bytes = expired-bytes;
  disabled = disabled-right;
  disabled_bytes = disabled-bytes;
  yes_bytes = yes-bytes;
}
