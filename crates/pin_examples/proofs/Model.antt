-- The model's run from either empty table, in a form that computes.
use mathlib.Core.Bool.{Bool}
use mathlib.Core.List.{List}
use Rattle.octets.specs.Octets.{part, same, big_endian, number, number_after}
use Rattle.host_name.specs.Name.{is_label, between_dots, well_formed}
use Rattle.host_name.specs.Folding.{folded_name}
use Rattle.tack_extension.specs.Extension.{bytes_of, tack_step, breaks_step, activation_step, parse}
use Rattle.tack_extension.specs.Tack.{public_key, target_hash, break_key, each_break, break_signatures}
use Rattle.tack_extension.specs.Answers.{alert_of, alert_of_two}
use Rattle.tack_extension_two.specs.ExtensionTwo.{bytes_of_two, tacks_step, flags_step, parse_two}
use Rattle.pin_model.specs.Table.{Table}
use Rattle.pin_model.specs.Connection.{parts_of, tack_shown, enabled, may_record, breaks_shown, broken_keys, parts_two_of, tacks_in, tacks_shown}
use Rattle.pin_model.specs.Judge.{judged, no_room, verdict}
use Rattle.pin_model.specs.JudgeTwo.{verdict_two, judged_two, no_room_two}
use Rattle.pin_model.specs.Calls.{Call, folded, Answer}
use Rattle.pin_journal.proofs.TableRun.{table_refusal, table_answer, table_next, table_run}

-- the table after a list of calls, and what a call is answered after a history: where they unfold, all that they are made of
-- computes
unfoldable pub model_table : Bool → List Call → Table
unfolding table_run table_next table_refusal judged parts_of tack_shown enabled may_record breaks_shown broken_keys public_key target_hash break_key each_break break_signatures bytes_of tack_step breaks_step activation_step parse parts_two_of tacks_in tacks_shown judged_two bytes_of_two tacks_step flags_step parse_two is_label between_dots well_formed folded_name part same big_endian number number_after
model_table two calls = table_run two calls

unfoldable pub model_answer : Bool → List Call → Call → Answer
unfolding model_table table_answer no_room verdict no_room_two verdict_two alert_of alert_of_two
model_answer two history call = table_answer (folded call) (model_table two history)
