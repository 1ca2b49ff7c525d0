-- The examples of edition two hold: computed on the model's tables, and carried over to bytes by the run.
use mathlib.Core.Path.{◌≡◌, refl, ◌∙◌, ap}
use mathlib.Core.Bool.{true}
use Rattle.pin_model.specs.Table.{Table}
use Rattle.pin_model.specs.Layout.{joined, encode_key, encode_name, encode}
use Rattle.pin_model.specs.Calls.{folded}
use Rattle.pin_model.specs.Run.{area_of}
use Rattle.pin_journal.proofs.TableRun.{table_answer, table_next}
use Rattle.pin_journal.proofs.Main.{area-run, answer-run}
use Rattle.pin_examples.specs.Examples.{Every, nothing, ◌also◌}
use Rattle.pin_examples.specs.ExamplesTwo.{RowTwo, RightTwo, ExamplesTwo, after_two, moves, verdicts, refusals, editions, managed, move_made, move_pinned, move_both, move_both_pinned, move_both_pinned_area, move_alone_a, move_alone_b, move_enabled_b, move_too_early, move_done, move_back, move_back_later, move_next, contradicted_raises, contradicted_makes_none, both_raise, disabled_makes_none, disabled_goes, absent_goes, disabled_matches, disabled_at_end, bit_without_tack, further_bit, one_key, one_key_first, expired_at1000, expires_after999, expired_raises_none, generation_first, expired_first, hash_first, first_tack_first, first_revoked, second_revoked, revoked_last, started_one, started_two, one_on_two, one_on_two_first, e4_on_one, two_on_one, deletes_both, inspects_first, inspects_second, inspects_younger, inspects_older, inspects_missing, others, other_keys, other_pins, table_two, room_for_one, room_after_removal, room_for_first}
use Rattle.pin_examples.proofs.Model.{model_answer, model_table}

-- a row, by what the model computes from the empty table
right : (r : RowTwo) → model_answer true r.history r.call ≡ r.gives → model_table true (after_two r) ≡ r.leaves → RightTwo r
unfolding model_answer
right r e f = record {
  answers = answer-run true r.call r.history ∙ e;
  bytes = area-run true (after_two r) ∙ ap encode f;
}

-- a row, by what the model computes from the table that its history leaves
right-from : (r : RowTwo) (t : Table) → model_table true r.history ≡ t
    → table_answer (folded r.call) t ≡ r.gives → table_next (folded r.call) t ≡ r.leaves → RightTwo r
unfolding model_answer
right-from r t h e f = right r (ap (table_answer (folded r.call)) h ∙ e) (ap (table_next (folded r.call)) h ∙ f)

moves-right : Every RightTwo moves
unfolding model_answer
moves-right =
    right move_made refl refl also right move_pinned refl refl also right move_both refl refl also right move_both_pinned refl refl
    also right move_alone_a refl refl also right move_alone_b refl refl also right move_enabled_b refl refl
    also right move_too_early refl refl also right move_done refl refl also right move_back refl refl
    also right move_back_later refl refl also right move_next refl refl also nothing

move-bytes : area_of true (after_two move_both_pinned) ≡ move_both_pinned_area
unfolding model_table encode joined encode_key encode_name move_both_pinned_area
move-bytes = area-run true (after_two move_both_pinned) ∙ refl

verdicts-right : Every RightTwo verdicts
unfolding model_answer
verdicts-right =
    right contradicted_raises refl refl also right contradicted_makes_none refl refl also right both_raise refl refl
    also right disabled_makes_none refl refl also right disabled_goes refl refl also right absent_goes refl refl
    also right disabled_matches refl refl also right disabled_at_end refl refl also nothing

refusals-right : Every RightTwo refusals
unfolding model_answer
refusals-right =
    right bit_without_tack refl refl also right further_bit refl refl also right one_key refl refl also right one_key_first refl refl
    also right expired_at1000 refl refl also right expires_after999 refl refl also right expired_raises_none refl refl also right generation_first refl refl
    also right expired_first refl refl also right hash_first refl refl also right first_tack_first refl refl
    also right first_revoked refl refl also right second_revoked refl refl also right revoked_last refl refl also nothing

editions-right : Every RightTwo editions
unfolding model_answer
editions-right =
    right started_one refl refl also right started_two refl refl also right one_on_two refl refl also right one_on_two_first refl refl
    also right e4_on_one refl refl also right two_on_one refl refl also nothing

managed-right : Every RightTwo managed
unfolding model_answer
managed-right =
    right deletes_both refl refl also right inspects_first refl refl also right inspects_second refl refl
    also right inspects_younger refl refl also right inspects_older refl refl also right inspects_missing refl refl also nothing

-- the table after `others`, computed once for the three rows
abbrev crowded : Table
crowded = table_two 1000 (other_keys 32) (other_pins 32)

others-run : model_table true (others 32) ≡ crowded
unfolding model_table
others-run = refl

room-for-one : RightTwo room_for_one
unfolding model_answer
room-for-one = right-from room_for_one crowded others-run refl refl

room-after-removal : RightTwo room_after_removal
unfolding model_answer
room-after-removal = right-from room_after_removal crowded others-run refl refl

room-for-first : RightTwo room_for_first
unfolding model_answer
room-for-first =
    right-from room_for_first room_for_one.leaves (ap (table_next (folded room_for_one.call)) others-run ∙ refl) refl refl

pub examples-two-hold : ExamplesTwo
examples-two-hold = record {
  moving = moves-right;
  move_bytes = move-bytes;
  judging = verdicts-right;
  refusing = refusals-right;
  other_edition = editions-right;
  managing = managed-right;
  counting = room-for-one also room-after-removal also room-for-first also nothing;
}
