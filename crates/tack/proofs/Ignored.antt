-- 'If no extension came, its bytes are ignored' (document 01): where none came, a call with these bytes is one without bytes.
use mathlib.Core.Path.{◌≡◌, refl}
use mathlib.Core.Bool.{Bool, true, false}
use mathlib.Core.List.{List}
use Prim.Native.Nat.{ℕ}
use Rattle.std.specs.Prelude.{Option}
use Rattle.std.specs.Bool.{then_some}
use Rattle.std.specs.Borrow.{Bor}
use Rattle.pin_model.specs.declared.Checks.{Checks}
use Rattle.pin_model.specs.declared.ChecksTwo.{ChecksTwo}
use Rattle.pin_model.specs.Connection.{ConnectionWith, connection, parts_of, tack_shown, enabled, may_record, breaks_shown, broken_keys, parts_two_of, tacks_shown}
use Rattle.pin_model.specs.Seen.{seen}
use Rattle.pin_model.specs.Judge.{judged, no_room, verdict}
use Rattle.pin_model.specs.JudgeTwo.{judged_two, no_room_two, verdict_two}
use Rattle.pin_model.specs.Calls.{judge, judge_two, refusal, answer, area_after, answered, area_left}
use Rattle.recorded_call.specs.RecordedCall.{recordable, call_bytes}

module _ (clock : ℕ) (name extension hash : Bor (List ℕ)) where
  -- the connection as it is handed on, and as the caller gave it
  abbrev pub handed : {A : Type 0} → Option (Bor (List ℕ)) → A → ConnectionWith A
  handed o checks = seen (record { clock = clock; name = name; extension = o; hash = hash; checks = checks })

  abbrev pub given : {A : Type 0} → Bool → A → ConnectionWith A
  given came checks = connection clock name.now came extension.now hash.now checks

  pub judge-ignores : (b : List ℕ) (checks : Checks) (came : Bool) (o : Option (Bor (List ℕ))) → o ≡ then_some came extension
      → (answered (judge (handed o checks)) b ≡ answered (judge (given came checks)) b)
      × (area_left (judge (handed o checks)) b ≡ area_left (judge (given came checks)) b)
  unfolding answered area_left answer area_after refusal judged no_room verdict tack_shown enabled may_record breaks_shown broken_keys parts_of
  judge-ignores b checks true o e = rw e (refl, refl)
  judge-ignores b checks false o e = rw e (refl, refl)

  pub judge-two-ignores : (b : List ℕ) (checks : ChecksTwo) (came : Bool) (o : Option (Bor (List ℕ))) → o ≡ then_some came extension
      → (answered (judge_two (handed o checks)) b ≡ answered (judge_two (given came checks)) b)
      × (area_left (judge_two (handed o checks)) b ≡ area_left (judge_two (given came checks)) b)
  unfolding answered area_left answer area_after refusal judged_two no_room_two verdict_two tacks_shown parts_two_of
  judge-two-ignores b checks true o e = rw e (refl, refl)
  judge-two-ignores b checks false o e = rw e (refl, refl)

  pub writing-ignores : (checks : Checks) (came : Bool) (o : Option (Bor (List ℕ))) → o ≡ then_some came extension
      → (recordable (handed o checks) ≡ recordable (given came checks)) × (call_bytes (handed o checks) ≡ call_bytes (given came checks))
  unfolding recordable call_bytes
  writing-ignores checks true o e = rw e (refl, refl)
  writing-ignores checks false o e = rw e (refl, refl)
