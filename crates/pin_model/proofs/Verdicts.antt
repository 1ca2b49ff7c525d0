-- A call of edition one with a verdict was not refused, and found a sound area.
use mathlib.Core.Path.{◌≡◌, refl, sym, ◌∙◌}
use mathlib.Core.Bool.{true, false, not, true≢false}
use mathlib.Core.List.{List}
use mathlib.Core.Option.{Option, none, some}
use Prim.Native.Nat.{ℕ}
use borrow.Author.Tests.{not-true}
use Rattle.pin_model.specs.Layout.{decode}
use Rattle.pin_model.specs.Sound.{sound}
use Rattle.pin_model.specs.Connection.{Connection}
use Rattle.pin_model.specs.Calls.{judge, is_verdict, table_tests_of, refusal, unrefused, answer_by, answer}
use Rattle.pin_model.specs.Demand1.{refusals_of}
use Rattle.pin_model.proofs.Refusals.{area-facts}
use Rattle.pin_model.proofs.Numbers.{one_of, refusal-listed}

module _ (c : Connection) (b : List ℕ) where
  pub verdict-passed : is_verdict (answer (judge c) b).number ≡ true → refusal (judge c) b ≡ none
  unfolding answer
  verdict-passed = go (refusal (judge c) b) refl
    where
      go : (o : Option ℕ) → refusal (judge c) b ≡ o → is_verdict (answer_by false o (unrefused (judge c) (decode b))).number ≡ true → o ≡ none
      go none e h = refl
      go (some n) e h =
          let late = one_of (λ m. not (is_verdict m)) (refusals_of (judge c)) n refl (refusal-listed (judge c) b n e) in
          absurd (true≢false (sym h ∙ not-true (is_verdict n) late))

  -- 10 and 11 have passed
  pub verdict-sound : refusal (judge c) b ≡ none → sound b ≡ true
  unfolding refusal
  verdict-sound e = (area-facts b (table_tests_of (judge c) (decode b)) e).area_sound
