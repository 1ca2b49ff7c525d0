-- The reading of edition two, as far as its steps came, and the tacks in the part that was read: what the reader has to show.
use mathlib.Core.Path.{◌≡◌, sym, ap, ◌∙◌}
use mathlib.Core.Bool.{Bool, true, false, cond}
use mathlib.Core.List.{List}
use mathlib.Core.Logic.{⊎_elim}
use mathlib.Core.Option.{none, some}
use Prim.Native.Nat.{ℕ, ◌≤◌, ◌<◌}
use native.Mathlib.Omega.{arith}
use lib.ListN.{length, take, drop, get_or, length-drop, drop_of_length-le}
use lib.Seq.{take_all}
use Rattle.std.specs.Prelude.{Option, Some, None, MatchOption}
use Rattle.std.specs.Borrow.{Bor}
use Rattle.std.specs.Array.{IsFirstChunk, IsWholeChunk}
use Rattle.tack_extension.specs.Extension.{read, refused, length_step}
use Rattle.tack_extension.specs.Answers.{tack_bytes}
use Rattle.tack_extension.proofs.Reading.{untested, tested, not-one-byte, one_byte}
use Rattle.tack_extension_two.specs.ExtensionTwo.{parts_in, tacks_length, flags_allowed, tacks_step, flags_step, after_flags, after_tacks, parse_two}
use Rattle.tack_extension_two.proofs.GoodTwo.{one-or-two}

pub no-tacks : (s : List ℕ) → refused ≡ length_step (λ n. true) s → none ≡ parse_two s
unfolding parse_two tacks_step
no-tacks s e = sym (ap after_tacks (untested tacks_length s e))

module _ (s b q : List ℕ) (f : read b q ≡ length_step (λ n. true) s) where
  behind-step : (y : Bool) → tacks_length (length b) ≡ y → parse_two s ≡ after_tacks (cond y (read b q) refused)
  unfolding parse_two tacks_step
  behind-step y g = ap after_tacks (tested tacks_length s b q f ∙ ap (λ (x : Bool). cond x (read b q) refused) g)

  pub bad-length : tacks_length (length b) ≡ false → none ≡ parse_two s
  bad-length g = sym (behind-step false g)

  module _ (g : tacks_length (length b) ≡ true) where
    pub no-flags : (length q ≡ 1 → ⊥) → none ≡ parse_two s
    unfolding flags_step
    no-flags h = sym (behind-step true g ∙ ap (after_flags b) (not-one-byte (flags_allowed (length b)) q h))

    -- y is the one byte, as an array
    module _ (y : List ℕ) (h : IsWholeChunk q y 1) where
      behind-flags : (x : Bool) → flags_allowed (length b) (get_or y 0 0) ≡ x → parse_two s ≡ after_flags b (cond x (some (get_or y 0 0)) none)
      unfolding flags_step
      behind-flags x k =
          behind-step true g
          ∙ ap (after_flags b) (one_byte (flags_allowed (length b)) q h.long)
          ∙ rw (← h.same) (ap (λ (z : Bool). after_flags b (cond z (some (get_or y 0 0)) none)) k)

      pub bad-flag : flags_allowed (length b) (get_or y 0 0) ≡ false → none ≡ parse_two s
      bad-flag k = sym (behind-flags false k)

      pub all-read : flags_allowed (length b) (get_or y 0 0) ≡ true → some (parts_in b (get_or y 0 0)) ≡ parse_two s
      all-read k = sym (behind-flags true k)

-- the first 166 bytes of the part, and what is behind them: 166 bytes or none
pub first-tack : (x : Option (Bor (List ℕ))) (b : List ℕ) → tacks_length (length b) ≡ true
    → MatchOption x (length b < 166) (λ y. IsFirstChunk b y.now 166) → tack_bytes x ≡ take 166 b
first-tack None b g h = ⊎_elim (λ e. absurd (omega arith)) (λ e. absurd (omega arith)) (one-or-two (length b) g)
first-tack (Some y) b g h = h.same

pub second-tack : (x : Option (Bor (List ℕ))) (b r : List ℕ) → tacks_length (length b) ≡ true → r ≡ drop 166 b
    → MatchOption x (length r < 166) (λ y. IsFirstChunk r y.now 166) → tack_bytes x ≡ drop 166 b
second-tack None b r g e h =
    let n = length-drop 166 b in
    let m = ap (λ (l : List ℕ). length l) e in
    let none-left : length b ≤ 166 = ⊎_elim (λ k. omega arith) (λ k. absurd (omega arith)) (one-or-two (length b) g) in
    sym (drop_of_length-le b none-left)
second-tack (Some y) b r g e h =
    let n = length-drop 166 b in
    let m = ap (λ (l : List ℕ). length l) e in
    let few : length r ≤ 166 = ⊎_elim (λ k. omega arith) (λ k. omega arith) (one-or-two (length b) g) in
    h.same ∙ take_all 166 r few ∙ e
