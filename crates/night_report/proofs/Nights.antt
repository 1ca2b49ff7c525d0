-- The report as a stream makes it: each call in front gives its line, and the rest of the night the rest of the report, whatever
-- bytes are still to come.
use mathlib.Core.Path.{◌≡◌, refl, ap, ◌∙◌}
use mathlib.Core.Bool.{false}
use mathlib.Core.List.{List, [], ◌∷◌, ◌++◌, append_assoc}
use Prim.Native.Nat.{ℕ, zero, suc, ◌+◌, ◌≤◌}
use native.Mathlib.Nat.{add-zero}
use native.Mathlib.Omega.{arith}
use lib.ListN.{length}
use Rattle.pin_model.specs.Connection.{Connection}
use Rattle.pin_model.specs.Calls.{Call, judge, answered}
use Rattle.pin_model.specs.Run.{area_of}
use Rattle.recorded_call.specs.RecordedCall.{Front, taken, cut_off, bad, field, recorded}
use Rattle.recorded_call.proofs.Prefix.{taken-longer, bad-longer, taken-shorter}
use Rattle.night_report.specs.Report.{Night, ends, before, is_empty, night_by, night_within, night_of, line, bad_line, lines, closing, report_from}

pub nothing-recorded : recorded [] ≡ cut_off
unfolding recorded field
nothing-recorded = refl

-- a call takes bytes, so two readings that agree on fewer bytes agree behind it
same-behind : (f g : List ℕ → Night) (s : List ℕ) (x : Front Connection) → recorded s ≡ x
    → ((rest : List ℕ) → length rest + 53 ≤ length s → f rest ≡ g rest) → night_by f s x ≡ night_by g s x
same-behind f g s (taken c rest) e h = ap (before c) (h rest (taken-shorter s c rest e))
same-behind f g s cut_off e h = refl
same-behind f g s bad e h = refl

-- more turns than bytes change nothing
enough : (k m : ℕ) (s : List ℕ) → length s ≤ k → length s ≤ m → night_within k s ≡ night_within m s
unfolding night_within
enough zero zero s h i = refl
enough zero (suc m) [] h i = rw nothing-recorded refl
enough zero (suc m) (b ∷ s) h i = absurd (omega arith)
enough (suc k) zero [] h i = rw nothing-recorded refl
enough (suc k) zero (b ∷ s) h i = absurd (omega arith)
enough (suc k) (suc m) s h i =
    same-behind (night_within k) (night_within m) s (recorded s) refl (λ rest l. enough k m rest (omega arith) (omega arith))

-- the night by what stands in front
night-by : (s : List ℕ) → night_of s ≡ night_by night_of s (recorded s)
unfolding night_of night_within
night-by [] = rw nothing-recorded refl
night-by (b ∷ s) =
    same-behind (night_within (length s)) night_of (b ∷ s) (recorded (b ∷ s)) refl
    (λ rest l. enough (length s) (length rest) rest (omega arith) (omega arith))

module _ (earlier : List Call) (window more : List ℕ) where
  -- a call in front of what was read so far
  pub report-line : (c : Connection) (rest : List ℕ) → recorded window ≡ taken c rest
      → report_from earlier (window ++ more) ≡ line (length earlier) (answered (judge c) (area_of false earlier)) ++ report_from (judge c ∷ earlier) (rest ++ more)
  unfolding report_from lines
  report-line c rest e =
      let night : night_of (window ++ more) ≡ before c (night_of (rest ++ more)) =
      night-by (window ++ more) ∙ ap (night_by night_of (window ++ more)) (taken-longer window c rest e more) in
      let others = night_of (rest ++ more) in
      let size : length earlier + suc (length others.calls) ≡ suc (length earlier) + length others.calls = omega arith in
      ap (λ (n : Night). lines earlier n.calls ++ closing (length earlier + length n.calls) n.whole) night
      ∙ rw size (append_assoc (line (length earlier) (answered (judge c) (area_of false earlier))) (lines (judge c ∷ earlier) others.calls) (closing (suc (length earlier) + length others.calls) others.whole))

  -- what no further bytes make a call
  pub report-bad : recorded window ≡ bad → report_from earlier (window ++ more) ≡ bad_line
  unfolding report_from lines
  report-bad e =
      let night : night_of (window ++ more) ≡ ends false = night-by (window ++ more) ∙ ap (night_by night_of (window ++ more)) (bad-longer window e more) in
      ap (λ (n : Night). lines earlier n.calls ++ closing (length earlier + length n.calls) n.whole) night

-- the end of the input: nothing is left, or a call that is cut off
pub report-end : (earlier : List Call) (left : List ℕ) → recorded left ≡ cut_off
    → report_from earlier left ≡ closing (length earlier) (is_empty left)
unfolding report_from lines
report-end earlier left e =
    let night : night_of left ≡ ends (is_empty left) = night-by left ∙ ap (night_by night_of left) e in
    ap (λ (n : Night). lines earlier n.calls ++ closing (length earlier + length n.calls) n.whole) night
    ∙ ap (λ (k : ℕ). closing k (is_empty left)) (add-zero (length earlier))
