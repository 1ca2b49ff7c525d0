-- What starting answers and leaves, by the length of the area.
use mathlib.Core.Path.{◌≡◌, refl, sym, ◌∙◌}
use mathlib.Core.Bool.{Bool, true, false}
use mathlib.Core.List.{List}
use Prim.Native.Nat.{ℕ}
use lib.ListN.{length, replicate, set}
use mir.Val.{bool_byte}
use borrow.Author.Tests.{eq-eqb, ne_eqb}
use Rattle.pin_model.specs.Layout.{area_length, empty_area}
use Rattle.pin_model.specs.Calls.{plain, start, refusal, answer, area_after, answered, area_left}
use Rattle.pin_model.proofs.AreaKept.{started as area-started}

pub start-refused : (two : Bool) (b : List ℕ) → (length b ≡ area_length → ⊥) → (plain 10 ≡ answered (start two) b) × (b ≡ area_left (start two) b)
unfolding answered area_left answer area_after refusal
start-refused two b h = let n = ne_eqb (length b) area_length h in (simp n, simp n)

-- zeros but for the edition in byte 4
marked : (two : Bool) → set (replicate area_length 0) 4 (bool_byte two) ≡ empty_area two
unfolding empty_area
marked false = refl
marked true = refl

pub started : (two : Bool) (b : List ℕ) {zeros : List ℕ} {mark : ℕ} → length b ≡ area_length → zeros ≡ replicate (length b) 0 → mark ≡ bool_byte two
    → (plain 7 ≡ answered (start two) b) × (set zeros 4 mark ≡ area_left (start two) b)
unfolding answered area_left answer refusal
started two b h e d = (
  simp (eq-eqb (length b) area_length h),
  rw (d, e, h) (marked two) ∙ sym (area-started two b h),
)
