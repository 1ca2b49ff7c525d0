-- Words: read byte by byte, and what a comparison of two says of a part of s against p.
use mathlib.Core.Path.{◌≡◌, refl, sym, ap, ap₂, subst, ◌∙◌}
use mathlib.Core.List.{List, [], ◌∷◌}
use mathlib.Core.Bool.{true, false}
use mathlib.Core.Logic.{⊎_elim}
use Prim.Native.Nat.{ℕ, suc, ◌+◌, ◌*◌, ◌-◌, ◌≤◌, ◌<◌}
use native.Mathlib.Numerals.{add-one}
use native.Mathlib.Omega.{arith}
use lib.Dec.{eqb}
use lib.ListN.{length, take, drop, get_or}
use lib.Seq.{drop-cons}
use borrow.Author.Tests.{eqb-true, eq-eqb}
use Rattle.std.specs.Int.{w64, from_le_bytes}
use Rattle.octets.specs.Octets.{Bytes, part, same}
use Rattle.octets.specs.Words.{word}
use Rattle.octets.proofs.Tests.{below_or, is_false, both_ways}
use Rattle.octets.proofs.Parts.{part_length, part_at, part-all, part-part}
use Rattle.octets.proofs.Numbers.{bytes-part}
use Rattle.octets.proofs.Equal.{same_true, same-part}

-- the word of a part, byte by byte
word-step : (b : List ℕ) (at w : ℕ) → at < length b → word (part b at (suc w)) ≡ get_or b at 0 + 256 * word (part b (at + 1) w)
unfolding word part
word-step b at w h = ap (λ (l : List ℕ). word (take (suc w) l)) (drop-cons b at 0 h) ∙ ap (λ (k : ℕ). get_or b at 0 + 256 * word (take w (drop k b))) (sym (add-one at))

word_end : (b : List ℕ) (at : ℕ) → word (part b at 0) ≡ 0
unfolding word part
word_end b at = refl

word_more : (b : List ℕ) (at w : ℕ) → at + 4 ≤ length b
    → word (part b at (suc (suc (suc (suc w)))))
    ≡ get_or b at 0 + 256 * (get_or b (at + 1) 0 + 256 * (get_or b (at + 2) 0 + 256 * (get_or b (at + 3) 0 + 256 * word (part b (at + 4) w))))
word_more b at w fits =
    let two : at + 1 + 1 ≡ at + 2 = omega arith in
    let three : at + 2 + 1 ≡ at + 3 = omega arith in
    let four : at + 3 + 1 ≡ at + 4 = omega arith in
    let first = word-step b at (suc (suc (suc w))) (omega arith) in
    let second = rw two at (word-step b (at + 1) (suc (suc w)) (omega arith)) in
    let third = rw three at (word-step b (at + 2) (suc w) (omega arith)) in
    let fourth = rw four at (word-step b (at + 3) w (omega arith)) in
    omega arith

-- as `from_le_bytes` reads it
pub read_word : (xs : List ℕ) → length xs ≡ 8 → from_le_bytes w64 xs ≡ word xs
read_word xs e =
    omega (arith, ap word (part-all xs 8 e), word_more xs 0 4 (omega arith), word_more xs 4 0 (omega arith), word_end xs 8)

-- as many bytes that have the same word are the same
word_same : (xs ys : List ℕ) → Bytes xs → Bytes ys → length xs ≡ length ys → word xs ≡ word ys → xs ≡ ys
unfolding word
word_same [] [] bx by l e = refl
word_same [] (y ∷ ys) bx by l e = absurd (omega arith)
word_same (x ∷ xs) [] bx by l e = absurd (omega arith)
word_same (x ∷ xs) (y ∷ ys) bx by l e =
    let hx : x < 256 = bx 0 in
    let hy : y < 256 = by 0 in
    let first : x ≡ y = omega arith in
    let others : word xs ≡ word ys = omega arith in
    ap₂ ◌∷◌ first (word_same xs ys (λ i. bx (suc i)) (λ i. by (suc i)) (omega arith) others)

-- eight places more, from below and from above
module _ (P : ℕ → Type 0) (i : ℕ) (here : (j : ℕ) → j < 8 → P (i + j)) where
  within : (j : ℕ) → i ≤ j → j < i + 8 → P j
  within j l k = let e : i + (j - i) ≡ j = omega arith in subst P e (here (j - i) (omega arith))

  pub below-eight : ((j : ℕ) → j < i → P j) → (j : ℕ) → j < i + 8 → P j
  below-eight below j l = ⊎_elim (λ lt. below j lt) (λ le. within j le l) (below_or j i)

  pub from-eight : ((j : ℕ) → i + 8 ≤ j → P j) → (j : ℕ) → i ≤ j → P j
  from-eight above j l = ⊎_elim (λ lt. within j l lt) (λ le. above j le) (below_or j (i + 8))

module _ (s : List ℕ) (at : ℕ) (p : List ℕ) (i : ℕ) {v w : ℕ} (ev : v ≡ word (part s (at + i) 8)) (ew : w ≡ word (part p i 8)) where
  pub words-agree : Bytes s → Bytes p → at + i + 8 ≤ length s → i + 8 ≤ length p → v ≡ w → (j : ℕ) → j < 8 → get_or s (at + (i + j)) 0 ≡ get_or p (i + j) 0
  words-agree bs bp fs fp e j l =
      let place : at + (i + j) ≡ at + i + j = omega arith in
      let size : length (part s (at + i) 8) ≡ length (part p i 8) = part_length s (at + i) 8 fs ∙ sym (part_length p i 8 fp) in
      let parts : part s (at + i) 8 ≡ part p i 8 = word_same _ _ (bytes-part s (at + i) 8 bs) (bytes-part p i 8 bp) size (sym ev ∙ e ∙ ew) in
      ap (λ (k : ℕ). get_or s k 0) place ∙ sym (part_at s (at + i) 8 j l) ∙ ap (λ (q : List ℕ). get_or q j 0) parts ∙ part_at p i 8 j l

  words_same : (n : ℕ) → at + n ≤ length s → i + 8 ≤ n → same (part s at n) p ≡ true → v ≡ w
  words_same n fits l e = ev ∙ ap word (sym (part-part s at n i 8 fits l) ∙ ap (λ (q : List ℕ). part q i 8) (same_true (part s at n) p e)) ∙ sym ew

  pub words-differ : (n : ℕ) → at + n ≤ length s → i + 8 ≤ n → (v ≡ w → ⊥) → same (part s at n) p ≡ false
  words-differ n fits l h = is_false (same (part s at n) p) (λ e. h (words_same n fits l e))

  -- the last word, where all bytes before it agree
  pub last_word : Bytes s → Bytes p → at + length p ≤ length s → i + 8 ≡ length p → ((j : ℕ) → j < i → get_or s (at + j) 0 ≡ get_or p j 0)
      → eqb v w ≡ same (part s at (length p)) p
  last_word bs bp fits l h =
      both_ways (eqb v w) (same (part s at (length p)) p)
      (λ e. same-part s at p fits (λ j k. below-eight _ i (words-agree bs bp (omega arith) (omega arith) (eqb-true v w e)) h j (omega arith)))
      (λ e. eq-eqb v w (words_same (length p) fits (omega arith) e))
