-- The hashes of `specs/Hashes.antt`, word by word, and a slot's padded name.
use mathlib.Core.Path.{◌≡◌, refl, sym, ap, ap₂, ◌∙◌}
use mathlib.Core.Bool.{Bool, true, false}
use mathlib.Core.List.{List, ◌++◌}
use Prim.Native.Nat.{ℕ, suc, ◌+◌, ◌*◌, ◌-◌, ◌/◌, ◌%◌, ◌<◌}
use native.Mathlib.Nat.{mod-lt}
use native.Mathlib.Numerals.{add-one}
use native.Mathlib.Omega.{arith}
use lib.ListN.{length, replicate}
use Rattle.octets.specs.Octets.{part, all_zero}
use Rattle.octets.specs.Words.{word}
use Rattle.octets.proofs.Tests.{and_left, and_right}
use Rattle.octets.proofs.Parts.{part_length, part-add}
use Rattle.octets.proofs.Equal.{zeros-are}
use Rattle.octets.proofs.Search.{every-at}
use Rattle.host_name.specs.Name.{well_formed}
use Rattle.pin_model.specs.Layout.{latest_in, name_slot, is_used, key_number, name_length, name_in}
use Rattle.pin_model.specs.Sound.{name_formed, name_right, name_shaped, names_shaped}
use Rattle.pin_distinct.specs.Hashes.{with_word, mark_of, key_mark, words_hash, padded, name_mark, pin_mark}
use Rattle.pin_distinct.proofs.SlotPairs.{name-sized}

pub hash-none : (p : List ℕ) → 0 ≡ words_hash p 0
unfolding words_hash
hash-none p = refl

pub hash-more : (p : List ℕ) (h w i : ℕ) → h ≡ words_hash p i → w ≡ word (part p (8 * i) 8) → with_word h w ≡ words_hash p (i + 1)
unfolding words_hash
hash-more p h w i f g = ap₂ with_word f g ∙ ap (words_hash p) (sym (add-one i))

-- what stands behind a slot's name is zeros
module _ (s : List ℕ) (long : length s ≡ 272) (below : name_length s < 256) (formed : name_formed s ≡ true) where
  padded-is : part s 16 256 ≡ padded (name_in s)
  unfolding name_formed
  padded-is =
      let e : 256 ≡ name_length s + (256 - name_length s) = omega arith in
      let size : length (part s (16 + name_length s) (256 - name_length s)) ≡ 256 - name_length s = part_length s (16 + name_length s) (256 - name_length s) (omega arith) in
      ap (part s 16) e ∙ part-add s 16 (name_length s) (256 - name_length s)
      ∙ ap (λ (l : List ℕ). name_in s ++ l)
      (zeros-are (part s (16 + name_length s) (256 - name_length s)) (and_right (well_formed (name_in s)) _ formed)
      ∙ ap (λ (m : ℕ). replicate m 0) (size ∙ ap (λ (m : ℕ). 256 - m) (sym (name-sized s long below))))

  pub mark-end : (p : List ℕ) (h n : ℕ) → p ≡ part s 16 256 → h ≡ words_hash p n → n ≡ name_length s / 8 + 1 → mark_of h ≡ name_mark (name_in s)
  unfolding name_mark
  mark-end p h n e f g =
      ap mark_of
      (f ∙ ap₂ words_hash (e ∙ padded-is) (g ∙ ap (λ (m : ℕ). m / 8 + 1) (sym (name-sized s long below))))

-- marks are below 8,192
mark-below : (h : ℕ) → mark_of h < 8192
unfolding mark_of
mark-below h = mod-lt _ (omega arith)

pub key-mark-below : (key : List ℕ) → key_mark key < 8192
unfolding key_mark
key-mark-below key = mark-below _

pub name-mark-below : (name : List ℕ) → name_mark name < 8192
unfolding name_mark
name-mark-below name = mark-below _

pub pin-mark-below : (two : Bool) (s : List ℕ) → pin_mark two s < 8192
unfolding pin_mark
pin-mark-below true s = mod-lt _ (omega arith)
pin-mark-below false s = name-mark-below (name_in s)

-- a used slot of shaped names
pub used-formed : (b : List ℕ) (n : ℕ) → names_shaped b ≡ true → n < 128 → is_used (name_slot b n) ≡ true → name_formed (name_slot b n) ≡ true
unfolding names_shaped name_shaped name_right
used-formed b n h l u =
    let s : name_shaped (latest_in b) (name_slot b n) ≡ true = every-at (λ m. name_shaped (latest_in b) (name_slot b m)) 128 n h l in
    let r : name_right (latest_in b) (name_slot b n) ≡ true = rw u at s in
    and_left (name_formed (name_slot b n)) _ (and_right (all_zero (part (name_slot b n) 12 4)) _ r)
