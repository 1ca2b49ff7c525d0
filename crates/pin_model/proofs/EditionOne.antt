-- 'In edition one everything reads as before' (document 02, Q-3): the areas that were sound before are the sound ones of edition
-- one, on them judging is refused for what it was refused for before, and a start without the yes gives the area that it gave.
use mathlib.Core.Path.{◌≡◌, refl, sym, ◌∙◌, ap, ap₂}
use mathlib.Core.Bool.{Bool, true, false, cond, not, ◌&&◌, ◌||◌, false≢true, and-true, and-false, and_comm}
use mathlib.Core.List.{List}
use Prim.Native.Nat.{ℕ, zero, suc}
use native.Mathlib.Omega.{arith}
use lib.Dec.{eqb, leb}
use lib.ListN.{length, get_or, take, replicate}
use lib.Seq.{drop-cons}
use borrow.Author.Tests.{eqb-true, ne_eqb, lt-leb}
use Rattle.octets.specs.Octets.{part, all, all_zero}
use Rattle.octets.specs.Search.{every}
use Rattle.octets.proofs.Tests.{by_test}
use Rattle.pin_model.specs.Table.{clock_limit, Table}
use Rattle.pin_model.specs.Layout.{area_length, latest_in, of_two}
use Rattle.pin_model.specs.Sound.{head_sound, keys_shaped, keys_distinct, names_shaped, name_twice, pin_twice, name_thrice, name_again, names_distinct, names_keyed, keys_named, sound}
use Rattle.pin_model.specs.Connection.{Connection}
use Rattle.pin_model.specs.Refusals.{connection_tests, first}
use Rattle.pin_model.specs.Calls.{judge, start, table_tests_of, area_after}
use Rattle.pin_model.proofs.SoundTable.{empty-zeros}
use Rattle.pin_model.proofs.AreaKept.{started}

-- soundness as it was: '4-7 zero', 'no .. name twice'
abbrev pub head_sound_before : List ℕ → Bool
head_sound_before b = leb (latest_in b) clock_limit && all_zero (part b 4 4)

abbrev pub names_distinct_before : List ℕ → Bool
names_distinct_before b = every (λ n. not (name_twice b n)) 128

abbrev pub sound_before : List ℕ → Bool
sound_before b =
    eqb (length b) area_length && (head_sound_before b && (keys_shaped b && (keys_distinct b
    && (names_shaped b && (names_distinct_before b && (names_keyed b && keys_named b))))))

-- byte 4 and bytes 5-7
four-zeros : (b : List ℕ) → length b ≡ area_length → all_zero (part b 4 4) ≡ (eqb (get_or b 4 0) 0 && all_zero (part b 5 3))
unfolding part all_zero
four-zeros b long = ap (λ (l : List ℕ). all (λ x. eqb x 0) (take 4 l)) (drop-cons b 4 0 (omega arith))

names-before : (b : List ℕ) → of_two b ≡ false → names_distinct b ≡ names_distinct_before b
unfolding names_distinct name_again
names-before b e = go (of_two b) e
  where
    go : (two : Bool) → two ≡ false → every (λ n. not (cond two (pin_twice b n || name_thrice b n) (name_twice b n))) 128 ≡ names_distinct_before b
    go true d = absurd (false≢true (sym d))
    go false d = refl

head-before : (b : List ℕ) → length b ≡ area_length → head_sound_before b ≡ (head_sound b && not (of_two b))
unfolding head_sound
head-before b long =
    ap (λ (z : Bool). leb (latest_in b) clock_limit && z) (four-zeros b long)
    ∙ byte (leb (latest_in b) clock_limit) (all_zero (part b 5 3)) (get_or b 4 0)
  where
    byte : (l z : Bool) (n : ℕ) → (l && (eqb n 0 && z)) ≡ ((l && (leb n 1 && z)) && not (eqb n 1))
    byte false z n = refl
    byte true z zero = sym (and-true z)
    byte true z (suc zero) = sym (and-false z)
    byte true z (suc (suc n)) =
        rw (ne_eqb (suc (suc n)) 0 (λ e. omega arith), lt-leb (suc (suc n)) 1 (omega arith))

pub sound-before : (b : List ℕ) → sound_before b ≡ (sound b && not (of_two b))
unfolding sound
sound-before b = by_test (eqb (length b) area_length) long short
  where
    short : eqb (length b) area_length ≡ false → sound_before b ≡ (sound b && not (of_two b))
    short e = rw e

    turn : (h two k d n m x y : Bool)
        → ((h && not two) && (k && (d && (n && (m && (x && y)))))) ≡ ((h && (k && (d && (n && (m && (x && y)))))) && not two)
    turn true two k d n m x y = and_comm (not two) (k && (d && (n && (m && (x && y)))))
    turn false two k d n m x y = refl

    swap : (two h k d n x y before after : Bool) → (two ≡ false → after ≡ before)
        → ((h && not two) && (k && (d && (n && (before && (x && y)))))) ≡ ((h && not two) && (k && (d && (n && (after && (x && y))))))
    swap true h k d n x y before after e = ap₂ ◌&&◌ (and-false h) refl ∙ sym (ap₂ ◌&&◌ (and-false h) refl)
    swap false h k d n x y before after e = ap (λ (a : Bool). (h && true) && (k && (d && (n && (a && (x && y)))))) (sym (e refl))

    long : eqb (length b) area_length ≡ true → sound_before b ≡ (sound b && not (of_two b))
    long e =
        rw e
        (ap (λ (h : Bool). h && (keys_shaped b && (keys_distinct b && (names_shaped b && (names_distinct_before b && (names_keyed b && keys_named b))))))
        (head-before b (eqb-true (length b) area_length e))
        ∙ swap (of_two b) (head_sound b) (keys_shaped b) (keys_distinct b) (names_shaped b) (names_keyed b) (keys_named b) (names_distinct_before b) (names_distinct b) (names-before b)
        ∙ turn (head_sound b) (of_two b) (keys_shaped b) (keys_distinct b) (names_shaped b) (names_distinct b) (names_keyed b) (keys_named b))

-- 27 is not given
pub refused-before : (c : Connection) (t : Table) → t.two ≡ false → first (table_tests_of (judge c) t) ≡ first (connection_tests c t)
refused-before c t e = rw e

-- 'started', 'all zero'
pub started-before : (b : List ℕ) → length b ≡ area_length → area_after (start false) b ≡ replicate area_length 0
started-before b long = started false b long ∙ empty-zeros
