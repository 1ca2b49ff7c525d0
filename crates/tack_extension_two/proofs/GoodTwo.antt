-- Which parts are good, and their bytes, where they are cut from one part that holds the tacks.
use mathlib.Core.Path.{◌≡◌, refl, ap, ap₂, ◌∙◌}
use mathlib.Core.Bool.{Bool, true, false, ◌&&◌, ◌||◌, and-false, or-true}
use mathlib.Core.List.{List, [], ◌∷◌, ◌++◌}
use mathlib.Core.Logic.{◌⊎◌, inl, inr, ⊎_elim}
use Prim.Native.Nat.{ℕ, ◌≤◌}
use native.Mathlib.Omega.{arith}
use lib.Dec.{eqb}
use lib.ListN.{length, take, drop, length-drop, length-append, take-append-drop}
use lib.Seq.{length-take-le, take_at, drop_at}
use borrow.Author.Tests.{eqb-true, eq-eqb}
use Rattle.octets.specs.Octets.{big_endian}
use Rattle.octets.proofs.Tests.{and_left, and_right, and_both, or_cases, both_ways}
use Rattle.tack_extension_two.specs.ExtensionTwo.{PartsTwo, parts_two, parts_in, tacks_length, flags_allowed, good_two, bytes_of_two}

pub one-or-two : (n : ℕ) → tacks_length n ≡ true → (n ≡ 166) ⊎ (n ≡ 332)
one-or-two n e = ⊎_elim (λ d. inl (eqb-true n 166 d)) (λ d. inr (eqb-true n 332 d)) (or_cases (eqb n 166) (eqb n 332) e)

pub tacks-between : (n : ℕ) → tacks_length n ≡ true → (166 ≤ n) × (n ≤ 332)
tacks-between n e = ⊎_elim (λ d. (omega arith, omega arith)) (λ d. (omega arith, omega arith)) (one-or-two n e)

-- what good parts are
pub record Good (p : PartsTwo) : Type 0 where
  pub first : length p.first ≡ 166
  pub tacks : tacks_length (length (p.first ++ p.second)) ≡ true
  pub flags : flags_allowed (length (p.first ++ p.second)) p.flags ≡ true

pub good-parts : (p : PartsTwo) → good_two p ≡ true → Good p
good-parts p h =
    let first : length p.first ≡ 166 = eqb-true (length p.first) 166 (and_left _ _ h) in
    let more = and_right (eqb (length p.first) 166) _ h in
    let both = length-append p.first p.second in
    let long : (length (p.first ++ p.second) ≡ 166) ⊎ (length (p.first ++ p.second) ≡ 332) =
    ⊎_elim
    (λ e. inl (omega (arith, eqb-true (length p.second) 0 e)))
    (λ e. inr (omega (arith, eqb-true (length p.second) 166 e)))
    (or_cases (eqb (length p.second) 0) (eqb (length p.second) 166) (and_left _ _ more)) in
    record {
      first = first;
      tacks = ⊎_elim (λ e. rw e) (λ e. rw e) long;
      flags = and_right (eqb (length p.second) 0 || eqb (length p.second) 166) _ more;
    }

-- good parts are those of both tacks in one
pub cut_again : (p : PartsTwo) → length p.first ≡ 166 → parts_in (p.first ++ p.second) p.flags ≡ p
cut_again p e = ap₂ (λ (a b : List ℕ). parts_two a b p.flags) (take_at p.first p.second 166 e) (drop_at p.first p.second 166 e)

-- of one part t with the tacks, and flags f
module _ (t : List ℕ) (f : ℕ) where
  pub in-good : tacks_length (length t) ≡ true → flags_allowed (length t) f ≡ true → good_two (parts_in t f) ≡ true
  in-good e d =
      let enough = tacks-between (length t) e in
      let rest = length-drop 166 t in
      let second : (eqb (length (drop 166 t)) 0 || eqb (length (drop 166 t)) 166) ≡ true =
      ⊎_elim
      (λ k. rw (eq-eqb (length (drop 166 t)) 0 (omega arith)))
      (λ k. rw (eq-eqb (length (drop 166 t)) 166 (omega arith)) (or-true (eqb (length (drop 166 t)) 0)))
      (one-or-two (length t) e) in
      and_both _ _ (eq-eqb (length (take 166 t)) 166 (length-take-le 166 t enough.0))
      (and_both _ _ second (rw (take-append-drop 166 t) d))

  -- by the two tests that the code makes
  good-in : good_two (parts_in t f) ≡ (tacks_length (length t) && flags_allowed (length t) f)
  good-in =
      both_ways (good_two (parts_in t f)) (tacks_length (length t) && flags_allowed (length t) f)
      (λ h.
      let w : Good (parts_in t f) = good-parts (parts_in t f) h in
      and_both _ _ (rw (take-append-drop 166 t) at w.tacks) (rw (take-append-drop 166 t) at w.flags))
      (λ h. in-good (and_left _ _ h) (and_right (tacks_length (length t)) _ h))

  pub bad-tacks : tacks_length (length t) ≡ false → good_two (parts_in t f) ≡ false
  bad-tacks e = good-in ∙ ap (λ (b : Bool). b && flags_allowed (length t) f) e

  pub bad-flags : flags_allowed (length t) f ≡ false → good_two (parts_in t f) ≡ false
  bad-flags e = good-in ∙ ap (λ (b : Bool). tacks_length (length t) && b) e ∙ and-false (tacks_length (length t))

  pub bytes-in : bytes_of_two (parts_in t f) ≡ big_endian 2 (length t) ++ (t ++ (f ∷ []))
  unfolding bytes_of_two
  bytes-in = rw (take-append-drop 166 t) refl
