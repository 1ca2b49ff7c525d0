-- What the reader's steps read, and the reading as far as they came: what the reader's functions have to show.
use mathlib.Core.Path.{◌≡◌, refl, sym, ap, ◌∙◌}
use mathlib.Core.Bool.{Bool, true, false, cond}
use mathlib.Core.List.{List, [], ◌∷◌}
use mathlib.Core.Option.{none, some}
use Prim.Native.Nat.{ℕ, ◌≤◌, ◌<◌}
use native.Mathlib.Omega.{arith}
use lib.Dec.{leb}
use lib.ListN.{length, get_or, take, drop}
use borrow.Author.Tests.{le-leb, lt-leb}
use Rattle.std.specs.Prelude.{Option, Some, None, MatchOption}
use Rattle.std.specs.Borrow.{Bor}
use Rattle.std.specs.List.{IsSplitAt}
use Rattle.std.specs.Array.{IsWholeChunk}
use Rattle.std.proofs.lemmas.Bool.Decides.{nat_tests}
use Rattle.octets.specs.Octets.{number}
use Rattle.octets.proofs.Tests.{by_test}
use Rattle.tack_extension.specs.Extension.{parts, read, refused, cut, tack_length, breaks_length, length_step, last_step, tack_step, breaks_step, activation_step, after_tack, after_breaks, after_activation, parse}
use Rattle.tack_extension.specs.Steps.{part_read}
use Rattle.tack_extension.proofs.Steps.{Cut, cut-read, never-read}

pub no-length : (n : ℕ) → (n ≡ 0 → ⊥) → (n ≡ 166 → ⊥) → tack_length n ≡ false
no-length n f g = grind (arith, nat_tests)

-- the tack's step, by the first byte
pub tack-none : (s : List ℕ) → length s ≡ 0 → refused ≡ tack_step s
unfolding tack_step
tack-none [] h = refl
tack-none (n ∷ s) h = absurd (omega arith)

pub tack-some : (s : List ℕ) (n : ℕ) (r : List ℕ) → s ≡ n ∷ r → tack_step s ≡ cond (tack_length n) (cut n r) refused
unfolding tack_step
tack-some s n r e = rw e refl

-- that many bytes
pub cut-short : (n : ℕ) (s : List ℕ) → length s < n → refused ≡ cut n s
cut-short n s h = rw (lt-leb n (length s) h) refl

pub cut-taken : (n : ℕ) (s : List ℕ) {p r : List ℕ} → n ≤ length s → p ≡ take n s → r ≡ drop n s → read p r ≡ cut n s
cut-taken n s h e f = rw (le-leb n (length s) h, e, f) refl

-- as `split_at_checked` cuts them
pub cut-split : (x : Option (Bor (List ℕ) × Bor (List ℕ))) (s : List ℕ) (n : ℕ)
    → MatchOption x (length s < n) (λ p. IsSplitAt s n p.0.now p.1.now) → part_read x ≡ cut n s
cut-split None s n h = cut-short n s h
cut-split (Some p) s n h = cut-taken n s h.0 h.1 h.2

-- a step behind two length bytes, and the last byte's
module _ (test : ℕ → Bool) where
  pub no-two-bytes : (s : List ℕ) → length s < 2 → refused ≡ length_step test s
  unfolding length_step
  no-two-bytes [] h = refl
  no-two-bytes (x ∷ []) h = refl
  no-two-bytes (x ∷ y ∷ s) h = absurd (omega arith)

  pub two_bytes : (s : List ℕ) (n : ℕ) → 2 ≤ length s → n ≡ number (take 2 s) → length_step test s ≡ cond (test n) (cut n (drop 2 s)) refused
  unfolding length_step
  two_bytes [] n h e = absurd (omega arith)
  two_bytes (x ∷ []) n h e = absurd (omega arith)
  two_bytes (x ∷ y ∷ s) n h e = rw e refl

  pub not-one-byte : (s : List ℕ) → (length s ≡ 1 → ⊥) → last_step test s ≡ none
  unfolding last_step
  not-one-byte [] h = refl
  not-one-byte (a ∷ []) h = absurd (h refl)
  not-one-byte (a ∷ b ∷ s) h = refl

  pub one_byte : (s : List ℕ) → length s ≡ 1 → last_step test s ≡ cond (test (get_or s 0 0)) (some (get_or s 0 0)) none
  unfolding last_step
  one_byte [] h = absurd (omega arith)
  one_byte (b ∷ []) h = refl
  one_byte (b ∷ x ∷ s) h = absurd (omega arith)

  -- a part that was read untested, and its length tested afterwards
  pub untested : (s : List ℕ) → refused ≡ length_step (λ n. true) s → length_step test s ≡ refused
  unfolding length_step
  untested [] h = refl
  untested (x ∷ []) h = refl
  untested (x ∷ y ∷ s) h =
      let n : ℕ = number (x ∷ y ∷ []) in
      by_test (test n) (λ e. rw e (sym h)) (λ e. rw e refl)

  pub tested : (s b r : List ℕ) → read b r ≡ length_step (λ n. true) s → length_step test s ≡ cond (test (length b)) (read b r) refused
  unfolding length_step
  tested [] b r h = never-read (sym h)
  tested (x ∷ []) b r h = never-read (sym h)
  tested (x ∷ y ∷ s) b r h =
      let w : Cut (number (x ∷ y ∷ [])) s b r = cut-read _ s b r (sym h) in
      rw (w.size, h) refl

-- the reading
pub no-tack : (s : List ℕ) → refused ≡ tack_step s → none ≡ parse s
unfolding parse
no-tack s e = ap after_tack e

module _ (s t r : List ℕ) (e : read t r ≡ tack_step s) where
  behind-tack : parse s ≡ after_breaks t (breaks_step r)
  unfolding parse
  behind-tack = ap after_tack (sym e)

  pub no-breaks : refused ≡ length_step (λ n. true) r → none ≡ parse s
  unfolding breaks_step
  no-breaks f = sym (behind-tack ∙ ap (after_breaks t) (untested breaks_length r f))

  module _ (b q : List ℕ) (f : read b q ≡ length_step (λ n. true) r) where
    pub bad-breaks : breaks_length (length b) ≡ false → none ≡ parse s
    unfolding breaks_step
    bad-breaks g = sym (behind-tack ∙ ap (after_breaks t) (tested breaks_length r b q f ∙ ap (λ (x : Bool). cond x (read b q) refused) g))

    module _ (g : breaks_length (length b) ≡ true) where
      behind-breaks : parse s ≡ after_activation t b (activation_step q)
      unfolding breaks_step
      behind-breaks =
          behind-tack ∙ ap (after_breaks t) (tested breaks_length r b q f ∙ ap (λ (x : Bool). cond x (read b q) refused) g)

      pub no-activation : (length q ≡ 1 → ⊥) → none ≡ parse s
      unfolding activation_step
      no-activation h = sym (behind-breaks ∙ ap (after_activation t b) (not-one-byte (λ a. leb a 1) q h))

      behind-activation : length q ≡ 1 → (y : Bool) → leb (get_or q 0 0) 1 ≡ y → parse s ≡ after_activation t b (cond y (some (get_or q 0 0)) none)
      unfolding activation_step
      behind-activation h y k =
          behind-breaks
          ∙ ap (after_activation t b) (one_byte (λ a. leb a 1) q h ∙ ap (λ (x : Bool). cond x (some (get_or q 0 0)) none) k)

      -- y is the one byte, as an array
      pub bad-activation : (y : List ℕ) → IsWholeChunk q y 1 → leb (get_or y 0 0) 1 ≡ false → none ≡ parse s
      bad-activation y h k = sym (behind-activation h.long false (rw h.same at k))

      pub all-read : (y : List ℕ) → IsWholeChunk q y 1 → leb (get_or y 0 0) 1 ≡ true → some (parts t b (get_or y 0 0)) ≡ parse s
      all-read y h k = rw h.same (sym (behind-activation h.long true (rw h.same at k)))
