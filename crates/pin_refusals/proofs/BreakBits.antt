-- Whether all break signatures are correct depends on their number alone: the bits below it have to be 1.
use mathlib.Core.Path.{◌≡◌, refl, sym, ◌∙◌}
use mathlib.Core.Bool.{true, false, and-false}
use mathlib.Core.List.{List}
use Prim.Native.Nat.{ℕ, zero, suc, ◌/◌, ◌%◌, ◌<◌, ◌≤◌}
use native.Mathlib.Omega.{arith}
use lib.Count.{count_trailing_zeros}
use lib.Dec.{eqb, leb}
use lib.ListN.{length, drop}
use borrow.Author.Tests.{eq-eqb, ne_eqb, eqb-true, eqb-false, le-leb, leb-true, leb-false}
use Rattle.std.specs.Int.{bit_at, trailing_ones, w8}
use Rattle.std.proofs.lemmas.Nat.Bits.{bit_at_lowest, bit_at-suc, bit_at_ones, bit_at-trailing_ones}
use Rattle.octets.proofs.Tests.{by_test}
use Rattle.tack_extension.specs.Tack.{each_break, break_signatures}
use Rattle.pin_model.specs.Refusals.{all_correct}

-- n signatures, whose bits are 1
each-there : (n : ℕ) (b : List ℕ) (bits : ℕ) → ((i : ℕ) → i < n → bit_at bits i ≡ 1) → all_correct (each_break n b) bits ≡ true
unfolding each_break
each-there zero b bits h = refl
each-there (suc n) b bits h =
    let lowest : bits % 2 ≡ 1 = sym (bit_at_lowest bits) ∙ h 0 (omega arith) in
    rw (eq-eqb (bits % 2) 1 lowest) (each-there n (drop 128 b) (bits / 2) (λ i k. sym (bit_at-suc bits i) ∙ h (suc i) (omega arith)))

-- and one whose bit is 0
each-missing : (n : ℕ) (b : List ℕ) (bits i : ℕ) → i < n → bit_at bits i ≡ 0 → all_correct (each_break n b) bits ≡ false
unfolding each_break
each-missing zero b bits i h e = absurd (omega arith)
each-missing (suc n) b bits zero h e =
    let lowest : bits % 2 ≡ 0 = sym (bit_at_lowest bits) ∙ e in
    rw (ne_eqb (bits % 2) 1 (λ d. omega arith)) refl
each-missing (suc n) b bits (suc i) h e =
    rw (each-missing n (drop 128 b) (bits / 2) i (omega arith) (sym (bit_at-suc bits i) ∙ e)) (and-false (eqb (bits % 2) 1))

-- n signatures, at most as many as there are bits
counted : (n : ℕ) (b : List ℕ) (bits : ℕ) → bits < 256 → n ≤ 8 → leb n (trailing_ones w8 bits) ≡ all_correct (each_break n b) bits
unfolding count_trailing_zeros
counted n b bits byte few =
    by_test (eqb bits 255)
    (λ all. let its : bits ≡ 255 = eqb-true bits 255 all in rw its (le-leb n 8 few ∙ sym (each-there n b 255 (λ i k. bit_at_ones 8 i (omega arith)))))
    (λ f.
    let its : bits ≡ 255 → ⊥ = eqb-false bits 255 f in
    let at = bit_at-trailing_ones w8 bits (omega arith) in
    by_test (leb n (trailing_ones w8 bits))
    (λ yes. let most : n ≤ trailing_ones w8 bits = leb-true n (trailing_ones w8 bits) yes in yes ∙ sym (each-there n b bits (λ i k. at.2 i (omega arith))))
    (λ no.
    let over : trailing_ones w8 bits < n = leb-false n (trailing_ones w8 bits) no in
    no ∙ sym (each-missing n b bits (trailing_ones w8 bits) over at.1)))

pub bits-counted : (b : List ℕ) (bits : ℕ) → bits < 256 → length b ≤ 1024 → leb (length b / 128) (trailing_ones w8 bits) ≡ all_correct (break_signatures b) bits
unfolding break_signatures
bits-counted b bits byte size = counted (length b / 128) b bits byte (omega arith)
