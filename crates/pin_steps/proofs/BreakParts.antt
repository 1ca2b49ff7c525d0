-- The loop over the break signatures: the area after the first i of them.
use mathlib.Core.Path.{◌≡◌, refl, sym, ◌∙◌, ap, subst}
use mathlib.Core.List.{List, [], ◌∷◌, ◌++◌, map, map-append}
use Prim.Native.Nat.{ℕ, zero, suc, ◌+◌, ◌/◌, ◌≤◌, ◌<◌}
use native.Mathlib.Numerals.{add-one}
use native.Mathlib.Omega.{arith}
use lib.ListN.{length, get_or, take, drop}
use lib.Seq.{take-suc, take_all}
use Rattle.std.specs.Simd.{first_chunks}
use Rattle.tack_extension.specs.Tack.{break_key, each_break, break_signatures}
use Rattle.pin_model.specs.Table.{Table}
use Rattle.pin_model.specs.Layout.{decode}
use Rattle.pin_model.specs.Judge.{break}
use Rattle.pin_records.specs.Holds.{Holds}
use Rattle.pin_records.proofs.HeldSlots.{holds-decode}
use Rattle.pin_steps.proofs.BrokenKeys.{break-more, break-none}

each-length : (n : ℕ) (b : List ℕ) → length (each_break n b) ≡ n
unfolding each_break
each-length zero b = refl
each-length (suc n) b = ap suc (each-length n (drop 128 b))

count-breaks : (b : List ℕ) → length (break_signatures b) ≡ length b / 128
unfolding break_signatures
count-breaks b = each-length (length b / 128) b

-- the chunks of 128 bytes are the break signatures
each-chunk : (n : ℕ) (b : List ℕ) → first_chunks 128 n b ≡ each_break n b
unfolding each_break
each-chunk zero b = refl
each-chunk (suc n) b = ap (λ (l : List (List ℕ)). take 128 b ∷ l) (each-chunk n (drop 128 b))

pub signed-chunks : (b : List ℕ) → first_chunks 128 (length b / 128) b ≡ break_signatures b
unfolding break_signatures
signed-chunks b = each-chunk (length b / 128) b

-- the keys of the first i break signatures
abbrev pub first_broken : List ℕ → ℕ → List (List ℕ)
first_broken b i = map break_key (take i (break_signatures b))

module _ (b : List ℕ) (t : Table) {a : List ℕ} where
  pub breaks-start : Holds a t → Holds a (break (first_broken b 0) t)
  breaks-start h = subst (Holds a) (sym (break-none t)) h

  module _ (i : ℕ) (h : Holds a (break (first_broken b i) t)) where
    pub breaks-next : {d s key : List ℕ} → i < length b / 128 → s ≡ get_or (break_signatures b) i [] → key ≡ break_key s
        → Holds d (break (key ∷ []) (decode a)) → Holds d (break (first_broken b (i + 1)) t)
    breaks-next {d} {s} {key} l e f g =
        let more : first_broken b i ++ (key ∷ []) ≡ first_broken b (i + 1) =
        ap (λ (k : List ℕ). first_broken b i ++ (k ∷ [])) (f ∙ ap break_key e)
        ∙ sym (map-append break_key (take i (break_signatures b)) (get_or (break_signatures b) i [] ∷ []))
        ∙ ap (map break_key) (sym (take-suc (break_signatures b) i [] (omega (arith, count-breaks b))) ∙ ap (λ (n : ℕ). take n (break_signatures b)) (sym (add-one i))) in
        subst (Holds d) (ap (break (key ∷ [])) (holds-decode h) ∙ break-more (first_broken b i) (key ∷ []) t ∙ ap (λ (ks : List (List ℕ)). break ks t) more) g

    pub breaks-end : length b / 128 ≤ i → Holds a (break (map break_key (break_signatures b)) t)
    breaks-end l =
        subst (λ (l : List (List ℕ)). Holds a (break (map break_key l) t)) (take_all i (break_signatures b) (omega (arith, count-breaks b))) h
