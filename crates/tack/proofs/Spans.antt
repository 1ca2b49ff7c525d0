-- A span cuts out the part that it speaks of.
use mathlib.Core.Path.{◌≡◌, refl, sym, ap, ◌∙◌}
use mathlib.Core.List.{List, [], ◌∷◌, ◌++◌}
use Prim.Native.Nat.{ℕ, suc, ◌+◌}
use native.Mathlib.Omega.{arith}
use lib.Dec.{eqb}
use lib.ListN.{length, take, drop}
use lib.Seq.{take-append_seam, drop-append-add}
use borrow.Author.Tests.{eqb-true}
use Rattle.octets.specs.Octets.{part}
use Rattle.octets.proofs.Tests.{by_test}
use Rattle.octets.proofs.Options.{by_option}
use Rattle.tack_extension.specs.Extension.{parse, tack_part, breaks_part}
use Rattle.tack_extension.proofs.Steps.{parsed}
use Rattle.tack.specs.Extension.{span_of, breaks_start}
use Rattle.tack.specs.declared.extension.Span.{Span}

pub none_left : (s : List ℕ) (at : ℕ) → part s at 0 ≡ []
unfolding part
none_left s at = refl

-- where the two parts lie
tack-cut : (n : ℕ) (t r : List ℕ) → part (n ∷ (t ++ r)) 1 (length t) ≡ t
unfolding part
tack-cut n t r = take-append_seam t r

breaks-cut : (n h l : ℕ) (t b r : List ℕ) → part (n ∷ (t ++ (h ∷ (l ∷ (b ++ r))))) (length t + 3) (length b) ≡ b
unfolding part
breaks-cut n h l t b r =
    let e : length t + 3 ≡ suc (length t + 2) = omega arith in
    ap (λ (k : ℕ). take (length b) (drop k (n ∷ (t ++ (h ∷ (l ∷ (b ++ r))))))) e
    ∙ ap (take (length b)) (drop-append-add t (h ∷ (l ∷ (b ++ r))) 2)
    ∙ take-append_seam b r

tack-place : (s : List ℕ) → part s 1 (length (tack_part s)) ≡ tack_part s
unfolding tack_part
tack-place s =
    by_option (parse s)
    (λ p e.
    let w = parsed s p e in
    rw e (ap (λ (l : List ℕ). part l 1 (length p.tack)) (sym w.tack.bytes) ∙ tack-cut (length p.tack) p.tack w.after_tack))
    (λ e. rw e (none_left s 1))

breaks-place : (s : List ℕ) → part s (breaks_start s) (length (breaks_part s)) ≡ breaks_part s
unfolding tack_part breaks_part
breaks-place s =
    by_option (parse s)
    (λ p e.
    let w = parsed s p e in
    let whole : length p.tack ∷ (p.tack ++ (w.breaks.high ∷ (w.breaks.low ∷ (p.breaks ++ w.after_breaks)))) ≡ s =
    ap (λ (l : List ℕ). length p.tack ∷ (p.tack ++ l)) w.breaks.bytes ∙ w.tack.bytes in
    rw e
    (ap (λ (l : List ℕ). part l (length p.tack + 3) (length p.breaks)) (sym whole)
    ∙ breaks-cut (length p.tack) w.breaks.high w.breaks.low p.tack p.breaks w.after_breaks))
    (λ e. rw e (none_left s 3))

-- a span of a part that lies at its start cuts out that part, also where the part is empty
pub span-cuts : (s : List ℕ) (start : ℕ) (p : List ℕ) (r : Span) → r ≡ span_of start (length p) → part s start (length p) ≡ p → part s r.start r.length ≡ p
unfolding span_of
span-cuts s start p r e h =
    by_test (eqb (length p) 0)
    (λ z.
    let f : r ≡ record { start = 0; length = 0 } = e ∙ simp z in
    let n : length p ≡ 0 = eqb-true (length p) 0 z in
    rw f (none_left s 0 ∙ sym (none_left s start) ∙ ap (part s start) (sym n) ∙ h))
    (λ z. let f : r ≡ record { start = start; length = length p } = e ∙ simp z in rw f h)

pub tack-span : (s : List ℕ) (t : List ℕ) (r : Span) → t ≡ tack_part s → r ≡ span_of 1 (length t)
    → (r ≡ span_of 1 (length (tack_part s))) × (part s r.start r.length ≡ tack_part s)
tack-span s t r et er =
    let e : r ≡ span_of 1 (length (tack_part s)) = er ∙ ap (λ (l : List ℕ). span_of 1 (length l)) et in
    (e, span-cuts s 1 (tack_part s) r e (tack-place s))

pub breaks-span : (s : List ℕ) (t b : List ℕ) (r : Span) → t ≡ tack_part s → b ≡ breaks_part s → r ≡ span_of (length t + 3) (length b)
    → (r ≡ span_of (breaks_start s) (length (breaks_part s))) × (part s r.start r.length ≡ breaks_part s)
breaks-span s t b r et eb er =
    let e : r ≡ span_of (breaks_start s) (length (breaks_part s)) =
    er ∙ ap (λ (l : List ℕ). span_of (length l + 3) (length b)) et ∙ ap (λ (l : List ℕ). span_of (breaks_start s) (length l)) eb in
    (e, span-cuts s (breaks_start s) (breaks_part s) r e (breaks-place s))
