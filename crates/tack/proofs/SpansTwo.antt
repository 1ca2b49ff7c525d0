-- A span of edition two cuts out the tack that it speaks of.
use mathlib.Core.Path.{◌≡◌, sym, ap, ◌∙◌, subst}
use mathlib.Core.Bool.{Bool, true, false}
use mathlib.Core.List.{List, ◌∷◌, ◌++◌}
use mathlib.Core.Option.{Option, none, some}
use Prim.Native.Nat.{ℕ, ◌≤◌}
use lib.ListN.{length, take, drop}
use lib.Seq.{length-take-le, take-append-le, drop-append-le, take-append_seam}
use Rattle.octets.specs.Octets.{part}
use Rattle.octets.proofs.Options.{by_option}
use Rattle.tack_extension_two.specs.ExtensionTwo.{PartsTwo, parse_two, parts_or_none}
use Rattle.tack_extension_two.proofs.GoodTwo.{tacks-between}
use Rattle.tack_extension_two.proofs.StepsTwo.{ParsedTwo, parsed-two}
use Rattle.tack.specs.Extension.{span_of}
use Rattle.tack.specs.ExtensionTwo.{tack_in, tack_start}
use Rattle.tack.specs.declared.extension.Span.{Span}
use Rattle.tack.proofs.Spans.{none_left, span-cuts}

-- where the two tacks lie, behind two length bytes
first-cut : (h l : ℕ) (t r : List ℕ) → 166 ≤ length t → part (h ∷ (l ∷ (t ++ r))) 2 (length (take 166 t)) ≡ take 166 t
unfolding part
first-cut h l t r m = ap (λ (n : ℕ). take n (t ++ r)) (length-take-le 166 t m) ∙ take-append-le 166 t r m

second-cut : (h l : ℕ) (t r : List ℕ) → 166 ≤ length t → part (h ∷ (l ∷ (t ++ r))) 168 (length (drop 166 t)) ≡ drop 166 t
unfolding part
second-cut h l t r m = ap (take (length (drop 166 t))) (drop-append-le 166 t r m) ∙ take-append_seam (drop 166 t) r

tack-place : (second : Bool) (s : List ℕ) → part s (tack_start second) (length (tack_in second s)) ≡ tack_in second s
tack-place second s =
    by_option (parse_two s)
    (λ p e.
    let w : ParsedTwo s p = parsed-two s p e in
    let r = w.read-tacks in
    let long : 166 ≤ length w.tacks = (tacks-between (length w.tacks) r.allowed).0 in
    go second p e w long)
    (λ e. empty second e)
  where
    empty : (second : Bool) → parse_two s ≡ none → part s (tack_start second) (length (tack_in second s)) ≡ tack_in second s
    empty true e = subst (λ (o : Option PartsTwo). part s 168 (length (parts_or_none o).second) ≡ (parts_or_none o).second) (sym e) (none_left s 168)
    empty false e = subst (λ (o : Option PartsTwo). part s 2 (length (parts_or_none o).first) ≡ (parts_or_none o).first) (sym e) (none_left s 2)

    cut_at : (at : ℕ) (field : PartsTwo → List ℕ) (p : PartsTwo) → parse_two s ≡ some p → (w : ParsedTwo s p) {t : List ℕ}
        → t ≡ field p → part (w.read-tacks.high ∷ (w.read-tacks.low ∷ (w.tacks ++ w.after))) at (length t) ≡ t
        → part s at (length (field (parts_or_none (parse_two s)))) ≡ field (parts_or_none (parse_two s))
    cut_at at field p e w {t} its h =
        subst (λ (o : Option PartsTwo). part s at (length (field (parts_or_none o))) ≡ field (parts_or_none o)) (sym e)
        (subst (λ (x : List ℕ). part s at (length x) ≡ x) its
        (subst (λ (x : List ℕ). part x at (length t) ≡ t) w.read-tacks.bytes h))

    go : (second : Bool) (p : PartsTwo) → parse_two s ≡ some p → (w : ParsedTwo s p) → 166 ≤ length w.tacks
        → part s (tack_start second) (length (tack_in second s)) ≡ tack_in second s
    go true p e w long =
        cut_at 168 (λ x. x.second) p e w (ap (λ (x : PartsTwo). x.second) w.parts)
        (second-cut w.read-tacks.high w.read-tacks.low w.tacks w.after long)
    go false p e w long =
        cut_at 2 (λ x. x.first) p e w (ap (λ (x : PartsTwo). x.first) w.parts)
        (first-cut w.read-tacks.high w.read-tacks.low w.tacks w.after long)

pub span-two : (second asked : Bool) → asked ≡ second → (s : List ℕ) {t : List ℕ} (r : Span) → t ≡ tack_in second s → r ≡ span_of (tack_start second) (length t)
    → (r ≡ span_of (tack_start asked) (length (tack_in asked s))) × (part s r.start r.length ≡ tack_in asked s)
span-two second asked d s r et er =
    let e : r ≡ span_of (tack_start second) (length (tack_in second s)) = er ∙ ap (λ (l : List ℕ). span_of (tack_start second) (length l)) et in
    subst (λ (b : Bool). (r ≡ span_of (tack_start b) (length (tack_in b s))) × (part s r.start r.length ≡ tack_in b s)) (sym d)
    (e, span-cuts s (tack_start second) (tack_in second s) r e (tack-place second s))
