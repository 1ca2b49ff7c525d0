-- What is cut off has fewer bytes than the longest call, 4,452.
use mathlib.Core.Path.{◌≡◌, refl, sym}
use mathlib.Core.Bool.{cond, ◌&&◌}
use mathlib.Core.List.{List, [], ◌∷◌, ◌++◌}
use mathlib.Core.Option.{Option, none, some}
use Prim.Native.Nat.{ℕ, ◌+◌, ◌≤◌, ◌<◌}
use native.Mathlib.Omega.{arith}
use lib.Dec.{leb, ltb, eqb}
use lib.ListN.{length, get_or, take, drop, length-append}
use borrow.Author.Tests.{leb-true, leb-false}
use Rattle.std.specs.Prelude.{Result, Ok, Err}
use Rattle.octets.specs.Octets.{number}
use Rattle.octets.proofs.Tests.{by_test, and_left, and_right}
use Rattle.octets.proofs.Options.{clash}
use Rattle.pin_model.specs.declared.Checks.{Checks}
use Rattle.pin_model.specs.declared.Connection as declared
use Rattle.pin_model.specs.Seen.{seen}
use Rattle.recorded_call.specs.RecordedCall.{Front, taken, cut_off, bad, and_then, field, answers_field, tagged, extension_field, recorded}
use Rattle.recorded_call.specs.Fronts.{front, Within}
use Rattle.recorded_call.specs.declared.front.CallError.{CallError}
use Rattle.recorded_call.specs.declared.front.CallError.TheVariants.{CutOff, Bad}
use Rattle.recorded_call.specs.declared.front.Taken.{Taken}
use Rattle.recorded_call.proofs.Taken.{FieldTaken, ExtensionTaken, field-parts, answers-parts, extension-parts}
use Rattle.recorded_call.proofs.Prefix.{taken-shorter}

-- the first is cut off, or it is taken and the second is cut off behind it
then-cut : {P A B : Type 0} (x : Front A) (next : A → List ℕ → Front B) → and_then x next ≡ cut_off → (x ≡ cut_off → P)
    → ((a : A) (q : List ℕ) → x ≡ taken a q → next a q ≡ cut_off → P) → P
then-cut (taken a q) next h f g = g a q refl h
then-cut cut_off next h f g = f refl
then-cut bad next h f g = clash (cc)

field-cut : (tag least most : ℕ) (s : List ℕ) → field tag least most s ≡ cut_off → length s < 3 + most
unfolding field
field-cut tag least most [] h = omega arith
field-cut tag least most (t ∷ []) h = omega arith
field-cut tag least most (t ∷ x ∷ []) h = omega arith
field-cut tag least most (t ∷ x ∷ y ∷ s) h =
    let n : ℕ = number (x ∷ y ∷ []) in
    by_test (eqb t tag && (leb least n && leb n most))
    (λ e.
    let below = leb-true n most (and_right (leb least n) (leb n most) (and_right (eqb t tag) (leb least n && leb n most) e)) in
    by_test (leb n (length s))
    (λ f. let k : taken (take n s) (drop n s) ≡ cut_off = simp (e, f) at h in clash (cc))
    (λ f. omega (arith, leb-false n (length s) f)))
    (λ e. let k : bad ≡ cut_off = simp e at h in clash (cc))

-- what is left behind a field that was taken is shorter by its value, at most `most` bytes, and three
shorter-by : {tag least most : ℕ} {s v r : List ℕ} → FieldTaken tag least most s v r → length s ≤ 3 + most + length r
shorter-by {s = s} {v = v} {r = r} f = rw f.bytes (omega (arith, length-append v r, f.upper))

answers-cut : (s : List ℕ) → answers_field s ≡ cut_off → length s < 5
answers-cut s h =
    then-cut (field 3 2 2 s) _ h
    (λ e. field-cut 3 2 2 s e)
    (λ a q e k. by_test (ltb (get_or a 0 0) 8)
    (λ f. let j : taken a q ≡ cut_off = simp f at k in clash (cc))
    (λ f. let j : bad ≡ cut_off = simp f at k in clash (cc)))

extension-cut : (s : List ℕ) → extension_field s ≡ cut_off → length s < 4099
extension-cut s h =
    by_test (tagged 5 s)
    (λ e. then-cut (field 5 0 4096 s) (λ extension rest. taken (some extension) rest) (simp e at h)
    (λ f. field-cut 5 0 4096 s f)
    (λ a q f k. clash (cc)))
    (λ e. let k : taken none s ≡ cut_off = simp e at h in clash (cc))

extension-shorter-by : (s : List ℕ) (o : Option (List ℕ)) (r : List ℕ) → ExtensionTaken s o r → length s ≤ 4099 + length r
extension-shorter-by s none r e = rw e (omega arith)
extension-shorter-by s (some v) r f = shorter-by f

recorded-cut : (s : List ℕ) → recorded s ≡ cut_off → length s < 4452
unfolding recorded
recorded-cut s h =
    then-cut (field 1 4 4 s) _ h (λ e. omega (arith, field-cut 1 4 4 s e)) (λ clock s₁ e₁ h₁.
    let k₁ = shorter-by (field-parts 1 4 4 s clock s₁ e₁) in
    then-cut (field 2 0 300 s₁) _ h₁ (λ e. omega (arith, field-cut 2 0 300 s₁ e)) (λ name s₂ e₂ h₂.
    let k₂ = shorter-by (field-parts 2 0 300 s₁ name s₂ e₂) in
    then-cut (answers_field s₂) _ h₂ (λ e. omega (arith, answers-cut s₂ e)) (λ answers s₃ e₃ h₃.
    let k₃ = shorter-by (answers-parts s₂ answers s₃ e₃).0 in
    then-cut (field 4 32 32 s₃) _ h₃ (λ e. omega (arith, field-cut 4 32 32 s₃ e)) (λ hash s₄ e₄ h₄.
    let k₄ = shorter-by (field-parts 4 32 32 s₃ hash s₄ e₄) in
    then-cut (extension_field s₄) _ h₄ (λ e. omega (arith, extension-cut s₄ e)) (λ extension s₅ e₅ h₅.
    let k₅ = extension-shorter-by s₄ extension s₅ (extension-parts s₄ extension s₅ e₅) in
    then-cut (field 6 0 0 s₅) _ h₅ (λ e. omega (arith, field-cut 6 0 0 s₅ e)) (λ end s₆ e₆ h₆. clash (cc)))))))

-- an answer that is right keeps within the bytes
pub right_within : (s : List ℕ) (r : Result (Taken (declared.Connection Checks)) CallError) → front seen r ≡ recorded s → Within s r
right_within s (Ok t) e = let k = taken-shorter s _ _ (sym e) in omega (arith, k)
right_within s (Err CutOff) e = recorded-cut s (sym e)
right_within s (Err Bad) e = tt
