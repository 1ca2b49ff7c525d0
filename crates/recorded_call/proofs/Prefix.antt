-- More bytes behind a call that was taken, or that is bad, change nothing in front of them: what a stream needs.
use mathlib.Core.Path.{◌≡◌, refl}
use mathlib.Core.Bool.{true, ◌&&◌}
use mathlib.Core.List.{List, [], ◌∷◌, ◌++◌}
use mathlib.Core.Option.{Option, none, some}
use Prim.Native.Nat.{ℕ, ◌+◌, ◌≤◌}
use native.Mathlib.Omega.{arith}
use lib.Dec.{leb, ltb, eqb}
use lib.ListN.{length, get_or, length-append}
use lib.Seq.{take-append-le, drop-append-le}
use borrow.Author.Tests.{leb-true, le-leb}
use Rattle.octets.specs.Octets.{number}
use Rattle.octets.proofs.Tests.{by_test}
use Rattle.pin_model.specs.Connection.{Connection}
use Rattle.recorded_call.specs.RecordedCall.{Front, taken, cut_off, bad, and_then, field, answers_field, extension_field, called, recorded}
use Rattle.recorded_call.proofs.Taken.{FieldTaken, ExtensionTaken, call-parts}

-- what stands in front of the longer bytes, by what stood there; of what is cut off nothing is said
abbrev Longer : {A : Type 0} → List ℕ → Front A → Front A → Type 0
Longer more (taken a rest) y = y ≡ taken a (rest ++ more)
Longer more cut_off y = y ≡ y
Longer more bad y = y ≡ bad

longer-then : {A B : Type 0} (more : List ℕ) (x y : Front A) (next : A → List ℕ → Front B) → Longer more x y
    → ((a : A) (rest : List ℕ) → Longer more (next a rest) (next a (rest ++ more))) → Longer more (and_then x next) (and_then y next)
longer-then more (taken a rest) y next h k = rw h (k a rest)
longer-then more cut_off y next h k = refl
longer-then more bad y next h k = rw h refl

field-longer : (tag least most : ℕ) (s more : List ℕ) → Longer more (field tag least most s) (field tag least most (s ++ more))
unfolding field
field-longer tag least most [] more = refl
field-longer tag least most (t ∷ []) more = refl
field-longer tag least most (t ∷ h ∷ []) more = refl
field-longer tag least most (t ∷ h ∷ l ∷ s) more =
    let n : ℕ = number (h ∷ l ∷ []) in
    by_test (eqb t tag && (leb least n && leb n most))
    (λ e. by_test (leb n (length s))
    (λ f.
    let fits : n ≤ length s = leb-true n (length s) f in
    let g : leb n (length (s ++ more)) ≡ true = le-leb n (length (s ++ more)) (omega (arith, length-append s more)) in
    simp (e, f, g) (rw (take-append-le n s more fits, drop-append-le n s more fits) refl))
    (λ f. simp (e, f) refl))
    (λ e. simp e refl)

answers-longer : (s more : List ℕ) → Longer more (answers_field s) (answers_field (s ++ more))
answers-longer s more =
    longer-then more (field 3 2 2 s) (field 3 2 2 (s ++ more)) _ (field-longer 3 2 2 s more)
    (λ answers rest. by_test (ltb (get_or answers 0 0) 8) (λ e. simp e refl) (λ e. simp e refl))

-- an extension that did not come is known by the tag behind it, so that the end belongs to it
abbrev ending : (Option (List ℕ) → Connection) → Option (List ℕ) → List ℕ → Front Connection
ending call extension s = and_then (field 6 0 0 s) (λ end s. taken (call extension) s)

ending-longer : (call : Option (List ℕ) → Connection) (extension : Option (List ℕ)) (s more : List ℕ)
    → Longer more (ending call extension s) (ending call extension (s ++ more))
ending-longer call extension s more =
    longer-then more (field 6 0 0 s) (field 6 0 0 (s ++ more)) _ (field-longer 6 0 0 s more) (λ end rest. refl)

abbrev came : List ℕ → Front (Option (List ℕ))
came s = and_then (field 5 0 4096 s) (λ extension rest. taken (some extension) rest)

came-longer : (s more : List ℕ) → Longer more (came s) (came (s ++ more))
came-longer s more =
    longer-then more (field 5 0 4096 s) (field 5 0 4096 (s ++ more)) _ (field-longer 5 0 4096 s more) (λ extension rest. refl)

extension-longer : (call : Option (List ℕ) → Connection) (s more : List ℕ)
    → Longer more (and_then (extension_field s) (ending call)) (and_then (extension_field (s ++ more)) (ending call))
unfolding field
extension-longer call [] more = refl
extension-longer call (t ∷ s) more =
    by_test (eqb t 5)
    (λ e. simp e
    (longer-then more (came (t ∷ s)) (came (t ∷ (s ++ more))) (ending call) (came-longer (t ∷ s) more)
    (λ extension rest. ending-longer call extension rest more)))
    (λ e. simp e (ending-longer call none (t ∷ s) more))

call-longer : (s more : List ℕ) → Longer more (recorded s) (recorded (s ++ more))
unfolding recorded
call-longer s more =
    longer-then more (field 1 4 4 s) (field 1 4 4 (s ++ more)) _ (field-longer 1 4 4 s more) (λ clock s₁.
    longer-then more (field 2 0 300 s₁) (field 2 0 300 (s₁ ++ more)) _ (field-longer 2 0 300 s₁ more) (λ name s₂.
    longer-then more (answers_field s₂) (answers_field (s₂ ++ more)) _ (answers-longer s₂ more) (λ answers s₃.
    longer-then more (field 4 32 32 s₃) (field 4 32 32 (s₃ ++ more)) _ (field-longer 4 32 32 s₃ more) (λ hash s₄.
    extension-longer (called clock name answers hash) s₄ more))))

pub taken-longer : (s : List ℕ) (c : Connection) (rest : List ℕ) → recorded s ≡ taken c rest → (more : List ℕ)
    → recorded (s ++ more) ≡ taken c (rest ++ more)
taken-longer s c rest h more = rw h at (call-longer s more)

pub bad-longer : (s : List ℕ) → recorded s ≡ bad → (more : List ℕ) → recorded (s ++ more) ≡ bad
bad-longer s h more = rw h at (call-longer s more)

-- a call has 53 bytes at least
field-shorter : {tag least most : ℕ} {s v r : List ℕ} → FieldTaken tag least most s v r → length r + (3 + least) ≤ length s
field-shorter {s = s} {v = v} {r = r} f = rw f.bytes (omega (arith, length-append v r, f.lower))

extension-shorter : (s : List ℕ) (o : Option (List ℕ)) (r : List ℕ) → ExtensionTaken s o r → length r ≤ length s
extension-shorter s none r e = rw e (omega arith)
extension-shorter s (some v) r f = omega (arith, field-shorter f)

pub taken-shorter : (s : List ℕ) (c : Connection) (rest : List ℕ) → recorded s ≡ taken c rest → length rest + 53 ≤ length s
taken-shorter s c rest h =
    let w = call-parts s c rest h in
    omega (
      arith,
      field-shorter w.first,
      field-shorter w.second,
      field-shorter w.third,
      field-shorter w.fourth,
      extension-shorter w.s₄ w.extension w.s₅ w.fifth,
      field-shorter w.sixth,
    )
