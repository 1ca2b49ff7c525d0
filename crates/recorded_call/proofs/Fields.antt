-- One field in front of the bytes, by the tests that the code makes.
use mathlib.Core.Path.{◌≡◌, refl, ap}
use mathlib.Core.Bool.{cond, ◌&&◌}
use mathlib.Core.List.{List, [], ◌∷◌}
use Prim.Native.Nat.{ℕ, ◌+◌, ◌≤◌, ◌<◌}
use native.Mathlib.Omega.{arith}
use lib.Dec.{leb, eqb}
use lib.ListN.{length, get_or, take, drop}
use lib.Seq.{take_all}
use Rattle.std.specs.Prelude as std
use Rattle.std.specs.Borrow.{Bor}
use Rattle.octets.specs.Octets.{part, number}
use Rattle.pin_model.specs.declared.Checks.{Checks}
use Rattle.pin_model.specs.Connection.{Connection, connection}
use Rattle.pin_model.specs.Seen.{bytes_in}
use Rattle.recorded_call.specs.RecordedCall.{Front, taken, cut_off, bad, and_then, field, answers_field, extension_field, checks_of, called, recorded}
use Rattle.recorded_call.specs.Fronts.{stopped, bytes_if_any}
use Rattle.recorded_call.specs.declared.front.CallError.{CallError}
use Rattle.recorded_call.specs.declared.front.CallError.TheVariants.{CutOff, Bad}

pub field-short : (tag least most : ℕ) (s : List ℕ) → length s < 3 → field tag least most s ≡ cut_off
unfolding field
field-short tag least most [] h = refl
field-short tag least most (t ∷ []) h = refl
field-short tag least most (t ∷ h' ∷ []) h = refl
field-short tag least most (t ∷ h' ∷ l ∷ s) h = absurd (omega arith)

pub field-long : (tag least most : ℕ) (s : List ℕ) (n : ℕ) → 3 ≤ length s → n ≡ number (part s 1 2)
    → field tag least most s
    ≡ cond (eqb (get_or s 0 0) tag && (leb least n && leb n most))
    (cond (leb n (length (drop 3 s))) (taken (take n (drop 3 s)) (drop n (drop 3 s))) cut_off) bad
unfolding field part
field-long tag least most [] n h e = absurd (omega arith)
field-long tag least most (t ∷ []) n h e = absurd (omega arith)
field-long tag least most (t ∷ h' ∷ []) n h e = absurd (omega arith)
field-long tag least most (t ∷ h' ∷ l ∷ s) n h e = rw e refl

-- what stops a step stops all that would come behind it
pub stops : {A B : Type 0} (e : CallError) (next : A → List ℕ → Front B) → and_then (stopped e) next ≡ stopped e
stops CutOff next = refl
stops Bad next = refl

-- the call of fields that are taken one behind the other
pub called-read : (s : List ℕ) {clock s₁ name s₂ answers s₃ hash s₄ s₅ end rest : List ℕ} (extension : std.Option (Bor (List ℕ))) {at : ℕ} {checks : Checks}
    → taken clock s₁ ≡ field 1 4 4 s
    → taken name s₂ ≡ field 2 0 300 s₁
    → taken answers s₃ ≡ answers_field s₂
    → taken hash s₄ ≡ field 4 32 32 s₃
    → taken (bytes_if_any extension) s₅ ≡ extension_field s₄
    → taken end rest ≡ field 6 0 0 s₅
    → (4 ≤ length clock) × (length clock ≤ 4) → at ≡ number (part clock 0 4) → checks ≡ checks_of answers
    → taken (connection at name (std.is_some extension) (bytes_in extension) hash checks) rest ≡ recorded s
unfolding recorded part
called-read s {clock = clock} {name = name} {answers = answers} {hash = hash} {rest = rest} extension e₁ e₂ e₃ e₄ e₅ e₆ size e₇ e₈ =
    let whole : part clock 0 4 ≡ clock = take_all 4 clock size.1 in
    rw (← e₁, ← e₂, ← e₃, ← e₄, ← e₅, ← e₆, e₇, e₈, whole) (ap (λ (c : Connection). taken c rest) (by_extension extension))
  where
    by_extension : (x : std.Option (Bor (List ℕ)))
        → connection (number clock) name (std.is_some x) (bytes_in x) hash (checks_of answers)
        ≡ called clock name answers hash (bytes_if_any x)
    by_extension std.None = refl
    by_extension (std.Some e) = refl
