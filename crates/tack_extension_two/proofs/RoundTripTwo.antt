-- Reading and writing an extension of edition two are each other's inverse: what is accepted is exactly what the writer writes.
use mathlib.Core.Path.{◌≡◌, sym, ap, ◌∙◌}
use mathlib.Core.Bool.{Bool, true, cond}
use mathlib.Core.List.{List, [], ◌∷◌, ◌++◌}
use mathlib.Core.Logic.{◌↔◌}
use mathlib.Core.Option.{none, some}
use Prim.Native.Nat.{ℕ}
use native.Mathlib.Omega.{arith}
use lib.ListN.{length, take, drop}
use Rattle.octets.specs.Octets.{Bytes}
use Rattle.tack_extension.specs.Answers.{writing, output}
use Rattle.std.specs.Prelude.{Ok}
use Rattle.tack_extension.proofs.RoundTrip.{length-rewrites, length_back}
use Rattle.tack_extension.proofs.Writing.{counted}
use Rattle.tack_extension_two.specs.ExtensionTwo.{PartsTwo, parts_in, tacks_length, good_two, bytes_of_two, tacks_step, flags_step, after_flags, after_tacks, parse_two}
use Rattle.tack_extension_two.proofs.GoodTwo.{tacks-between, good-parts, cut_again, in-good, bytes-in}
use Rattle.tack_extension_two.proofs.StepsTwo.{parsed-two}

-- an extension that reads has good parts
pub reads-good-two : (s : List ℕ) (p : PartsTwo) → parse_two s ≡ some p → good_two p ≡ true
reads-good-two s p h =
    let w = parsed-two s p h in
    ap good_two (sym w.parts) ∙ in-good w.tacks w.flags w.read-tacks.allowed w.read_flags.allowed

-- every well-formed extension rewrites to the same bytes
pub rewrites-two : (s : List ℕ) (p : PartsTwo) → Bytes s → parse_two s ≡ some p → bytes_of_two p ≡ s
rewrites-two s p byte h =
    let w = parsed-two s p h in
    rw (← w.parts, bytes-in w.tacks w.flags, w.read_flags.bytes)
    (length-rewrites tacks_length s w.tacks w.after byte w.read-tacks)

-- whatever the writer writes reads back as the same parts and flags
pub reads-back-two : (p : PartsTwo) → good_two p ≡ true → parse_two (bytes_of_two p) ≡ some p
unfolding parse_two bytes_of_two tacks_step flags_step
reads-back-two p h =
    let w = good-parts p h in
    let both : List ℕ = p.first ++ p.second in
    let first = length_back tacks_length both (p.flags ∷ []) (omega (arith, tacks-between (length both) w.tacks)) w.tacks in
    let last : flags_step (length both) (p.flags ∷ []) ≡ some p.flags = ap (λ (b : Bool). cond b (some p.flags) none) w.flags in
    ap after_tacks first ∙ ap (after_flags both) last ∙ ap some (cut_again p w.first)

-- a string of bytes is accepted exactly when it is what the writer writes for some good parts
pub record WritableTwo (s : List ℕ) (p : PartsTwo) : Type 0 where
  pub allowed : good_two p ≡ true
  pub bytes : bytes_of_two p ≡ s

pub accepted-exactly-two : (s : List ℕ) (p : PartsTwo) → Bytes s → (parse_two s ≡ some p) ↔ WritableTwo s p
accepted-exactly-two s p byte = (
  (λ h. record { allowed = reads-good-two s p h; bytes = rewrites-two s p byte h }),
  (λ w. ap parse_two (sym w.bytes) ∙ reads-back-two p w.allowed),
)

-- where the writer answers with a number of bytes, those bytes read back as the same parts and flags, and no byte behind
-- them is changed
pub writer-reads-two : (t : List ℕ) (f : ℕ) (out : List ℕ) (n : ℕ)
    → writing (good_two (parts_in t f)) (bytes_of_two (parts_in t f)) out ≡ Ok n
    → (parse_two (take n (output (good_two (parts_in t f)) (bytes_of_two (parts_in t f)) out)) ≡ some (parts_in t f))
    × (drop n (output (good_two (parts_in t f)) (bytes_of_two (parts_in t f)) out) ≡ drop n out)
writer-reads-two t f out n h =
    let w = counted (good_two (parts_in t f)) (bytes_of_two (parts_in t f)) out n h in
    (ap parse_two w.first ∙ reads-back-two (parts_in t f) w.allowed, w.behind)
