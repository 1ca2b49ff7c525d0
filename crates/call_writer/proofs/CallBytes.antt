-- A call's bytes, as the fields that the writer puts behind each other, and their length.
use mathlib.Core.Path.{◌≡◌, refl, ap, ◌∙◌}
use mathlib.Core.List.{List, [], ◌∷◌, ◌++◌, append_assoc}
use Prim.Native.Nat.{ℕ, ◌+◌}
use native.Mathlib.Omega.{arith}
use lib.ListN.{length, length-append}
use Rattle.octets.specs.Octets.{big_endian}
use Rattle.octets.proofs.Numbers.{big_endian-length}
use Rattle.pin_model.specs.Connection.{Connection}
use Rattle.recorded_call.specs.RecordedCall.{field_bytes, answer_byte, extension_bytes, call_bytes}
use Rattle.recorded_call.proofs.Bytes.{field-length}

front_length : (tag : ℕ) (v r : List ℕ) → length (field_bytes tag v ++ r) ≡ 3 + length v + length r
front_length tag v r = length-append (field_bytes tag v) r ∙ ap (λ (n : ℕ). n + length r) (field-length tag v)

pub call_length : (c : Connection)
    → length (call_bytes c) ≡ length c.name + length (extension_bytes c.extension_came c.extension) + length c.hash + 21
unfolding call_bytes
call_length c =
    let clock : List ℕ = big_endian 4 c.clock in
    let answers : List ℕ = answer_byte c.checks ∷ c.checks.breaks_correct ∷ [] in
    let extension : List ℕ = extension_bytes c.extension_came c.extension in
    let r₄ : List ℕ = extension ++ field_bytes 6 [] in
    let r₃ : List ℕ = field_bytes 4 c.hash ++ r₄ in
    let r₂ : List ℕ = field_bytes 3 answers ++ r₃ in
    let r₁ : List ℕ = field_bytes 2 c.name ++ r₂ in
    omega (
      arith,
      front_length 1 clock r₁,
      big_endian-length 4 c.clock,
      front_length 2 c.name r₂,
      front_length 3 answers r₃,
      front_length 4 c.hash r₄,
      length-append extension (field_bytes 6 []),
      field-length 6 [],
    )

-- the six fields joined
regroup : (a b c d e f : List ℕ) → ((((a ++ b) ++ c) ++ d) ++ e) ++ f ≡ a ++ (b ++ (c ++ (d ++ (e ++ f))))
regroup a b c d e f = simp append_assoc

pub joined : (c : Connection) (answers : ℕ) → answers ≡ answer_byte c.checks
    → ((((field_bytes 1 (big_endian 4 c.clock) ++ field_bytes 2 c.name) ++ field_bytes 3 (answers ∷ c.checks.breaks_correct ∷ []))
    ++ field_bytes 4 c.hash) ++ extension_bytes c.extension_came c.extension) ++ field_bytes 6 [] ≡ call_bytes c
unfolding call_bytes
joined c answers e =
    regroup (field_bytes 1 (big_endian 4 c.clock)) (field_bytes 2 c.name) (field_bytes 3 (answers ∷ c.checks.breaks_correct ∷ []))
    (field_bytes 4 c.hash) (extension_bytes c.extension_came c.extension) (field_bytes 6 [])
    ∙ rw e refl
