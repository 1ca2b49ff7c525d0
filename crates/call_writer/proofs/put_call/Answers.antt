-- Six fields, each behind the one before it, are the call's bytes.
use mathlib.Core.Path.{refl, ap, ◌∙◌}
use mathlib.Core.List.{List, [], ◌∷◌}
use Prim.Native.Nat.{ℕ, ◌+◌}
use native.Mathlib.Omega.{arith}
use lib.ListN.{length}
use Rattle.octets.specs.Octets.{put, big_endian}
use Rattle.octets.proofs.Numbers.{big_endian-length}
use Rattle.tack_extension.proofs.Writing.{start, step}
use Rattle.pin_model.specs.Seen.{seen}
use Rattle.recorded_call.specs.RecordedCall.{field_bytes, extension_bytes}
use Rattle.recorded_call.proofs.Bytes.{field-length, sizes}
use Rattle.call_writer.proofs.CallBytes.{joined, call_length}
use Rattle.call_writer.proofs.put_call.Goals as goal

pub put_clock-at_name-requires : goal.put_clock-at_name-requires
put_clock-at_name-requires c =
    let k = seen c.args.connection.now in
    let s = sizes k c.requires.0 in
    let n = call_length k in
    (omega arith, omega arith)

pub put_field-at_answers-requires : goal.put_field-at_answers-requires
put_field-at_answers-requires c =
    let k = seen c.args.connection.now in
    let s = sizes k c.requires.0 in
    let n = call_length k in
    (omega arith, omega arith)

pub put_field-at_hash-requires : goal.put_field-at_hash-requires
put_field-at_hash-requires c =
    let k = seen c.args.connection.now in
    let s = sizes k c.requires.0 in
    let n = call_length k in
    (omega arith, omega arith)

pub put_field-at_extension-requires : goal.put_field-at_extension-requires
put_field-at_extension-requires c =
    let k = seen c.args.connection.now in
    let s = sizes k c.requires.0 in
    let n = call_length k in
    (omega arith, omega arith)

pub put_extension-at_end-requires : goal.put_extension-at_end-requires
put_extension-at_end-requires c =
    let k = seen c.args.connection.now in
    let s = sizes k c.requires.0 in
    let n = call_length k in
    (omega arith, omega arith)

pub put_field-requires : goal.put_field-requires
put_field-requires c =
    let k = seen c.args.connection.now in
    let s = sizes k c.requires.0 in
    let n = call_length k in
    (omega arith, omega arith)

pub returns : goal.returns
returns c =
    let o = c.args.out.now in
    let k = seen c.args.connection.now in
    let s = sizes k c.requires.0 in
    let n = call_length k in
    let v = c.answer_byte.result ∷ k.checks.breaks_correct ∷ [] in
    let w₁ = step (field_bytes 1 (big_endian 4 k.clock)) (field-length 1 (big_endian 4 k.clock) ∙ ap (λ (n : ℕ). 3 + n) (big_endian-length 4 k.clock)) (start o) (omega arith) c.put_clock-at_name.ensures in
    let w₂ = step (field_bytes 2 k.name) (field-length 2 k.name) w₁ (omega arith) c.put_field-at_answers.ensures in
    let w₃ = step (field_bytes 3 v) (field-length 3 v) w₂ (omega arith) c.put_field-at_hash.ensures in
    let w₄ = step (field_bytes 4 k.hash) (field-length 4 k.hash) w₃ (omega arith) c.put_field-at_extension.ensures in
    let w₅ = step (extension_bytes k.extension_came k.extension) refl w₄ (omega arith) c.put_extension-at_end.ensures in
    let w₆ = step (field_bytes 6 []) (field-length 6 []) w₅ (omega arith) c.put_field.ensures in
    let same = joined k c.answer_byte.result c.answer_byte.ensures in
    (w₆.place ∙ ap (λ (l : List ℕ). length l) same, w₆.bytes ∙ ap (λ (l : List ℕ). put o 0 l) same)
