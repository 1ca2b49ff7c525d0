-- The length of a field that is written, and what can be recorded.
use mathlib.Core.Path.{◌≡◌}
use mathlib.Core.Bool.{Bool, true, false, not, ◌&&◌, ◌||◌}
use mathlib.Core.List.{List, []}
use Prim.Native.Nat.{ℕ, ◌+◌, ◌≤◌}
use native.Mathlib.Omega.{arith}
use lib.Dec.{leb, eqb}
use lib.ListN.{length, length-append}
use borrow.Author.Tests.{leb-true, eqb-true}
use Rattle.octets.proofs.Tests.{by_test, and_left, and_right}
use Rattle.octets.proofs.Numbers.{big_endian-length}
use Rattle.pin_model.specs.Connection.{Connection}
use Rattle.recorded_call.specs.RecordedCall.{field_bytes, extension_bytes, recordable}

pub field-length : (tag : ℕ) (v : List ℕ) → length (field_bytes tag v) ≡ 3 + length v
field-length tag v = simp (length-append, big_endian-length) (omega arith)

-- the extension's field, by whether one came
pub came-bytes : (came : Bool) (e : List ℕ) → came ≡ true → extension_bytes came e ≡ field_bytes 5 e
came-bytes came e h = rw h

pub absent-bytes : (came : Bool) (e : List ℕ) → came ≡ false → extension_bytes came e ≡ []
absent-bytes came e h = rw h

-- what can be recorded
pub record Sizes (c : Connection) : Type 0 where
  pub clock : c.clock ≤ 4294967295
  pub name : length c.name ≤ 300
  pub hash : length c.hash ≡ 32
  pub extension : length (extension_bytes c.extension_came c.extension) ≤ 4099

pub sizes : (c : Connection) → recordable c ≡ true → Sizes c
unfolding recordable
sizes c h =
    let came = c.extension_came in
    let tail : Bool = not came || leb (length c.extension) 4096 in
    let hashed : Bool = eqb (length c.hash) 32 in
    let named : Bool = leb (length c.name) 300 in
    let clocked : Bool = leb c.clock 4294967295 in
    let x = and_right clocked (named && (hashed && tail)) h in
    let y = and_right named (hashed && tail) x in
    record {
      clock = leb-true c.clock 4294967295 (and_left clocked (named && (hashed && tail)) h);
      name = leb-true (length c.name) 300 (and_left named (hashed && tail) x);
      hash = eqb-true (length c.hash) 32 (and_left hashed tail y);
      extension =
          by_test came
          (λ e. let small : leb (length c.extension) 4096 ≡ true = simp e at (and_right hashed tail y) in
          rw (came-bytes came c.extension e) (omega (arith, field-length 5 c.extension, leb-true (length c.extension) 4096 small)))
          (λ e. rw (absent-bytes came c.extension e) (omega arith));
    }
