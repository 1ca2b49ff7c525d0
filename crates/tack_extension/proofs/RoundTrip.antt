-- Reading and writing are each other's inverse: what is accepted is exactly what the writer writes.
use mathlib.Core.Path.{◌≡◌, refl, sym, ap, ◌∙◌}
use mathlib.Core.Bool.{Bool, true}
use mathlib.Core.List.{List, [], ◌∷◌, ◌++◌}
use mathlib.Core.Logic.{◌↔◌}
use mathlib.Core.Option.{some}
use Prim.Native.Nat.{ℕ, zero, suc, ◌<◌}
use native.Mathlib.Omega.{arith}
use lib.Dec.{leb}
use lib.ListN.{length, take, drop, get_or}
use Rattle.octets.specs.Octets.{Bytes, number, big_endian}
use Rattle.octets.proofs.Tests.{and_left, and_right, and_both}
use Rattle.octets.proofs.Numbers.{bytes-behind, number-big_endian, big_endian-number, big_endian-two}
use Rattle.tack_extension.specs.Extension.{Parts, parts, good, bytes_of, read, tack_length, breaks_length, length_step, tack_step, breaks_step, activation_step, after_tack, after_breaks, after_activation, parse}
use Rattle.tack_extension.specs.Answers.{writing, output}
use Rattle.std.specs.Prelude.{Ok}
use Rattle.tack_extension.proofs.Steps.{LengthRead, breaks-small, cut-append, parsed}
use Rattle.tack_extension.proofs.Writing.{counted}

-- an extension that reads has good parts
pub reads-good : (s : List ℕ) (p : Parts) → parse s ≡ some p → good p ≡ true
reads-good s p h =
    let w = parsed s p h in
    and_both _ _ w.tack.allowed (and_both _ _ w.breaks.allowed w.activation.allowed)

two : (h l : ℕ) → h < 256 → l < 256 → (n : ℕ) → n ≡ number (h ∷ l ∷ []) → big_endian 2 n ≡ h ∷ l ∷ []
two h l hh hl n e = ap (big_endian 2) e ∙ big_endian-number (h ∷ l ∷ []) each
  where
    each : (i : ℕ) → get_or (h ∷ l ∷ []) i 0 < 256
    each zero = hh
    each (suc zero) = hl
    each (suc (suc i)) = omega arith

-- a part behind its two length bytes, as it is read and as it is written
pub length-rewrites : (test : ℕ → Bool) (s b r : List ℕ) → Bytes s → LengthRead test s b r → big_endian 2 (length b) ++ (b ++ r) ≡ s
length-rewrites test s b r byte w =
    let all : Bytes (w.high ∷ (w.low ∷ (b ++ r))) = rw w.bytes byte in
    rw (two w.high w.low (all 0) (all 1) (length b) w.size) w.bytes

pub length_back : (test : ℕ → Bool) (b r : List ℕ) → length b < 65536 → test (length b) ≡ true → length_step test (big_endian 2 (length b) ++ (b ++ r)) ≡ read b r
unfolding length_step
length_back test b r fits h =
    let n : number (big_endian 2 (length b)) ≡ length b = number-big_endian 2 (length b) (omega (arith, fits)) in
    let d = big_endian-two (length b) in
    let m = ap number (sym d) ∙ n in
    ap (λ (l : List ℕ). length_step test (l ++ (b ++ r))) d ∙ rw m (simp h (cut-append (length b) b r refl))

-- every well-formed extension rewrites to the same bytes
pub rewrites : (s : List ℕ) (p : Parts) → Bytes s → parse s ≡ some p → bytes_of p ≡ s
unfolding bytes_of
rewrites s p byte h =
    let w = parsed s p h in
    let inner : Bytes (length p.tack ∷ (p.tack ++ w.after_tack)) = rw w.tack.bytes byte in
    let after : Bytes w.after_tack = bytes-behind p.tack w.after_tack (bytes-behind (length p.tack ∷ []) (p.tack ++ w.after_tack) inner) in
    rw (w.activation.bytes, length-rewrites breaks_length w.after_tack p.breaks w.after_breaks after w.breaks) w.tack.bytes

-- whatever the writer writes reads back as the same parts and activation
pub reads-back : (p : Parts) → good p ≡ true → parse (bytes_of p) ≡ some p
unfolding parse bytes_of tack_step breaks_step activation_step
reads-back p h =
    let t : tack_length (length p.tack) ≡ true = and_left _ _ h in
    let q = and_right (tack_length (length p.tack)) _ h in
    let b : breaks_length (length p.breaks) ≡ true = and_left _ _ q in
    let a : leb p.activation 1 ≡ true = and_right (breaks_length (length p.breaks)) _ q in
    let r : List ℕ = big_endian 2 (length p.breaks) ++ (p.breaks ++ (p.activation ∷ [])) in
    let first : tack_step (length p.tack ∷ (p.tack ++ r)) ≡ read p.tack r =
    simp t (cut-append (length p.tack) p.tack r refl) in
    let second : breaks_step r ≡ read p.breaks (p.activation ∷ []) =
    length_back breaks_length p.breaks (p.activation ∷ []) (omega (arith, breaks-small (length p.breaks) b)) b in
    let last : activation_step (p.activation ∷ []) ≡ some p.activation = simp a in
    ap after_tack first
    ∙ ap (after_breaks p.tack) second
    ∙ ap (after_activation p.tack p.breaks) last

-- a string of bytes is accepted exactly when it is what the writer writes for some good parts
pub record Writable (s : List ℕ) (p : Parts) : Type 0 where
  pub allowed : good p ≡ true
  pub bytes : bytes_of p ≡ s

pub accepted-exactly : (s : List ℕ) (p : Parts) → Bytes s → (parse s ≡ some p) ↔ Writable s p
accepted-exactly s p byte = (
  (λ h. record { allowed = reads-good s p h; bytes = rewrites s p byte h }),
  (λ w. ap parse (sym w.bytes) ∙ reads-back p w.allowed),
)

-- where the writer answers with a number of bytes, those bytes read back as the same parts and activation, and no byte
-- behind them is changed
pub writer-reads : (t b : List ℕ) (a : ℕ) (out : List ℕ) (n : ℕ)
    → writing (good (parts t b a)) (bytes_of (parts t b a)) out ≡ Ok n
    → (parse (take n (output (good (parts t b a)) (bytes_of (parts t b a)) out)) ≡ some (parts t b a))
    × (drop n (output (good (parts t b a)) (bytes_of (parts t b a)) out) ≡ drop n out)
writer-reads t b a out n h =
    let w = counted (good (parts t b a)) (bytes_of (parts t b a)) out n h in
    (ap parse w.first ∙ reads-back (parts t b a) w.allowed, w.behind)
