-- The extension's bytes, as the pieces that the writer puts behind each other, and their length.
use mathlib.Core.Path.{◌≡◌}
use mathlib.Core.Logic.{⊎_elim}
use mathlib.Core.Bool.{true, ◌&&◌}
use mathlib.Core.List.{List, [], ◌∷◌, ◌++◌, append_assoc}
use Prim.Native.Nat.{ℕ, ◌+◌, ◌≤◌}
use native.Mathlib.Omega.{arith}
use lib.Dec.{leb, eqb}
use lib.ListN.{length, length-append}
use lib.Seq.{length-take-le}
use borrow.Author.Tests.{eqb-true}
use Rattle.octets.specs.Octets.{big_endian}
use Rattle.octets.proofs.Tests.{and_left, and_right, or_cases}
use Rattle.octets.proofs.Numbers.{big_endian-length}
use Rattle.tack_extension.specs.Extension.{Parts, parts, bytes_of, tack_length, breaks_length, good_lengths}
use Rattle.tack_extension.specs.Tack.{signed_bytes}
use Rattle.tack_extension.proofs.Steps.{breaks-small}

pub bytes-length : (p : Parts) → length (bytes_of p) ≡ length p.tack + length p.breaks + 4
unfolding bytes_of
bytes-length p = simp (length-append, big_endian-length) (omega arith)

pub signed-length : (t : List ℕ) → length t ≡ 166 → length (signed_bytes t) ≡ 110
unfolding signed_bytes
signed-length t h = omega (arith, length-take-le 102 t (omega arith))

pub good-sizes : (t b a : ℕ) → good_lengths t b a ≡ true → (t ≤ 166) × (b ≤ 1024)
good-sizes t b a h =
    let tack : tack_length t ≡ true = and_left (tack_length t) (breaks_length b && leb a 1) h in
    let rest : (breaks_length b && leb a 1) ≡ true = and_right (tack_length t) (breaks_length b && leb a 1) h in
    let breaks : breaks_length b ≡ true = and_left (breaks_length b) (leb a 1) rest in (
      ⊎_elim (λ e. omega (arith, eqb-true t 0 e)) (λ e. omega (arith, eqb-true t 166 e)) (or_cases (eqb t 0) (eqb t 166) tack),
      breaks-small b breaks,
    )

-- the pieces joined
regroup : (v t w b x : List ℕ) → (((v ++ t) ++ w) ++ b) ++ x ≡ v ++ (t ++ (w ++ (b ++ x)))
regroup v t w b x = simp append_assoc

pub joined : (t b : List ℕ) (a : ℕ)
    → (((([] ++ (length t ∷ [])) ++ t) ++ big_endian 2 (length b)) ++ b) ++ (a ∷ []) ≡ bytes_of (parts t b a)
unfolding bytes_of
joined t b a = regroup (length t ∷ []) t (big_endian 2 (length b)) b (a ∷ [])
