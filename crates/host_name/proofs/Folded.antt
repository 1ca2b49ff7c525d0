-- The folded name, cut, from its bytes one by one.
use mathlib.Core.Path.{◌≡◌, refl, sym, ◌∙◌}
use mathlib.Core.List.{List, [], ◌∷◌}
use Prim.Native.Nat.{ℕ, zero, suc, ◌≤◌, ◌<◌, min}
use native.Mathlib.Omega.{arith}
use lib.ListN.{length, get_or, take, length-map, length-take}
use lib.Seq.{get_or-take, ext_get_or}
use Rattle.std.specs.Char.{to_ascii_lowercase}
use Rattle.std.proofs.lemmas.Bool.Decides.{nat_tests}
use Rattle.host_name.specs.Folding.{folded_byte, folded_name}

folded-length : (s : List ℕ) → length (folded_name s) ≡ length s
unfolding folded_name
folded-length s = length-map s folded_byte

folded-at : (s : List ℕ) (i : ℕ) → get_or (folded_name s) i 0 ≡ folded_byte (get_or s i 0)
unfolding folded_name
folded-at [] i = refl
folded-at (b ∷ s) zero = refl
folded-at (b ∷ s) (suc i) = folded-at s i

-- as the library makes a byte's small letter
pub lowered : (b : ℕ) → to_ascii_lowercase b ≡ folded_byte b
lowered b = grind (arith, nat_tests)

pub front : (s bytes : List ℕ) (m n : ℕ) → n ≡ min (length s) m → m ≤ length bytes
    → ((i : ℕ) → i < n → get_or bytes i 0 ≡ folded_byte (get_or s i 0)) → take n bytes ≡ take m (folded_name s)
front s bytes m n e room each =
    ext_get_or 0 (take n bytes) (take m (folded_name s))
    (omega (arith, length-take n bytes, length-take m (folded_name s), folded-length s))
    (λ i l. let below : i < n = omega (arith, length-take n bytes) in
    let within : i < m = omega arith in
    get_or-take n bytes i 0 below ∙ each i below ∙ sym (get_or-take m (folded_name s) i 0 within ∙ folded-at s i))
