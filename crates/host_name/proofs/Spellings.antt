-- Two names are spellings of one exactly if they fold to the same, so folding merges nothing else.
use mathlib.Core.Path.{◌≡◌, refl, sym, ap, ap₂, subst}
use mathlib.Core.Logic.{◌↔◌}
use mathlib.Core.Bool.{Bool, true, false, cond}
use mathlib.Core.List.{List, [], ◌∷◌}
use Prim.Native.Nat.{ℕ, ◌+◌}
use native.Mathlib.Omega.{arith}
use Rattle.octets.proofs.Options.{clash}
use Rattle.host_name.specs.Folding.{is_capital, folded_byte, folded_name, Spellings, ended, alike, capital, small}
use Rattle.host_name.proofs.Small.{its-letter}

-- a capital and its small letter fold to the letter
same-letter : (b : ℕ) → is_capital b ≡ true → folded_byte b ≡ folded_byte (b + 32)
same-letter b e = rw (e, its-letter b e)

spelled-folded : {m n : List ℕ} → Spellings m n → folded_name m ≡ folded_name n
unfolding folded_name
spelled-folded ended = refl
spelled-folded (alike b s) = ap (◌∷◌ (folded_byte b)) (spelled-folded s)
spelled-folded (capital b e s) = ap₂ ◌∷◌ (same-letter b e) (spelled-folded s)
spelled-folded (small b e s) = ap₂ ◌∷◌ (sym (same-letter b e)) (spelled-folded s)

spelled-first : (a b : ℕ) {m n : List ℕ} → folded_byte a ≡ folded_byte b → Spellings m n → Spellings (a ∷ m) (b ∷ n)
spelled-first a b {m} {n} same s = go (is_capital a) (is_capital b) refl refl same
  where
    go : (x y : Bool) → is_capital a ≡ x → is_capital b ≡ y → cond x (a + 32) a ≡ cond y (b + 32) b → Spellings (a ∷ m) (b ∷ n)
    go true true d e h = let q : a ≡ b = omega (arith, h) in subst (λ (c : ℕ). Spellings (a ∷ m) (c ∷ n)) q (alike a s)
    go true false d e h = subst (λ (c : ℕ). Spellings (a ∷ m) (c ∷ n)) h (capital a d s)
    go false true d e h = subst (λ (c : ℕ). Spellings (c ∷ m) (b ∷ n)) (sym h) (small b e s)
    go false false d e h = subst (λ (c : ℕ). Spellings (a ∷ m) (c ∷ n)) h (alike a s)

folded-spelled : (m n : List ℕ) → folded_name m ≡ folded_name n → Spellings m n
unfolding folded_name
folded-spelled [] [] e = ended
folded-spelled [] (b ∷ n) e = clash (cc)
folded-spelled (a ∷ m) [] e = clash (cc)
folded-spelled (a ∷ m) (b ∷ n) e =
    let first : folded_byte a ≡ folded_byte b = cc in
    let rest : folded_name m ≡ folded_name n = cc in
    spelled-first a b first (folded-spelled m n rest)

pub exactly-spellings : (m n : List ℕ) → Spellings m n ↔ (folded_name m ≡ folded_name n)
exactly-spellings m n = (spelled-folded, folded-spelled m n)
