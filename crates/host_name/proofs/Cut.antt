-- A name cut at 254 bytes: no more are needed to see whether it is well-formed.
use mathlib.Core.Path.{◌≡◌, sym, ◌∙◌, ap}
use mathlib.Core.Logic.{◌⊎◌, inl, inr}
use mathlib.Core.Bool.{false}
use mathlib.Core.List.{List}
use Prim.Native.Nat.{ℕ, ◌≤◌}
use native.Mathlib.Omega.{arith}
use lib.Dec.{leb}
use lib.ListN.{length, take, length-take}
use lib.Seq.{take_all}
use borrow.Author.Tests.{lt-leb, leb-true, leb-false}
use Rattle.octets.proofs.Tests.{by_test}
use Rattle.host_name.specs.Name.{well_formed}

too_long : (s : List ℕ) → 254 ≤ length s → well_formed s ≡ false
unfolding well_formed
too_long s long = simp (lt-leb (length s) 253 (omega (arith, long)))

pub cut : (s : List ℕ) → ((take 254 s ≡ s) ⊎ ((well_formed (take 254 s) ≡ false) × (well_formed s ≡ false)))
cut s =
    by_test (leb (length s) 254)
    (λ e. inl (take_all 254 s (leb-true (length s) 254 e)))
    (λ e. let long = leb-false (length s) 254 e in
    inr (too_long (take 254 s) (omega (arith, long, length-take 254 s)), too_long s (omega (arith, long))))

pub cut-formed : (s : List ℕ) → well_formed (take 254 s) ≡ well_formed s
cut-formed s = go (cut s)
  where
    go : ((take 254 s ≡ s) ⊎ ((well_formed (take 254 s) ≡ false) × (well_formed s ≡ false))) → well_formed (take 254 s) ≡ well_formed s
    go (inl e) = ap well_formed e
    go (inr e) = e.0 ∙ sym e.1
