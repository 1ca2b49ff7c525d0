-- The loop that clears the name slots which pass a test: what its test tells of slot n, and the area behind it.
use mathlib.Core.Path.{◌≡◌, sym, ◌∙◌, ap, subst}
use mathlib.Core.Bool.{Bool, true, false}
use mathlib.Core.List.{List}
use mathlib.Core.Option.{none}
use Prim.Native.Nat.{ℕ, ◌+◌, ◌<◌}
use native.Mathlib.Omega.{arith}
use Rattle.std.specs.Borrow.{Bor}
use Rattle.pin_model.specs.Table.{NameRecord, Table}
use Rattle.pin_model.specs.Layout.{decode}
use Rattle.pin_records.specs.Holds.{Holds, with_name}
use Rattle.pin_records.specs.Remove.{Clearing, Tells}
use Rattle.pin_records.proofs.HeldSlots.{holds-decode, holds-stored}
use Rattle.pin_records.proofs.DroppedNames.{dropped, drop-stays, drop-goes}

-- whatever the test tells, the records that pass are gone from the first i slots
abbrev pub ClearedTo : (Bor (List ℕ) → ℕ → Bool → Type 0) → Table → List ℕ → ℕ → Type 0
ClearedTo post t b i = Clearing t b × ((passes : NameRecord → Bool) → Tells post t passes → Holds b (dropped passes t i))

module _ (t : Table) {post : Bor (List ℕ) → ℕ → Bool → Type 0} (b : Bor (List ℕ)) {n i : ℕ} (at : n ≡ i) (below : i < 128) (k : ClearedTo post t b.now i) where
  by_then : (passes : NameRecord → Bool) → Tells post t passes → Holds b.now (dropped passes t n)
  by_then passes tells = subst (λ (m : ℕ). Holds b.now (dropped passes t m)) (sym at) (k.1 passes tells)

  next : {a : List ℕ} (passes : NameRecord → Bool) → Holds a (dropped passes t (n + 1)) → Holds a (dropped passes t (i + 1))
  next {a} passes h = subst (λ (m : ℕ). Holds a (dropped passes t (m + 1))) at h

  pub slot-stays : {a : List ℕ} → a ≡ b.now → post b n false → ClearedTo post t a (i + 1)
  slot-stays q said = (
    rw q k.0,
    λ passes tells. next passes (drop-stays passes t n (by_then passes tells) q (sym (tells b n false (omega arith) k.0 said))),
  )

  pub slot-goes : {a d : List ℕ} → a ≡ d → post b n true → Holds d (with_name (decode b.now) n none) → ClearedTo post t a (i + 1)
  slot-goes {a} {d} q said g = (
    rw q (record {
      stored = holds-stored g;
      keys = ap (λ (v : Table). v.keys) (holds-decode g) ∙ k.0.keys;
      two = ap (λ (v : Table). v.two) (holds-decode g) ∙ k.0.two;
    }),
    λ passes tells. next passes (drop-goes passes t n (by_then passes tells) q (sym (tells b n true (omega arith) k.0 said)) g),
  )
