-- What `all`, `any` and `find` over numbers answer: the first two in the words of octets' Search.antt.
use Rattle.std.proofs.Common.{◌≡◌, refl, sym, ap, ap₂, subst, ◌∙◌, ℕ, zero, suc, ◌+◌, ◌-◌, ◌≤◌, ◌<◌, Bool, true, false, ◌&&◌, ◌||◌, List, length, get_or, arith, Option, Some, None}
use mathlib.Core.List.{map-id}
use denote.Ref.{Bor}
use denote.Param.Members.{Mut}
use Rattle.std.specs.declared.ops.Range.{Range}
use Rattle.std.specs.declared.iter.Map.{Map}
use Rattle.std.specs.Bool.{⊤}
use Rattle.std.specs.Fn.{Called, CalledAt}
use Rattle.std.specs.Iterator.Adapters.{map_source, map_callee}
use Rattle.std.specs.Iterator.{YieldsThen}
use Rattle.std.specs.List.{FoldsTo, list_all, list_any, range_with_len, AllWithin, HoldsAt}
use Rattle.std.specs.Option.{MatchOption}
use Rattle.std.proofs.iter.Yields.{nat_range_steps}
use Rattle.std.proofs.lemmas.Iterator.{YieldsList, YieldsList-from_range, YieldsList-from_map, maps, first_from_find}
use Rattle.std.proofs.lemmas.List.FromFn.{length-range_with_len, get_or-range_with_len}
use Rattle.std.proofs.lemmas.Iterator.Search.{all_from_yields_List, any_from_yields_List}
use Rattle.octets.specs.Search.{every, some}

-- tests that agree below n
pub every-same : (p q : ℕ → Bool) (n : ℕ) → ((i : ℕ) → i < n → p i ≡ q i) → every p n ≡ every q n
unfolding every
every-same p q zero h = refl
every-same p q (suc n) h = ap₂ (λ (x y : Bool). x && y) (h 0 (omega arith)) (every-same (λ i. p (suc i)) (λ i. q (suc i)) n (λ i l. h (suc i) (omega arith)))

-- the tests p of a, a + 1 and so on, which are q of 0, 1 and so on
all-range : (p q : ℕ → Bool) (a n : ℕ) → ((i : ℕ) → p (a + i) ≡ q i) → list_all p (range_with_len a n) ≡ every q n
unfolding every
all-range p q a zero h = refl
all-range p q a (suc n) h =
    let first : a ≡ a + 0 = omega arith in
    ap₂ (λ (x y : Bool). x && y) (ap p first ∙ h 0)
    (all-range p (λ i. q (suc i)) (a + 1) n (λ i. let e : a + 1 + i ≡ a + suc i = omega arith in ap p e ∙ h (suc i)))

any-range : (p q : ℕ → Bool) (a n : ℕ) → ((i : ℕ) → p (a + i) ≡ q i) → list_any p (range_with_len a n) ≡ some q n
unfolding some
any-range p q a zero h = refl
any-range p q a (suc n) h =
    let first : a ≡ a + 0 = omega arith in
    ap₂ (λ (x y : Bool). x || y) (ap p first ∙ h 0)
    (any-range p (λ i. q (suc i)) (a + 1) n (λ i. let e : a + 1 + i ≡ a + suc i = omega arith in ap p e ∙ h (suc i)))

module _ {S F : Type 0} {steps : S → Option ℕ → S → Type 0} {g : Mut F (ℕ × Unit {0}) Bool} {s : S} (p : ℕ → Bool) (n : ℕ) (u : S) (f : F) (r : Bool) where
  pub all-below : (xs : List ℕ) × (o : Option ℕ) × (j : F) × YieldsThen steps s xs o u × FoldsTo (λ h x q. Called g h (x, tt) true q) f xs j × MatchOption o (r ≡ true) (λ x. (r ≡ false) × ((h : F) × Called g j (x, tt) false h))
      → YieldsList steps (λ x. x) s (range_with_len 0 n) → ((x : ℕ) (b : Bool) (q : F) → Called g f (x, tt) b q → (q ≡ f) × (b ≡ p x)) → r ≡ every p n
  all-below d e k = all_from_yields_List p u f r d e k ∙ all-range p p 0 n (λ i. let e : 0 + i ≡ i = omega arith in ap p e)

  pub any-below : (xs : List ℕ) × (o : Option ℕ) × (j : F) × YieldsThen steps s xs o u × FoldsTo (λ h x q. Called g h (x, tt) false q) f xs j × MatchOption o (r ≡ false) (λ x. (r ≡ true) × ((h : F) × Called g j (x, tt) true h))
      → YieldsList steps (λ x. x) s (range_with_len 0 n) → ((x : ℕ) (b : Bool) (q : F) → Called g f (x, tt) b q → (q ≡ f) × (b ≡ p x)) → r ≡ some p n
  any-below d e k = any_from_yields_List p u f r d e k ∙ any-range p p 0 n (λ i. let e : 0 + i ≡ i = omega arith in ap p e)

-- the numbers below n
pub below : {s : Range ℕ} (n : ℕ) → s ≡ record { start = 0; end = n } → YieldsList nat_range_steps (λ x. x) s (range_with_len 0 n)
below n e = YieldsList-from_range 0 n n e (omega arith)

-- the numbers from a up to b, which a call of f leaves as they are
pub mapped : {F : Type 0} (g : Mut F (ℕ × Unit {0}) ℕ) {s : Map (Range ℕ) F} {f : F} (a b : ℕ) → map_source s ≡ record { start = a; end = b } → map_callee s ≡ f
    → ((x r : ℕ) (q : F) → Called g f (x, tt) r q → (q ≡ f) × (r ≡ x)) → YieldsList (maps nat_range_steps g) (λ r. r) s (range_with_len a (b - a))
mapped g {s} a b e d k =
    subst (YieldsList (maps nat_range_steps g) (λ r. r) s) (map-id (range_with_len a (b - a))) (YieldsList-from_map g (λ x. x) (YieldsList-from_range a b (b - a) e refl) d k)

-- what `find` over them answers: the lowest that passes the test p
abbrev pub IsLowest : (ℕ → Bool) → ℕ → ℕ → Option ℕ → Type 0
IsLowest p a b r =
    MatchOption r ((k : ℕ) → a ≤ k → k < b → p k ≡ false)
    (λ i. (a ≤ i) × (i < b) × (p i ≡ true) × ((k : ℕ) → a ≤ k → k < i → p k ≡ false))

module _ (p : ℕ → Bool) (a b : ℕ) where
  none-below : (m : ℕ) → m ≤ b - a → AllWithin (λ x. p x ≡ false) (range_with_len a (b - a)) 0 m → (k : ℕ) → a ≤ k → k < a + m → p k ≡ false
  none-below m l h k c d =
      let at : get_or (range_with_len a (b - a)) (k - a) 0 ≡ k = omega (arith, get_or-range_with_len a (b - a) (k - a) 0 (omega arith)) in
      subst (λ x. p x ≡ false) at (h (k - a) 0 (omega arith) (omega arith))

  lowest : (r : Option ℕ)
      → MatchOption r (AllWithin (λ x. p x ≡ false) (range_with_len a (b - a)) 0 (length (range_with_len a (b - a)))) (λ x. (p x ≡ true) × (i : ℕ) × (i < length (range_with_len a (b - a))) × HoldsAt (λ y. y ≡ x) (range_with_len a (b - a)) i × AllWithin (λ y. p y ≡ false) (range_with_len a (b - a)) 0 i)
      → IsLowest p a b r
  lowest None h = λ k c d. none-below _ (omega (arith, length-range_with_len a (b - a))) h k c (omega (arith, length-range_with_len a (b - a)))
  lowest (Some x) h =
      let i : h.1 < b - a = omega (arith, length-range_with_len a (b - a), h.2) in
      let at : x ≡ a + h.1 = sym (h.3 0) ∙ get_or-range_with_len a (b - a) h.1 0 i in
      (omega arith, omega arith, h.0, λ k c d. none-below h.1 (omega arith) h.4 k c (omega arith))

pub lowest-between : {S F : Type 0} {steps : S → Option ℕ → S → Type 0} {g : Mut F (Bor ℕ × Unit {0}) Bool} {s : S} (p : ℕ → Bool) (a b : ℕ) (u : S) (f : F) (r : Option ℕ)
    → (xs : List ℕ) × (j : F) × YieldsThen steps s xs r u × FoldsTo (λ h x q. CalledAt g h x false q) f xs j × MatchOption r ⊤ (λ x. (h : F) × CalledAt g j x true h)
    → YieldsList steps (λ x. x) s (range_with_len a (b - a)) → ((x : ℕ) (t : Bool) (q : F) → CalledAt g f x t q → (q ≡ f) × (t ≡ p x)) → IsLowest p a b r
lowest-between p a b u f r d e k =
    lowest p a b r (first_from_find u f r (λ x. p x ≡ true) (λ x. p x ≡ false) d e (λ x q c. sym (k x true q c).1) (λ x q c. ((k x false q c).0, sym (k x false q c).1)))
