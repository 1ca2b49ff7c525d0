-- The tally against the list of answers (document 02, Q-1): each count, and their sum.
use mathlib.Core.Path.{◌≡◌, refl, sym, ap, subst, ◌∙◌}
use mathlib.Core.Bool.{true}
use mathlib.Core.List.{List, [], ◌∷◌}
use Prim.Native.Nat.{ℕ, zero, suc, ◌+◌, ◌<◌, min}
use native.Mathlib.Nat.{le_of_suc-le-suc, not-suc-le-zero}
use native.Mathlib.Numerals.{add-one}
use native.Mathlib.Omega.{arith}
use lib.ListN.{length, get_or, length-set, get_or-replicate}
use lib.Seq.{get_or-set_same, get_or-set_other}
use lib.Dec.{ltb, eqb}
use borrow.Author.Tests.{ltb-true, lt-ltb, eqb-true, eqb-false}
use Rattle.octets.specs.Octets.{all}
use Rattle.octets.proofs.Tests.{by_test, and_left, and_right, and_both}
use Rattle.tally.specs.Tally.{top, raised, counted, tallied, times, sum, none_full}

tallied-length : (ns : List ℕ) → length (tallied ns) ≡ 32
unfolding tallied counted
tallied-length [] = refl
tallied-length (n ∷ ns) = length-set (tallied ns) n _ ∙ tallied-length ns

within : (ns : List ℕ) (n : ℕ) → ltb n 32 ≡ true → n < length (tallied ns)
within ns n l = subst (λ (k : ℕ). n < k) (sym (tallied-length ns)) (ltb-true n 32 l)

-- one answer more: the count of its own number, and of another
counted_same : (cs : List ℕ) (n : ℕ) → n < length cs → get_or (counted n cs) n 0 ≡ raised (get_or cs n 0)
unfolding counted
counted_same cs n l = get_or-set_same cs n (raised (get_or cs n 0)) 0 l

counted-other : (cs : List ℕ) (m n : ℕ) → (n ≡ m → ⊥) → get_or (counted m cs) n 0 ≡ get_or cs n 0
unfolding counted
counted-other cs m n d = get_or-set_other cs m n (raised (get_or cs m 0)) 0 d

-- each count is the count in the list of answers, staying at the top
each-count : (ns : List ℕ) (n : ℕ) → ltb n 32 ≡ true → get_or (tallied ns) n 0 ≡ min (times n ns) top
unfolding tallied times
each-count [] n l = get_or-replicate 32 n 0 0 (ltb-true n 32 l)
each-count (m ∷ ns) n l =
    let e : get_or (tallied ns) n 0 ≡ min (times n ns) top = each-count ns n l in
    by_test (eqb m n)
    (λ t.
    let s : get_or (counted m (tallied ns)) n 0 ≡ raised (get_or (tallied ns) n 0) = rw (eqb-true m n t) (counted_same (tallied ns) n (within ns n l)) in
    rw t (omega (arith, e, s)))
    (λ t. rw t (counted-other (tallied ns) m n (λ d. eqb-false m n t (sym d)) ∙ e))

none-full-at : (cs : List ℕ) (n : ℕ) → none_full cs ≡ true → n < length cs → get_or cs n 0 < top
unfolding none_full
none-full-at [] n h l = absurd (not-suc-le-zero l)
none-full-at (c ∷ cs) zero h l = ltb-true c top (and_left (ltb c top) (none_full cs) h)
none-full-at (c ∷ cs) (suc n) h l = none-full-at cs n (and_right (ltb c top) (none_full cs) h) (le_of_suc-le-suc l)

-- if none is full, each count is the count in the list of answers
pub each-exact : (ns : List ℕ) (n : ℕ) → ltb n 32 ≡ true → none_full (tallied ns) ≡ true → get_or (tallied ns) n 0 ≡ times n ns
each-exact ns n l h =
    let e : get_or (tallied ns) n 0 ≡ min (times n ns) top = each-count ns n l in
    let f : get_or (tallied ns) n 0 < top = none-full-at (tallied ns) n h (within ns n l) in
    omega (arith, e, f)

-- where none is full after an answer, none was before, and the sum went on by one
sum-counted : (cs : List ℕ) (n : ℕ) → n < length cs → none_full (counted n cs) ≡ true → (none_full cs ≡ true) × (sum (counted n cs) ≡ sum cs + 1)
unfolding none_full counted sum
sum-counted [] n l h = absurd (not-suc-le-zero l)
sum-counted (c ∷ cs) zero l h =
    let f : raised c < top = ltb-true (raised c) top (and_left (ltb (raised c) top) (none_full cs) h) in
    (and_both (ltb c top) (none_full cs) (lt-ltb c top (omega (arith, f))) (and_right (ltb (raised c) top) (none_full cs) h), omega (arith, f))
sum-counted (c ∷ cs) (suc n) l h =
    let i : (none_full cs ≡ true) × (sum (counted n cs) ≡ sum cs + 1) = sum-counted cs n (le_of_suc-le-suc l) (and_right (ltb c top) (none_full (counted n cs)) h) in
    (and_both (ltb c top) (none_full cs) (and_left (ltb c top) (none_full (counted n cs)) h) i.0, omega (arith, i.1))

-- if none is full, the sum is the number of calls judged
pub sum-is-calls : (ns : List ℕ) → all (λ n. ltb n 32) ns ≡ true → none_full (tallied ns) ≡ true → sum (tallied ns) ≡ length ns
unfolding tallied sum
sum-is-calls [] w h = refl
sum-is-calls (n ∷ ns) w h =
    let i : (none_full (tallied ns) ≡ true) × (sum (counted n (tallied ns)) ≡ sum (tallied ns) + 1) = sum-counted (tallied ns) n (within ns n (and_left (ltb n 32) (all (λ m. ltb m 32) ns) w)) h in
    i.1 ∙ ap (λ (k : ℕ). k + 1) (sum-is-calls ns (and_right (ltb n 32) (all (λ m. ltb m 32) ns) w) i.0) ∙ add-one (length ns)
