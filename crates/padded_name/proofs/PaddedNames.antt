-- A name of n bytes padded with zeros: what `short_formed` tests says just that.
use mathlib.Core.Path.{◌≡◌, refl, sym, ap, ap₂, ◌∙◌}
use mathlib.Core.Bool.{Bool, true, false, not, ◌&&◌, ◌||◌, false≢true}
use mathlib.Core.List.{List, ◌∷◌}
use mathlib.Core.Logic.{⊎_elim}
use Prim.Native.Nat.{ℕ, zero, suc, ◌+◌, ◌-◌, ◌≤◌, ◌<◌, max}
use native.Mathlib.Numerals.{add-one}
use native.Mathlib.Omega.{arith}
use lib.Dec.{eqb}
use lib.ListN.{length, get_or}
use borrow.Author.Tests.{eq-eqb, ne_eqb, eqb-true}
use Rattle.std.specs.List.{range_with_len}
use Rattle.octets.specs.Octets.{all, part, all_zero}
use Rattle.octets.specs.Search.{every}
use Rattle.octets.proofs.Tests.{below_or, both_ways, and_left, and_right, and_both, or_cases}
use Rattle.octets.proofs.Parts.{part_length, part_at}
use Rattle.octets.proofs.Equal.{all-at, all-each, part-zero-at, part-zero-each}
use Rattle.octets.proofs.Search.{every_true, every-at}
use Rattle.host_name.specs.Name.{dot, well_formed}
use Rattle.host_name.specs.Scan.{name_byte}
use Rattle.padded_name.specs.Neighbours.{neighbours, Short}
use Rattle.host_name.proofs.Labels.{none-refused}
use Rattle.host_name.proofs.ShortNames.{Kind, is_letter, is_hyphen, is_dot, kind, dots_apart, apart-at, apart-last, apart-all, short-formed}

-- a test of the numbers below a count, as one over their list
every-same : (p q : ℕ → Bool) (n : ℕ) → ((i : ℕ) → p i ≡ q i) → every p n ≡ every q n
unfolding every
every-same p q zero h = refl
every-same p q (suc n) h = ap₂ ◌&&◌ (h zero) (every-same (λ i. p (suc i)) (λ i. q (suc i)) n (λ i. h (suc i)))

range-from : (p : ℕ → Bool) (a n : ℕ) → all p (range_with_len a n) ≡ every (λ i. p (a + i)) n
unfolding every
range-from p a zero = refl
range-from p a (suc n) =
    ap₂ ◌&&◌ (ap p (omega arith))
    (range-from p (a + 1) n ∙ every-same (λ i. p (a + 1 + i)) (λ i. p (a + suc i)) n (λ i. ap p (omega arith)))

pub all-range : (p : ℕ → Bool) (n : ℕ) → all p (range_with_len 0 n) ≡ every p n
all-range p n = range-from p 0 n ∙ every-same (λ i. p (0 + i)) p n (λ i. ap p (omega arith))

-- what two neighbours say of each other, and what lets them stand so
record Pair (x y : ℕ) : Type 0 where
  byte : (x ≡ 0 → ⊥) → name_byte x ≡ true
  dots : max x y ≡ dot → ⊥
  zeros : x ≡ 0 → y ≡ 0

pair : (x y : ℕ) → neighbours x y ≡ true → Pair x y
unfolding neighbours
pair x y h =
    let f : ((name_byte x || eqb x 0) && not (eqb (max x y) dot)) ≡ true = and_left _ (not (eqb x 0) || eqb y 0) h in
    let z : (not (eqb x 0) || eqb y 0) ≡ true = and_right ((name_byte x || eqb x 0) && not (eqb (max x y) dot)) _ h in
    let d : not (eqb (max x y) dot) ≡ true = and_right (name_byte x || eqb x 0) _ f in
    record {
      byte = λ n. ⊎_elim (λ e. e) (λ e. absurd (n (eqb-true x 0 e))) (or_cases (name_byte x) (eqb x 0) (and_left (name_byte x || eqb x 0) _ f));
      dots = λ e. false≢true (sym (ap not (eq-eqb (max x y) dot e)) ∙ d);
      zeros = λ e. eqb-true y 0 (sym (ap (λ (b : Bool). not b || eqb y 0) (eq-eqb x 0 e)) ∙ z);
    }

in-name : (x y : ℕ) → name_byte x ≡ true → (max x y ≡ dot → ⊥) → neighbours x y ≡ true
unfolding neighbours
in-name x y h d =
    let z : eqb x 0 ≡ false = ne_eqb x 0 (λ e. false≢true (rw e at h)) in
    rw (h, z, ne_eqb (max x y) dot d) refl

in-zeros : (x y : ℕ) → x ≡ 0 → y ≡ 0 → neighbours x y ≡ true
unfolding neighbours
in-zeros x y e f = rw (e, f) refl

-- the padded name, and how far neighbours are looked at
module _ {q : List ℕ} {n m : ℕ} (short : Short q n m) where
  abbrev formed : Bool
  formed = well_formed (part q 0 n) && all_zero (part q n (256 - n))

  sized : length (part q 0 n) ≡ n
  sized = part_length q 0 n (omega arith)

  byte_at : (i : ℕ) → i < n → get_or (part q 0 n) i 0 ≡ get_or q i 0
  byte_at i l = part_at q 0 n i l ∙ ap (λ (k : ℕ). get_or q k 0) (omega arith)

  -- the byte before place i of the name, a dot before the first
  before_at : (i : ℕ) → i < n → get_or (dot ∷ part q 0 n) (suc i) 0 ≡ get_or q i 0
  before_at i l = byte_at i l

  by-neighbours : well_formed (part q 0 n) ≡ (all name_byte (part q 0 n) && dots_apart dot (part q 0 n))
  by-neighbours = short-formed (part q 0 n) (omega (arith, sized))

  -- what a name with zeros behind it has at each place
  module _ (h : formed ≡ true) where
    both : (all name_byte (part q 0 n) && dots_apart dot (part q 0 n)) ≡ true
    both = sym by-neighbours ∙ and_left (well_formed (part q 0 n)) (all_zero (part q n (256 - n))) h

    fine : dots_apart dot (part q 0 n) ≡ true
    fine = and_right (all name_byte (part q 0 n)) _ both

    is_byte : (i : ℕ) → i < n → name_byte (get_or q i 0) ≡ true
    is_byte i l = ap name_byte (sym (byte_at i l)) ∙ all-at name_byte (part q 0 n) (and_left (all name_byte (part q 0 n)) _ both) i (omega (arith, sized))

    is_zero : (i : ℕ) → n ≤ i → i < 256 → get_or q i 0 ≡ 0
    is_zero i l k = part-zero-at q n (256 - n) (and_right (well_formed (part q 0 n)) _ h) i l (omega arith)

    pub last_fits : 48 ≤ get_or q (n - 1) 0
    last_fits =
        let e : length (part q 0 n) ≡ suc (n - 1) = omega (arith, sized) in
        rw (e, before_at (n - 1) (omega arith)) at (apart-last dot (part q 0 n) fine)

    pub first_fits : 48 ≤ get_or q 0 0
    first_fits = go (kind (get_or q 0 0) (is_byte 0 short.some))
      where
        clear : max dot (get_or q 0 0) ≡ dot → ⊥
        clear e = apart-at dot (part q 0 n) fine 0 (omega (arith, sized)) (ap (max dot) (byte_at 0 short.some) ∙ e)

        go : Kind (get_or q 0 0) → 48 ≤ get_or q 0 0
        go (is_letter e l) = l
        go (is_hyphen e) = absurd (clear (omega arith))
        go (is_dot e) = absurd (clear (omega arith))

    pub behind-fits : get_or q n 0 ≡ 0
    behind-fits = is_zero n (omega arith) (omega arith)

    clear_at : (i : ℕ) → i < n → max (get_or q i 0) (get_or q (i + 1) 0) ≡ dot → ⊥
    clear_at i l e =
        ⊎_elim
        (λ k.
        apart-at dot (part q 0 n) fine (suc i) (omega (arith, sized))
        (ap₂ max (before_at i l) (byte_at (suc i) (omega arith) ∙ ap (λ (j : ℕ). get_or q j 0) (sym (add-one i))) ∙ e))
        (λ k.
        let here : i ≡ n - 1 = omega arith in
        let low : 48 ≤ get_or q i 0 = rw here last_fits in
        omega (arith, e, low, is_zero (i + 1) (omega arith) (omega arith)))
        (below_or (i + 1) n)

    pub neighbours-fit : every (λ i. neighbours (get_or q i 0) (get_or q (i + 1) 0)) m ≡ true
    neighbours-fit =
        every_true (λ i. neighbours (get_or q i 0) (get_or q (i + 1) 0)) m
        (λ i l. ⊎_elim
        (λ k. in-name (get_or q i 0) (get_or q (i + 1) 0) (is_byte i k) (clear_at i k))
        (λ k. in-zeros (get_or q i 0) (get_or q (i + 1) 0) (is_zero i k (omega arith)) (is_zero (i + 1) (omega arith) (omega arith)))
        (below_or i n))

  -- the tests leave only the zeros from m on
  module _ (first : 48 ≤ get_or q 0 0) (last : 48 ≤ get_or q (n - 1) 0) (behind : get_or q n 0 ≡ 0)
      (fitting : every (λ i. neighbours (get_or q i 0) (get_or q (i + 1) 0)) m ≡ true) where
    at_pair : (i : ℕ) → i < m → Pair (get_or q i 0) (get_or q (i + 1) 0)
    at_pair i l = pair _ _ (every-at (λ j. neighbours (get_or q j 0) (get_or q (j + 1) 0)) m i fitting l)

    -- behind a zero only zeros stand
    zero-on : (i k : ℕ) → i + k ≤ m → get_or q i 0 ≡ 0 → get_or q (i + k) 0 ≡ 0
    zero-on i zero l e = ap (λ (j : ℕ). get_or q j 0) (omega arith) ∙ e
    zero-on i (suc k) l e =
        let place : i + suc k ≡ i + k + 1 = omega arith in
        ap (λ (j : ℕ). get_or q j 0) place ∙ (at_pair (i + k) (omega arith)).zeros (zero-on i k (omega arith) e)

    zero-to : (i j : ℕ) → i ≤ j → j ≤ m → get_or q i 0 ≡ 0 → get_or q j 0 ≡ 0
    zero-to i j l k e = let place : i + (j - i) ≡ j = omega arith in rw place at (zero-on i (j - i) (omega arith) e)

    no_zero : (i : ℕ) → i < n → get_or q i 0 ≡ 0 → ⊥
    no_zero i l e = let z : get_or q (n - 1) 0 ≡ 0 = zero-to i (n - 1) (omega arith) (omega arith) e in omega (arith, last, z)

    is-formed : well_formed (part q 0 n) ≡ true
    is-formed =
        by-neighbours
        ∙ and_both (all name_byte (part q 0 n)) (dots_apart dot (part q 0 n))
        (all-each name_byte (part q 0 n)
        (λ i l. let k : i < n = omega (arith, sized) in ap name_byte (byte_at i k) ∙ (at_pair i (omega arith)).byte (no_zero i k)))
        (apart-all dot (part q 0 n) (λ i l e. clear i (omega (arith, sized)) (ap (max (get_or (dot ∷ part q 0 n) i 0)) (sym (byte_at i (omega (arith, sized)))) ∙ e))
        (let e : length (part q 0 n) ≡ suc (n - 1) = omega (arith, sized) in rw (e, before_at (n - 1) (omega arith)) last))
      where
        clear : (i : ℕ) → i < n → max (get_or (dot ∷ part q 0 n) i 0) (get_or q i 0) ≡ dot → ⊥
        clear zero l e = omega (arith, first, e)
        clear (suc i) l e =
            (at_pair i (omega arith)).dots
            (ap₂ max (sym (before_at i (omega arith))) (ap (λ (j : ℕ). get_or q j 0) (add-one i)) ∙ e)

    zeros : all_zero (part q m (256 - m)) ≡ all_zero (part q n (256 - n))
    zeros =
        both_ways (all_zero (part q m (256 - m))) (all_zero (part q n (256 - n)))
        (λ e. part-zero-each q n (256 - n) (omega arith)
        (λ i l k. ⊎_elim
        (λ (in-m : i < m). zero-to n i l (omega arith) behind)
        (λ (from-m : m ≤ i). part-zero-at q m (256 - m) e i from-m (omega arith))
        (below_or i m)))
        (λ e. part-zero-each q m (256 - m) (omega arith) (λ i l k. part-zero-at q n (256 - n) e i (omega arith) (omega arith)))

    pub zeros-left : all_zero (part q m (256 - m)) ≡ formed
    zeros-left = zeros ∙ ap (λ (b : Bool). b && all_zero (part q n (256 - n))) (sym is-formed)

-- no bytes are no name
pub none-formed : (q : List ℕ) (n : ℕ) (b : Bool) → n ≡ 0 → (well_formed (part q 0 n) && b) ≡ false
unfolding part well_formed
none-formed q n b e = rw (e, none-refused) refl
