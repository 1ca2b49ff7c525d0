-- What `decimal` writes: digits alone, no zero in front, and read back they give the number.
use mathlib.Core.Path.{◌≡◌, refl, sym, ap, ◌∙◌}
use mathlib.Core.Logic.{⊎_elim}
use mathlib.Core.Bool.{Bool, true, ◌&&◌}
use mathlib.Core.List.{List, [], ◌∷◌, ◌++◌}
use Prim.Native.Nat.{ℕ, zero, suc, ◌+◌, ◌-◌, ◌*◌, ◌/◌, ◌%◌, ◌^◌, ◌≤◌, ◌<◌}
use native.Mathlib.Nat.{pow-suc, div-lt_iff_lt-mul}
use native.Mathlib.Omega.{arith}
use lib.Dec.{ltb, leb}
use lib.ListN.{length, get_or, length-append, get_or-append}
use borrow.Author.Tests.{lt-ltb, le-ltb, le-leb, ltb-false}
use Rattle.std.specs.Prelude as std
use Rattle.std.proofs.lemmas.Fmt.{decimal_by_steps}
use Rattle.octets.specs.Octets.{all}
use Rattle.octets.proofs.Tests.{by_test, below_or, and_both, and_left, and_right}
use Rattle.night_report.specs.Report.{digits_within, decimal}

-- any two bounds above the number give the same digits
enough : (k m n : ℕ) → n < k → n < m → digits_within k n ≡ digits_within m n
unfolding digits_within
enough zero m n h l = absurd (omega arith)
enough (suc k) zero n h l = absurd (omega arith)
enough (suc k) (suc m) n h l =
    by_test (ltb n 10)
    (λ e. simp e)
    (λ e. let ten : 10 ≤ n = ltb-false n 10 e in
    simp e (ap (λ (s : List ℕ). s ++ ((48 + n % 10) ∷ [])) (enough k m (n / 10) (omega arith) (omega arith))))

decimal-within : (k n : ℕ) → n < k → digits_within k n ≡ decimal n
unfolding decimal
decimal-within k n h = enough k (suc n) n h (omega arith)

-- one digit, or the digits of the tenth with the last one behind them
pub decimal-low : (n : ℕ) → n < 10 → decimal n ≡ (48 + n) ∷ []
unfolding decimal digits_within
decimal-low n h = simp (lt-ltb n 10 h)

pub decimal-high : (n : ℕ) → 10 ≤ n → decimal n ≡ decimal (n / 10) ++ ((48 + n % 10) ∷ [])
unfolding decimal digits_within
decimal-high n h =
    simp (le-ltb n 10 h) (ap (λ (s : List ℕ). s ++ ((48 + n % 10) ∷ [])) (decimal-within n (n / 10) (omega arith)))

-- what holds of one digit, and of a number where it holds of its tenth, holds of every number
by_digits : (P : ℕ → Type 0) → ((n : ℕ) → n < 10 → P n) → ((n : ℕ) → 10 ≤ n → P (n / 10) → P n) → (n : ℕ) → P n
by_digits P low high n = go (suc n) n (omega arith)
  where
    go : (k m : ℕ) → m < k → P m
    go zero m h = absurd (omega arith)
    go (suc k) m h = ⊎_elim (low m) (λ (ten : 10 ≤ m). high m ten (go k (m / 10) (omega arith))) (below_or m 10)

pub high-length : (n : ℕ) → 10 ≤ n → length (decimal n) ≡ length (decimal (n / 10)) + 1
high-length n h = ap length (decimal-high n h) ∙ length-append (decimal (n / 10)) ((48 + n % 10) ∷ [])

pub decimal-some : (n : ℕ) → 1 ≤ length (decimal n)
decimal-some =
    by_digits (λ n. 1 ≤ length (decimal n)) (λ n h. rw (decimal-low n h) (omega arith)) (λ n h some. omega (arith, high-length n h))

-- a number below 10 ^ k has at most k digits
pub decimal-length : (k n : ℕ) → n < 10 ^ k → 1 ≤ k → length (decimal n) ≤ k
decimal-length zero n h l = absurd (omega arith)
decimal-length (suc zero) n h l = rw (decimal-low n h) (omega arith)
decimal-length (suc (suc k)) n h l =
    ⊎_elim
    (λ (low : n < 10). rw (decimal-low n low) (omega arith))
    (λ (high : 10 ≤ n).
    let less : n < 10 ^ suc k * 10 = rw pow-suc at h in
    omega (arith, high-length n high, decimal-length (suc k) (n / 10) ((div-lt_iff_lt-mul (omega arith)).1 less) (omega arith)))
    (below_or n 10)

pub length-u64 : (n : ℕ) → n < 18446744073709551616 → length (decimal n) ≤ 20
length-u64 n h = decimal-length 20 n (omega arith) (omega arith)

pub length-u8 : (n : ℕ) → n < 256 → length (decimal n) ≤ 3
length-u8 n h = decimal-length 3 n (omega arith) (omega arith)

-- the number that decimal digits stand for, the highest first; n is what the digits before them stand for
unfoldable pub value_after : ℕ → List ℕ → ℕ
value_after n [] = n
value_after n (d ∷ ds) = value_after (10 * n + (d - 48)) ds

unfoldable pub value_of : List ℕ → ℕ
value_of ds = value_after 0 ds

value-snoc : (ds : List ℕ) (d n : ℕ) → value_after n (ds ++ (d ∷ [])) ≡ 10 * value_after n ds + (d - 48)
unfolding value_after
value-snoc [] d n = refl
value-snoc (x ∷ ds) d n = value-snoc ds d (10 * n + (x - 48))

pub decimal-value : (n : ℕ) → value_of (decimal n) ≡ n
unfolding value_of value_after
decimal-value =
    by_digits (λ n. value_of (decimal n) ≡ n)
    (λ n h. rw (decimal-low n h) (omega arith))
    (λ n h tenth. rw (decimal-high n h) (omega (arith, value-snoc (decimal (n / 10)) (48 + n % 10) 0)))

-- only 0 begins with the digit 0
pub decimal-first : (n : ℕ) → get_or (decimal n) 0 0 ≡ 48 → n ≡ 0
decimal-first =
    by_digits (λ n. get_or (decimal n) 0 0 ≡ 48 → n ≡ 0)
    (λ n h e. let one : 48 + n ≡ 48 = rw (decimal-low n h) at e in omega arith)
    (λ n h tenth e.
    let whole : get_or (decimal (n / 10) ++ ((48 + n % 10) ∷ [])) 0 0 ≡ 48 = rw (decimal-high n h) at e in
    let none : n / 10 ≡ 0 = tenth (sym (get_or-append (decimal (n / 10)) ((48 + n % 10) ∷ []) 0 0 (decimal-some (n / 10))) ∙ whole) in
    absurd (omega arith))

abbrev pub is_digit : ℕ → Bool
is_digit d = leb 48 d && leb d 57

is_digit_lem : (n : ℕ) → n < 10 → is_digit (48 + n) ≡ true
is_digit_lem n h = and_both (leb 48 (48 + n)) (leb (48 + n) 57) (le-leb 48 (48 + n) (omega arith)) (le-leb (48 + n) 57 (omega arith))

all_snoc : (p : ℕ → Bool) (s : List ℕ) (b : ℕ) → all p s ≡ true → p b ≡ true → all p (s ++ (b ∷ [])) ≡ true
all_snoc p [] b h e = and_both (p b) true e refl
all_snoc p (x ∷ s) b h e =
    and_both (p x) (all p (s ++ (b ∷ []))) (and_left (p x) (all p s) h) (all_snoc p s b (and_right (p x) (all p s) h) e)

pub decimal-digits : (n : ℕ) → all is_digit (decimal n) ≡ true
decimal-digits =
    by_digits (λ n. all is_digit (decimal n) ≡ true)
    (λ n h. rw (decimal-low n h) (all_snoc is_digit [] (48 + n) refl (is_digit_lem n h)))
    (λ n h tenth. rw (decimal-high n h) (all_snoc is_digit (decimal (n / 10)) (48 + n % 10) tenth (is_digit_lem (n % 10) (omega arith))))

-- std's digits are these
pub written_so : (n : ℕ) → n < 18446744073709551616 → std.decimal n ≡ decimal n
written_so n h =
    decimal_by_steps (λ m ds. ds ≡ decimal m) (λ m l. sym (decimal-low m l))
    (λ m ds ten e. ap (λ (s : List ℕ). s ++ ((48 + m % 10) ∷ [])) e ∙ sym (decimal-high m ten)) n h
