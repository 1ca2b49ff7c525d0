-- Lists of bytes: their parts, what is put into them, numbers in big-endian order, tests.
use Rattle.std.specs.Prelude.{ℕ, zero, suc, ◌+◌, ◌*◌, ◌/◌, ◌%◌, ◌<◌, Bool, true, false, ◌&&◌, ◌||◌, List, [], ◌∷◌, ◌++◌, length, get_or, take, drop, eqb}

-- every element is a byte
abbrev pub Bytes : List ℕ → Type 0
Bytes s = (i : ℕ) → get_or s i 0 < 256

-- the n elements of b from index `at`
unfoldable pub part : List ℕ → ℕ → ℕ → List ℕ
part b at n = take n (drop at b)

-- b with vs in place of as many elements from index `at`
unfoldable pub put : List ℕ → ℕ → List ℕ → List ℕ
put b at vs = take at b ++ (vs ++ drop (at + length vs) b)

-- the lowest w bytes of a number, the highest of them first
unfoldable pub big_endian : ℕ → ℕ → List ℕ
big_endian zero v = []
big_endian (suc w) v = big_endian w (v / 256) ++ (v % 256 ∷ [])

-- the number that bytes stand for, the highest first; n is what the bytes before them stand for
unfoldable pub number_after : ℕ → List ℕ → ℕ
number_after n [] = n
number_after n (b ∷ bs) = number_after (256 * n + b) bs

unfoldable pub number : List ℕ → ℕ
number bs = number_after 0 bs

-- whether two lists are equal
unfoldable pub same : List ℕ → List ℕ → Bool
same [] [] = true
same (x ∷ xs) (y ∷ ys) = eqb x y && same xs ys
same [] (y ∷ ys) = false
same (x ∷ xs) [] = false

-- whether each element passes a test, and whether some element does
abbrev pub all : {A : Type 0} → (A → Bool) → List A → Bool
all p [] = true
all p (x ∷ xs) = p x && all p xs

abbrev pub any : {A : Type 0} → (A → Bool) → List A → Bool
any p [] = false
any p (x ∷ xs) = p x || any p xs

-- whether each element is zero
unfoldable pub all_zero : List ℕ → Bool
all_zero xs = all (λ x. eqb x 0) xs
