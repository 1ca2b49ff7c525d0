-- The running tally of a night (document 02, Q-1): a count for each number of an answer.
use Rattle.std.specs.Prelude.{ℕ, ◌+◌, min, Bool, cond, List, [], ◌∷◌, get_or, set, replicate, eqb, ltb}
use Rattle.octets.specs.Octets.{all}

-- 'in 32 bits': the greatest count
abbrev pub top : ℕ
top = 4294967295

-- one more, 'staying at the top'
abbrev pub raised : ℕ → ℕ
raised c = min (c + 1) top

-- 'changed in place': the counts after one more answer of the number n; a number that has no count changes none
unfoldable pub counted : ℕ → List ℕ → List ℕ
counted n cs = set cs n (raised (get_or cs n 0))

-- 'from zero': the counts after a list of answers, the newest first
unfoldable pub tallied : List ℕ → List ℕ
tallied [] = replicate 32 0
tallied (n ∷ ns) = counted n (tallied ns)

-- 'the count in the list of answers': how often n stands there
unfoldable pub times : ℕ → List ℕ → ℕ
times n [] = 0
times n (m ∷ ms) = cond (eqb m n) (times n ms + 1) (times n ms)

-- 'its sum'
unfoldable pub sum : List ℕ → ℕ
sum [] = 0
sum (c ∷ cs) = c + sum cs

-- 'if none is full'
unfoldable pub none_full : List ℕ → Bool
none_full cs = all (λ c. ltb c top) cs
