-- The bytes of an extension of edition two, by document 02, Q-3, and where that is silent by document 01, 'Extension bytes'.
use Rattle.std.specs.Prelude.{ℕ, ◌/◌, ◌%◌, Bool, cond, ◌&&◌, ◌||◌, List, [], ◌∷◌, ◌++◌, length, take, drop, eqb, ltb}
use Rattle.std.proofs.Math.Option.{Option, none, some}
use Rattle.octets.specs.Octets.{big_endian}
use Rattle.tack_extension.specs.Extension.{Step, read, refused, length_step, last_step}

-- what it holds; an absent second tack is an empty part
pub record PartsTwo : Type 0 where
  pub first : List ℕ
  pub second : List ℕ
  pub flags : ℕ

abbrev pub parts_two : List ℕ → List ℕ → ℕ → PartsTwo
parts_two a b f = record { first = a; second = b; flags = f }

-- from one part that holds one or two tacks
abbrev pub parts_in : List ℕ → ℕ → PartsTwo
parts_in tacks flags = parts_two (take 166 tacks) (drop 166 tacks) flags

-- 'a two-byte length of 166 or 332'
abbrev pub tacks_length : ℕ → Bool
tacks_length n = eqb n 166 || eqb n 332

-- 'Bit 0 enables the first tack, bit 1 the second; another bit set, or bit 1 with one tack, is 16.'
abbrev pub flags_allowed : ℕ → ℕ → Bool
flags_allowed tacks flags = ltb flags (cond (eqb tacks 332) 4 2)

abbrev pub enables_first : PartsTwo → Bool
enables_first p = eqb (p.flags % 2) 1

abbrev pub enables_second : PartsTwo → Bool
enables_second p = eqb (p.flags / 2 % 2) 1

-- what the writer takes: a first tack of 166 bytes, a second of 166 or none
abbrev pub good_two : PartsTwo → Bool
good_two p =
    eqb (length p.first) 166
    && ((eqb (length p.second) 0 || eqb (length p.second) 166)
    && flags_allowed (length (p.first ++ p.second)) p.flags)

unfoldable pub bytes_of_two : PartsTwo → List ℕ
bytes_of_two p = big_endian 2 (length (p.first ++ p.second)) ++ ((p.first ++ p.second) ++ (p.flags ∷ []))

-- 'a two-byte length of 166 or 332, one or two tacks'
unfoldable pub tacks_step : List ℕ → Step
unfolding length_step
tacks_step s = length_step tacks_length s

-- 'one flags byte', and nothing more
unfoldable pub flags_step : ℕ → List ℕ → Option ℕ
unfolding last_step
flags_step tacks s = last_step (flags_allowed tacks) s

-- 'the first failing step ends the reading'
abbrev pub after_flags : List ℕ → Option ℕ → Option PartsTwo
after_flags tacks (some f) = some (parts_in tacks f)
after_flags tacks none = none

abbrev pub after_tacks : Step → Option PartsTwo
after_tacks (read tacks s) = after_flags tacks (flags_step (length tacks) s)
after_tacks refused = none

unfoldable pub parse_two : List ℕ → Option PartsTwo
parse_two s = after_tacks (tacks_step s)

-- the parts of a refused reading are empty
abbrev pub parts_or_none : Option PartsTwo → PartsTwo
parts_or_none (some p) = p
parts_or_none none = parts_two [] [] 0
