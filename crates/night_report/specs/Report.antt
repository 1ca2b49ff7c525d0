-- The report on a night of recorded calls, as text, by document 02, Q-1.
use Rattle.std.specs.Prelude.{ℕ, zero, suc, ◌+◌, ◌/◌, ◌%◌, Bool, true, false, cond, List, [], ◌∷◌, ◌++◌, length, ltb}
use Rattle.pin_model.specs.Connection.{Connection}
use Rattle.pin_model.specs.Calls.{Call, judge, Answer, answered}
use Rattle.pin_model.specs.Run.{area_of, number_of}
use Rattle.recorded_call.specs.RecordedCall.{Front, taken, cut_off, bad, recorded}

-- a number in decimal digits, the highest first; `suc n` digits are enough for n
unfoldable pub digits_within : ℕ → ℕ → List ℕ
digits_within zero n = []
digits_within (suc most) n = cond (ltb n 10) ((48 + n) ∷ []) (digits_within most (n / 10) ++ ((48 + n % 10) ∷ []))

unfoldable pub decimal : ℕ → List ℕ
decimal n = digits_within (suc n) n

-- 'a line per call: index from 0, number, alert, no-room 0 or 1, single spaces, newline'
unfoldable pub line_of : ℕ → ℕ → ℕ → Bool → List ℕ
line_of index number alert no_room =
    decimal index
    ++ ((32 ∷ [])
    ++ (decimal number
    ++ ((32 ∷ [])
    ++ (decimal alert
    ++ ((32 ∷ [])
    ++ (decimal (cond no_room 1 0)
    ++ (10 ∷ [])))))))

abbrev pub line : ℕ → Answer → List ℕ
line index a = line_of index a.number a.alert a.no_room

-- 'the number of calls as the line `total 2`'
unfoldable pub total_line : ℕ → List ℕ
total_line n = (116 ∷ 111 ∷ 116 ∷ 97 ∷ 108 ∷ 32 ∷ []) ++ (decimal n ++ (10 ∷ []))

-- 'the line `bad`'
abbrev pub bad_line : List ℕ
bad_line = 98 ∷ 97 ∷ 100 ∷ 10 ∷ []

-- the calls of a night in order, and whether no bytes are left behind them
pub record Night : Type 0 where
  pub calls : List Connection
  pub whole : Bool

abbrev pub ends : Bool → Night
ends whole = record { calls = []; whole = whole }

abbrev pub before : Connection → Night → Night
before c n = record { calls = c ∷ n.calls; whole = n.whole }

abbrev pub is_empty : List ℕ → Bool
is_empty [] = true
is_empty (b ∷ s) = false

-- 'A call cut off, or a field out of order, of wrong length or with a wrong bit' ends the night; behind a call it goes on
abbrev pub night_by : (List ℕ → Night) → List ℕ → Front Connection → Night
night_by go_on s (taken c rest) = before c (go_on rest)
night_by go_on s cut_off = ends (is_empty s)
night_by go_on s bad = ends false

-- each call takes some bytes, so a night has at most as many calls as bytes
unfoldable pub night_within : ℕ → List ℕ → Night
night_within zero s = ends (is_empty s)
night_within (suc most) s = night_by (night_within most) s (recorded s)

unfoldable pub night_of : List ℕ → Night
night_of s = night_within (length s) s

-- 'The program starts from an empty table', that of edition one: the lines of calls behind earlier ones, the newest of which comes
-- first, in the very run of demand 3
unfoldable pub lines : List Call → List Connection → List ℕ
lines earlier [] = []
lines earlier (c ∷ cs) = line (length earlier) (answered (judge c) (area_of false earlier)) ++ lines (judge c ∷ earlier) cs

-- 'ends the report without a total'
abbrev pub closing : ℕ → Bool → List ℕ
closing n true = total_line n
closing n false = bad_line

-- the report from the calls behind earlier ones on, and the whole one
unfoldable pub report_from : List Call → List ℕ → List ℕ
report_from earlier s =
    let night = night_of s in
    lines earlier night.calls ++ closing (length earlier + length night.calls) night.whole

unfoldable pub report : List ℕ → List ℕ
report s = report_from [] s

-- 'the list of answers': the numbers of calls from that table, the newest first, as the tally counts them
unfoldable pub numbers : List Call → List ℕ
numbers [] = []
numbers (c ∷ cs) = number_of false c cs ∷ numbers cs
