-- E1 to E12 of document 01, 'Examples on both sides', spellings of a name for document 02, Q-2, expired tacks for Q-4 and disabled
-- servers for Q-7: one table under one statement, `Examples`.
use Rattle.std.specs.Prelude.{◌≡◌, Bool, true, false, List, [], ◌∷◌, ◌++◌, ℕ, ◌*◌, ◌-◌, pos, replicate, set}
use Rattle.octets.specs.Octets.{big_endian}
use Rattle.tack_extension.specs.Extension.{parts, bytes_of, parse}
use Rattle.tack_extension.specs.Answers.{reading_number}
use Rattle.pin_model.specs.declared.Checks.{Checks}
use Rattle.pin_model.specs.Connection.{Connection, connection, checks_by}
use Rattle.pin_model.specs.Calls.{Call, judge, inspect, Answer, answer_of, plain, answered}
use Rattle.pin_model.specs.Run.{area_of}

-- bytes, and the number that the reader answers with
pub record ReadingRow : Type 0 where
  pub bytes : List ℕ
  pub number : ℕ

abbrev pub ReadingRight : ReadingRow → Type 0
ReadingRight r = reading_number (parse r.bytes) ≡ r.number

-- the calls before, the newest first, from an area that is all zero; the call; its whole answer
pub record Row : Type 0 where
  pub history : List Call
  pub call : Call
  pub gives : Answer

abbrev pub Right : Row → Type 0
Right r = answered r.call (area_of false r.history) ≡ r.gives

abbrev pub row : List Call → Call → Answer → Row
row history call gives = record { history = history; call = call; gives = gives }

-- 'then', 'from E4': the calls up to a row's own
abbrev pub after : Row → List Call
after r = r.call ∷ r.history

-- P holds of each row of a list
infixr 5 ◌also◌
pub data Every {A : Type 0} (P : A → Type 0) : List A → Type 0 where
  nothing : Every P []
  ◌also◌ : {x : A} {xs : List A} → P x → Every P xs → Every P (x ∷ xs)

-- 'name `a.b`'
abbrev pub host : List ℕ
host = 0x61 ∷ 0x2E ∷ 0x62 ∷ []

-- the hash that the server's key has, and the tack's target hash
abbrev pub hash : List ℕ
hash = replicate 32 0x22

-- a tack by its key, min_generation, generation and expiration, any bytes being its signature; and one of 'K all 0x11'
abbrev pub tack_under : List ℕ → ℕ → ℕ → ℕ → List ℕ
tack_under key min_generation generation expiration =
    key ++ min_generation ∷ generation ∷ big_endian 4 expiration ++ hash ++ replicate 64 0x33

abbrev pub tack : ℕ → ℕ → ℕ → List ℕ
tack = tack_under (replicate 64 0x11)

-- an expiration after every clock below
abbrev pub later : ℕ
later = 4294967295

-- 'break signatures are absent, other checks pass'; nothing is asked for (document 02, Q-7)
abbrev pub pass : Checks
pass = checks_by true true true 0 false

-- a connection by its name and clock, with a tack and activation 1, or with 'no extension'
abbrev pub showing : List ℕ → ℕ → List ℕ → Connection
showing name clock t = connection clock name true (bytes_of (parts t [] 1)) hash pass

abbrev pub tack_as : List ℕ → ℕ → List ℕ → Call
tack_as name clock t = judge (showing name clock t)

abbrev pub no_extension_as : List ℕ → ℕ → Call
no_extension_as name clock = judge (connection clock name false [] hash pass)

-- the same for `a.b`
abbrev pub with_tack : ℕ → List ℕ → Call
with_tack clock t = tack_as host clock t

abbrev pub without_extension : ℕ → Call
without_extension clock = no_extension_as host clock

-- a number with the alert that the paper gives it
abbrev pub alerted : ℕ → ℕ → Answer
alerted n alert = record { number = n; alert = alert; no_room = false; floor = 0; initial = 0; end = 0; minutes_left = pos 0 }

-- E1: 'bytes 00 00 00 00 are well-formed'
abbrev pub e1 : ReadingRow
e1 = record { bytes = 0x00 ∷ 0x00 ∷ 0x00 ∷ 0x00 ∷ []; number = 9 }

-- E2: 'the same with last byte 02 give 16'
abbrev pub e2 : ReadingRow
e2 = record { bytes = 0x00 ∷ 0x00 ∷ 0x00 ∷ 0x02 ∷ []; number = 16 }

-- E3: 'zero bytes present give 16'
abbrev pub e3 : ReadingRow
e3 = record { bytes = []; number = 16 }

-- E4: 'name `a.b`, K all 0x11, min_generation 3, generation 3, clock 1000, empty table, activation 1: unpinned'
abbrev pub e4 : Row
e4 = row [] (with_tack 1000 (tack 3 3 later)) (plain 0)

-- E4: 'Table: 00 00 03 E8 00 00 00 00; key slot 0: 01 03, six 00, 64 times 11; name slot 0: 01 00 03 00, 00 00 03 E8, eight
-- 00, 61 2E 62; all else 00': the rest of 64 key slots of 72 bytes and of 128 name slots of 272 bytes
unfoldable pub e4_area : List ℕ
e4_area =
    0x00 ∷ 0x00 ∷ 0x03 ∷ 0xE8 ∷ 0x00 ∷ 0x00 ∷ 0x00 ∷ 0x00 ∷ []
    ++ 0x01 ∷ 0x03 ∷ replicate 6 0x00 ++ replicate 64 0x11
    ++ replicate (63 * 72) 0x00
    ++ 0x01 ∷ 0x00 ∷ 0x03 ∷ 0x00 ∷ 0x00 ∷ 0x00 ∷ 0x03 ∷ 0xE8 ∷ replicate 8 0x00 ++ 0x61 ∷ 0x2E ∷ 0x62 ∷ replicate 253 0x00
    ++ replicate (127 * 272) 0x00

-- E5: 'then K at 1600, activation 1: end 2200, confirmed'
abbrev pub e5 : Row
e5 = row (after e4) (with_tack 1600 (tack 3 3 later)) (plain 1)

-- E5's end, as an inspection shows it
abbrev pub e5_inspected : Row
e5_inspected =
    row (after e5) (inspect false host 1600)
    (answer_of false 6 false 3 1000 2200 (pos 600))

-- E6: 'then no extension at 2199: contradicted'
abbrev pub e6 : Row
e6 = row (after e5) (without_extension 2199) (alerted 2 49)

-- E7: 'instead at 2200: unpinned'
abbrev pub e7 : Row
e7 = row (after e5) (without_extension 2200) (plain 0)

-- E8: 'from E4, K at 100000, activation 1: end 143200'
abbrev pub e8 : Row
e8 = row (after e4) (with_tack 100000 (tack 3 3 later)) (plain 1)

-- E8's end, as an inspection shows it
abbrev pub e8_inspected : Row
e8_inspected =
    row (after e8) (inspect false host 100000)
    (answer_of false 6 false 3 1000 143200 (pos 43200))

-- E9: 'from E4, K with generation 2 and min_generation 2: 22'
abbrev pub e9 : Row
e9 = row (after e4) (with_tack 1000 (tack 2 2 later)) (alerted 22 44)

-- E10: 'generation 2, min_generation 3: 19, because 19 comes first'
abbrev pub e10 : Row
e10 = row (after e4) (with_tack 1000 (tack 3 2 later)) (alerted 19 50)

-- E11: 'from E5, clock 1599: 14'
abbrev pub e11 : Row
e11 = row (after e5) (with_tack 1599 (tack 3 3 later)) (plain 14)

-- E12: 'expiration 1000 at clock 1000 passes, at 1001 gives 23'
abbrev pub e12_at1000 : Row
e12_at1000 = row [] (with_tack 1000 (tack 3 3 1000)) (plain 0)

abbrev pub e12_at1001 : Row
e12_at1001 = row [] (with_tack 1001 (tack 3 3 1000)) (alerted 23 45)

-- 'Browsers hand us `Desk.Example`. Accept A-Z and treat it as a-z everywhere' (document 02, Q-2)
abbrev pub typed : List ℕ
typed = 0x44 ∷ 0x65 ∷ 0x73 ∷ 0x6B ∷ 0x2E ∷ 0x45 ∷ 0x78 ∷ 0x61 ∷ 0x6D ∷ 0x70 ∷ 0x6C ∷ 0x65 ∷ []

-- the same name as `desk.example`, `DESK.EXAMPLE` and `dESK.example`
abbrev pub small : List ℕ
small = 0x64 ∷ 0x65 ∷ 0x73 ∷ 0x6B ∷ 0x2E ∷ 0x65 ∷ 0x78 ∷ 0x61 ∷ 0x6D ∷ 0x70 ∷ 0x6C ∷ 0x65 ∷ []

abbrev pub capitals : List ℕ
capitals = 0x44 ∷ 0x45 ∷ 0x53 ∷ 0x4B ∷ 0x2E ∷ 0x45 ∷ 0x58 ∷ 0x41 ∷ 0x4D ∷ 0x50 ∷ 0x4C ∷ 0x45 ∷ []

abbrev pub mixed : List ℕ
mixed = 0x64 ∷ 0x45 ∷ 0x53 ∷ 0x4B ∷ 0x2E ∷ 0x65 ∷ 0x78 ∷ 0x61 ∷ 0x6D ∷ 0x70 ∷ 0x6C ∷ 0x65 ∷ []

-- E4, E5 and E6 again, each in another spelling of the name
abbrev pub spelled_made : Row
spelled_made = row [] (tack_as typed 1000 (tack 3 3 later)) (plain 0)

abbrev pub spelled_confirmed : Row
spelled_confirmed = row (after spelled_made) (tack_as small 1600 (tack 3 3 later)) (plain 1)

abbrev pub spelled_contradicted : Row
spelled_contradicted = row (after spelled_confirmed) (no_extension_as capitals 2199) (alerted 2 49)

-- the end of that pin, a minute before it
abbrev pub spelled_inspected : Row
spelled_inspected =
    row (after spelled_confirmed) (inspect false mixed 2199)
    (answer_of false 6 false 3 1000 2200 (pos 1))

-- 'A-Z' and no byte beside them, 'Refusal 12 narrows': `A.Z` passes, `@.Z` and `A.[` give 12
abbrev pub spelled_a_z : Row
spelled_a_z = row [] (tack_as (0x41 ∷ 0x2E ∷ 0x5A ∷ []) 1000 (tack 3 3 later)) (plain 0)

abbrev pub spelled_before_a : Row
spelled_before_a = row [] (tack_as (0x40 ∷ 0x2E ∷ 0x5A ∷ []) 1000 (tack 3 3 later)) (plain 12)

abbrev pub spelled_behind_z : Row
spelled_behind_z = row [] (tack_as (0x41 ∷ 0x2E ∷ 0x5B ∷ []) 1000 (tack 3 3 later)) (plain 12)

-- 'an expired but correctly signed tack with a higher min_generation must raise the floor of a standing key record' (document 02,
-- Q-4): from E4, E12's call at 1001 with min_generation 5
abbrev pub expired_raises : Row
expired_raises = row (after e4) (with_tack 1001 (tack 5 5 1000)) (alerted 23 45)

-- '23 changes that floor and nothing else, not even latest': E4's table with 05 in byte 1 of key slot 0
abbrev pub expired_area : List ℕ
expired_area = set e4_area 9 0x05

-- then a tack of generation 4 is 22, at 1000, where 14 would come if latest were 1001; one of generation 5 passes
abbrev pub expired_revokes : Row
expired_revokes = row (after expired_raises) (with_tack 1000 (tack 4 4 later)) (alerted 22 44)

abbrev pub expired_allows : Row
expired_allows = row (after expired_raises) (with_tack 1600 (tack 4 5 later)) (plain 1)

-- with a break signature of K in the same extension: K's record stands, and its floor is raised
abbrev pub expired_break : Row
expired_break =
    let bytes = bytes_of (parts (tack 5 5 1000) (replicate 64 0x11 ++ replicate 64 0x33) 1) in
    row (after e4) (judge (connection 1001 host true bytes hash (checks_by true true true 1 false))) (alerted 23 45)

abbrev pub expired_break_inspected : Row
expired_break_inspected = row (after expired_break) (inspect false host 1001) (answer_of false 5 false 5 1000 0 (pos 0))

-- an expired tack of a lower min_generation leaves the floor, and one of a key without a record makes none
abbrev pub expired_lower : Row
expired_lower = row (after e4) (with_tack 1001 (tack 2 3 1000)) (alerted 23 45)

abbrev pub expired_lower_inspected : Row
expired_lower_inspected = row (after expired_lower) (inspect false host 1001) (answer_of false 5 false 3 1000 0 (pos 0))

abbrev pub expired_unrecorded : Row
expired_unrecorded = row (after e12_at1001) (inspect false host 1001) (plain 4)

-- 'edition one makes a record only if activation is 1', or 'the old way by an explicit yes' (document 02, Q-7): a connection with
-- activation 0, by that yes or no, its clock and its tack
abbrev pub disabled_by : Bool → ℕ → List ℕ → Call
disabled_by learn_disabled clock t =
    judge (connection clock host true (bytes_of (parts t [] 0)) hash (checks_by true true true 0 learn_disabled))

-- E4's call with activation 0: by the default the table is all zero but latest, with the yes it is E4's
abbrev pub disabled_default : Row
disabled_default = row [] (disabled_by false 1000 (tack 3 3 later)) (plain 0)

unfoldable pub disabled_area : List ℕ
disabled_area = 0x00 ∷ 0x00 ∷ 0x03 ∷ 0xE8 ∷ replicate (39432 - 4) 0x00

abbrev pub disabled_yes : Row
disabled_yes = row [] (disabled_by true 1000 (tack 3 3 later)) (plain 0)

-- from E4, where K's record is inactive, the tack of another key at 1600: by the default K's record stays, with the yes it is replaced
abbrev pub other_tack : List ℕ
other_tack = tack_under (replicate 64 0x44) 7 7 later

abbrev pub disabled_keeps : Row
disabled_keeps = row (after e4) (disabled_by false 1600 other_tack) (plain 0)

abbrev pub disabled_keeps_inspected : Row
disabled_keeps_inspected = row (after disabled_keeps) (inspect false host 1600) (answer_of false 5 false 3 1000 0 (pos 0))

abbrev pub yes_replaces : Row
yes_replaces = row (after e4) (disabled_by true 1600 other_tack) (plain 0)

abbrev pub yes_replaces_inspected : Row
yes_replaces_inspected = row (after yes_replaces) (inspect false host 1600) (answer_of false 5 false 7 1600 0 (pos 0))

abbrev pub reading_examples : List ReadingRow
reading_examples = e1 ∷ e2 ∷ e3 ∷ []

abbrev pub examples : List Row
examples = e4 ∷ e5 ∷ e5_inspected ∷ e6 ∷ e7 ∷ e8 ∷ e8_inspected ∷ e9 ∷ e10 ∷ e11 ∷ e12_at1000 ∷ e12_at1001 ∷ []

abbrev pub spelled_examples : List Row
spelled_examples =
    spelled_made ∷ spelled_confirmed ∷ spelled_contradicted ∷ spelled_inspected
    ∷ spelled_a_z ∷ spelled_before_a ∷ spelled_behind_z ∷ []

abbrev pub expired_examples : List Row
expired_examples =
    expired_raises ∷ expired_revokes ∷ expired_allows ∷ expired_break ∷ expired_break_inspected
    ∷ expired_lower ∷ expired_lower_inspected ∷ expired_unrecorded ∷ []

abbrev pub disabled_examples : List Row
disabled_examples =
    disabled_default ∷ disabled_yes ∷ disabled_keeps ∷ disabled_keeps_inspected ∷ yes_replaces ∷ yes_replaces_inspected ∷ []

-- 'E1-E12 are proved together as one table under one statement'
pub record Examples : Type 0 where
  pub readings : Every ReadingRight reading_examples
  pub rows : Every Right examples
  pub e4_bytes : area_of false (after e4) ≡ e4_area
  pub spellings : Every Right spelled_examples
  pub expired : Every Right expired_examples
  pub expired_bytes : area_of false (after expired_raises) ≡ expired_area
  pub disabled : Every Right disabled_examples
  pub disabled_bytes : area_of false (after disabled_default) ≡ disabled_area
  pub yes_bytes : area_of false (after disabled_yes) ≡ e4_area
