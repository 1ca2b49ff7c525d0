-- Examples for edition two (document 02, Q-3 and Q-4): each a call after other calls, from the empty table of edition two, with its whole
-- answer and the table that it leaves; one table under one statement, `ExamplesTwo`.
use Rattle.std.specs.Prelude.{◌≡◌, Bool, true, false, List, [], ◌∷◌, ◌++◌, ℕ, zero, suc, ◌+◌, ◌*◌, ◌-◌, ◌/◌, ◌%◌, pos, length, drop, replicate}
use Rattle.std.proofs.Math.Option.{Option, none, some}
use Rattle.tack_extension_two.specs.ExtensionTwo.{PartsTwo, parts_two, bytes_of_two}
use Rattle.pin_model.specs.Table.{KeyRecord, key_record, NameRecord, name_record, Table, table, settled_at, empty}
use Rattle.pin_model.specs.Layout.{encode}
use Rattle.pin_model.specs.Connection.{connection}
use Rattle.pin_model.specs.Calls.{Call, judge_two, delete, inspect, start, Answer, answer_of, judgement, plain, answered}
use Rattle.pin_model.specs.Run.{area_of}
use Rattle.pin_model.specs.declared.ChecksTwo.{ChecksTwo}
use Rattle.pin_examples.specs.Examples.{alerted, Every, host, hash, tack_under, tack, later, tack_as, with_tack}

-- the calls before, the newest first, from the empty table of edition two; the call; its whole answer; the table that it leaves
pub record RowTwo : Type 0 where
  pub history : List Call
  pub call : Call
  pub gives : Answer
  pub leaves : Table

-- the answer on the bytes as the calls before left them, and every byte of the area after the call
pub record RightTwo (r : RowTwo) : Type 0 where
  pub answers : answered r.call (area_of true r.history) ≡ r.gives
  pub bytes : area_of true (r.call ∷ r.history) ≡ encode r.leaves

abbrev pub row_two : List Call → Call → Answer → Table → RowTwo
row_two history call gives leaves = record { history = history; call = call; gives = gives; leaves = leaves }

-- the calls up to a row's own
abbrev pub after_two : RowTwo → List Call
after_two r = r.call ∷ r.history

-- three keys
abbrev pub key_a : List ℕ
key_a = replicate 64 0x11

abbrev pub key_b : List ℕ
key_b = replicate 64 0x44

abbrev pub key_c : List ℕ
key_c = replicate 64 0x55

-- a tack of each
abbrev pub tack_a : List ℕ
tack_a = tack_under key_a 3 3 later

abbrev pub tack_b : List ℕ
tack_b = tack_under key_b 3 3 later

abbrev pub tack_c : List ℕ
tack_c = tack_under key_c 7 7 later

-- a hash that is no tack's target hash
abbrev pub other_hash : List ℕ
other_hash = replicate 32 0x77

-- the flags byte: 'Bit 0 enables the first tack, bit 1 the second'
abbrev pub neither : ℕ
neither = 0x00

abbrev pub the_first : ℕ
the_first = 0x01

abbrev pub the_second : ℕ
the_second = 0x02

abbrev pub both : ℕ
both = 0x03

-- each tack's 'own answers from the caller': whether the first tack's key is a point and its signature correct, then the second's
abbrev pub answers : Bool → Bool → Bool → Bool → ChecksTwo
answers point correct point2 correct2 =
    record {
      handshake_finished = true;
      first_is_point = point;
      first_correct = correct;
      second_is_point = point2;
      second_correct = correct2;
    }

abbrev pub pass_two : ChecksTwo
pass_two = answers true true true true

-- a connection to `a.b` by its clock and its extension's parts, with the hash and the answers
abbrev pub checked : ℕ → PartsTwo → List ℕ → ChecksTwo → Call
checked clock p server_hash checks = judge_two (connection clock host true (bytes_of_two p) server_hash checks)

-- all checks pass: two tacks for any name; for `a.b` one tack, two tacks, no extension
abbrev pub two_tacks_for : List ℕ → ℕ → List ℕ → List ℕ → ℕ → Call
two_tacks_for name clock first second flags =
    judge_two (connection clock name true (bytes_of_two (parts_two first second flags)) hash pass_two)

abbrev pub one_tack : ℕ → List ℕ → ℕ → Call
one_tack clock first flags = checked clock (parts_two first [] flags) hash pass_two

abbrev pub two_tacks : ℕ → List ℕ → List ℕ → ℕ → Call
two_tacks clock first second flags = two_tacks_for host clock first second flags

abbrev pub no_tack : ℕ → Call
no_tack clock = judge_two (connection clock host false [] hash pass_two)

-- a number that carries no alert
abbrev pub in_edition_two : ℕ → Answer
in_edition_two n = judgement true n false

-- a table by its edition, its latest clock, and its slots from the lowest on; the slots behind them are free
abbrev pub table_of : Bool → ℕ → List (Option KeyRecord) → List (Option NameRecord) → Table
table_of two latest keys names =
    table two latest (keys ++ replicate (64 - length keys) none) (names ++ replicate (128 - length names) none)

abbrev pub table_one : ℕ → List (Option KeyRecord) → List (Option NameRecord) → Table
table_one latest keys names = table_of false latest keys names

abbrev pub table_two : ℕ → List (Option KeyRecord) → List (Option NameRecord) → Table
table_two latest keys names = table_of true latest keys names

-- a used key slot; a used name slot by its name, key, initial and end, and one of `a.b`
abbrev pub key_with : List ℕ → ℕ → Option KeyRecord
key_with key floor = some (key_record key floor)

abbrev pub pin_for : List ℕ → List ℕ → ℕ → Option ℕ → Option NameRecord
pin_for name key initial end = some (name_record name key initial end)

abbrev pub pin_with : List ℕ → ℕ → Option ℕ → Option NameRecord
pin_with key initial end = pin_for host key initial end

-- A server moves from key A to key B through two tacks. A's record is made at 1000, and its last end is 4800. B's is made at
-- 2000; its end is 3800 by the call at 2900, and 5400 by the call at 3700.
-- 'each enabled tack .. makes one': A at 1000
abbrev pub move_made : RowTwo
move_made = row_two [] (one_tack 1000 tack_a the_first) (in_edition_two 0) (table_two 1000 (key_with key_a 3 ∷ []) (pin_with key_a 1000 none ∷ []))

-- 'extends its record by the same formula', after the verdict fell: A at 1600: unpinned, for no record was active; end 1600 + 600
abbrev pub move_pinned : RowTwo
move_pinned =
    row_two (after_two move_made) (one_tack 1600 tack_a the_first) (in_edition_two 0)
    (table_two 1600 (key_with key_a 3 ∷ []) (pin_with key_a 1000 (some 2200) ∷ []))

-- 'confirmed if any is active': A and B at 2000: A's end is 2000 + 1000, and B's record is made
abbrev pub move_both : RowTwo
move_both =
    row_two (after_two move_pinned) (two_tacks 2000 tack_a tack_b both) (in_edition_two 1)
    (table_two 2000 (key_with key_a 3 ∷ key_with key_b 3 ∷ []) (pin_with key_a 1000 (some 3000) ∷ pin_with key_b 2000 none ∷ []))

-- A and B at 2900: the ends are 2900 + 1900 and 2900 + 900, and both pins are active
abbrev pub move_both_pinned : RowTwo
move_both_pinned =
    row_two (after_two move_both) (two_tacks 2900 tack_a tack_b both) (in_edition_two 1)
    (table_two 2900 (key_with key_a 3 ∷ key_with key_b 3 ∷ []) (pin_with key_a 1000 (some 4800) ∷ pin_with key_b 2000 (some 3800) ∷ []))

-- that table in bytes: latest 2900, 'byte 4 is then 1'; key slots 0 and 1; name slots 0 and 1, of one name, on key slots 0 and 1;
-- all else 00: the rest of 64 key slots of 72 bytes and of 128 name slots of 272 bytes
unfoldable pub move_both_pinned_area : List ℕ
move_both_pinned_area =
    0x00 ∷ 0x00 ∷ 0x0B ∷ 0x54 ∷ 0x01 ∷ 0x00 ∷ 0x00 ∷ 0x00 ∷ []
    ++ 0x01 ∷ 0x03 ∷ replicate 6 0x00 ++ replicate 64 0x11
    ++ 0x01 ∷ 0x03 ∷ replicate 6 0x00 ++ replicate 64 0x44
    ++ replicate (62 * 72) 0x00
    ++ 0x01 ∷ 0x00 ∷ 0x03 ∷ 0x01 ∷ 0x00 ∷ 0x00 ∷ 0x03 ∷ 0xE8 ∷ 0x00 ∷ 0x00 ∷ 0x12 ∷ 0xC0 ∷ replicate 4 0x00
    ++ 0x61 ∷ 0x2E ∷ 0x62 ∷ replicate 253 0x00
    ++ 0x01 ∷ 0x01 ∷ 0x03 ∷ 0x01 ∷ 0x00 ∷ 0x00 ∷ 0x07 ∷ 0xD0 ∷ 0x00 ∷ 0x00 ∷ 0x0E ∷ 0xD8 ∷ replicate 4 0x00
    ++ 0x61 ∷ 0x2E ∷ 0x62 ∷ replicate 253 0x00
    ++ replicate (126 * 272) 0x00

-- 'contradicted if any active record has no matching tack': A alone at 3000, for B's record; latest moves, and nothing else
abbrev pub move_alone_a : RowTwo
move_alone_a = row_two (after_two move_both_pinned) (one_tack 3000 tack_a the_first) (alerted 2 49) (settled_at 3000 move_both_pinned.leaves)

-- instead B alone at 3000, for A's record
abbrev pub move_alone_b : RowTwo
move_alone_b = row_two (after_two move_both_pinned) (one_tack 3000 tack_b the_first) (alerted 2 49) (settled_at 3000 move_both_pinned.leaves)

-- instead A and B at 3700, B alone enabled: B's end is 3700 + 1700, behind A's
abbrev pub move_enabled_b : RowTwo
move_enabled_b =
    row_two (after_two move_both_pinned) (two_tacks 3700 tack_a tack_b the_second) (in_edition_two 1)
    (table_two 3700 (key_with key_a 3 ∷ key_with key_b 3 ∷ []) (pin_with key_a 1000 (some 4800) ∷ pin_with key_b 2000 (some 5400) ∷ []))

-- then B alone at 4799: contradicted, for A's record
abbrev pub move_too_early : RowTwo
move_too_early = row_two (after_two move_enabled_b) (one_tack 4799 tack_b the_first) (alerted 2 49) (settled_at 4799 move_enabled_b.leaves)

-- instead at 4800, where A's pin has run out: confirmed, and A's record and key go; B's end is 4800 + 2800
abbrev pub move_done : RowTwo
move_done =
    row_two (after_two move_enabled_b) (one_tack 4800 tack_b the_first) (in_edition_two 1)
    (table_two 4800 (none ∷ key_with key_b 3 ∷ []) (none ∷ pin_with key_b 2000 (some 7600) ∷ []))

-- instead A alone at 4800: contradicted, for B's record; 'Unless contradicted': A's inactive record stays
abbrev pub move_back : RowTwo
move_back = row_two (after_two move_enabled_b) (one_tack 4800 tack_a the_first) (alerted 2 49) (settled_at 4800 move_enabled_b.leaves)

-- A alone at 5000, after B alone at 4800: contradicted
abbrev pub move_back_later : RowTwo
move_back_later = row_two (after_two move_done) (one_tack 5000 tack_a the_first) (alerted 2 49) (settled_at 5000 move_done.leaves)

-- instead the next move, B and C at 5000: C's records take the lowest free slots, which were A's
abbrev pub move_next : RowTwo
move_next =
    row_two (after_two move_done) (two_tacks 5000 tack_b tack_c both) (in_edition_two 1)
    (table_two 5000 (key_with key_c 7 ∷ key_with key_b 3 ∷ []) (pin_with key_c 5000 none ∷ pin_with key_b 2000 (some 8000) ∷ []))

-- Contradicted, floors raised, disabled.
-- 'After the floors are raised and latest set, the verdict falls': A alone at 3000 with min_generation 5: its floor and latest
-- move, nothing else
abbrev pub contradicted_raises : RowTwo
contradicted_raises =
    row_two (after_two move_both_pinned) (one_tack 3000 (tack_under key_a 5 6 later) the_first) (alerted 2 49)
    (table_two 3000 (key_with key_a 5 ∷ key_with key_b 3 ∷ []) (pin_with key_a 1000 (some 4800) ∷ pin_with key_b 2000 (some 3800) ∷ []))

-- 'Unless contradicted': C alone at 2000 is contradicted, for A's record, and none is made
abbrev pub contradicted_makes_none : RowTwo
contradicted_makes_none = row_two (after_two move_pinned) (one_tack 2000 tack_c the_first) (alerted 2 49) (settled_at 2000 move_pinned.leaves)

-- 'the floors are raised': A's and B's, though only A's tack is enabled
abbrev pub both_raise : RowTwo
both_raise =
    row_two (after_two move_both_pinned) (two_tacks 3000 (tack_under key_a 4 4 later) (tack_under key_b 6 6 later) the_first) (in_edition_two 1)
    (table_two 3000 (key_with key_a 4 ∷ key_with key_b 6 ∷ []) (pin_with key_a 1000 (some 5000) ∷ pin_with key_b 2000 (some 3800) ∷ []))

-- 'each enabled tack .. makes one': a disabled tack makes none
abbrev pub disabled_makes_none : RowTwo
disabled_makes_none = row_two [] (one_tack 1000 tack_a neither) (in_edition_two 0) (table_two 1000 [] [])

-- 'inactive records of the name with no matching enabled tack go, as do keys left without names': A's tack disabled
abbrev pub disabled_goes : RowTwo
disabled_goes = row_two (after_two move_made) (one_tack 1600 tack_a neither) (in_edition_two 0) (table_two 1600 [] [])

-- instead no extension
abbrev pub absent_goes : RowTwo
absent_goes = row_two (after_two move_made) (no_tack 1600) (in_edition_two 0) (table_two 1600 [] [])

-- 'any active record has no matching tack': A's tack at 2199, disabled, matches its active record: confirmed, and the end stays
abbrev pub disabled_matches : RowTwo
disabled_matches = row_two (after_two move_pinned) (one_tack 2199 tack_a neither) (in_edition_two 1) (settled_at 2199 move_pinned.leaves)

-- instead at 2200: the record is no longer active, and goes
abbrev pub disabled_at_end : RowTwo
disabled_at_end = row_two (after_two move_pinned) (one_tack 2200 tack_a neither) (in_edition_two 0) (table_two 2200 [] [])

-- Refusals, each of which leaves the table as it was; one call beside them passes.
-- 'another bit set, or bit 1 with one tack, is 16'
abbrev pub bit_without_tack : RowTwo
bit_without_tack = row_two [] (one_tack 1000 tack_a the_second) (alerted 16 42) (empty true)

abbrev pub further_bit : RowTwo
further_bit = row_two [] (two_tacks 1000 tack_a tack_b 0x04) (alerted 16 42) (empty true)

-- '24, two tacks with one key'
abbrev pub one_key : RowTwo
one_key = row_two [] (two_tacks 1000 tack_a (tack_under key_a 4 5 later) both) (alerted 24 42) (empty true)

-- '24 ..; then for each tack': 24 before 18
abbrev pub one_key_first : RowTwo
one_key_first =
    row_two [] (checked 1000 (parts_two tack_a (tack_under key_a 4 5 later) both) hash (answers false true true true)) (alerted 24 42) (empty true)

-- '23 (now given if expiration is at or below the clock)': expiration 1000 gives 23 at clock 1000, and passes at 999
abbrev pub expired_at1000 : RowTwo
expired_at1000 = row_two [] (one_tack 1000 (tack_under key_a 3 3 1000) the_first) (alerted 23 45) (empty true)

abbrev pub expires_after999 : RowTwo
expires_after999 =
    row_two [] (one_tack 999 (tack_under key_a 3 3 1000) the_first) (in_edition_two 0)
    (table_two 999 (key_with key_a 3 ∷ []) (pin_with key_a 999 none ∷ []))

-- 'there 23 raises no floor' (document 02, Q-4): from A's record, A's tack with min_generation 5, expired
abbrev pub expired_raises_none : RowTwo
expired_raises_none = row_two (after_two move_made) (one_tack 1600 (tack_under key_a 5 5 1600) the_first) (alerted 23 45) move_made.leaves

-- '18, 19, 23 .., 20, 21': 19 before 23, 23 before 20, 20 before 21
abbrev pub generation_first : RowTwo
generation_first = row_two [] (one_tack 1000 (tack_under key_a 3 2 1000) the_first) (alerted 19 42) (empty true)

abbrev pub expired_first : RowTwo
expired_first =
    row_two [] (checked 1000 (parts_two (tack_under key_a 3 3 1000) [] the_first) other_hash pass_two) (alerted 23 45) (empty true)

abbrev pub hash_first : RowTwo
hash_first = row_two [] (checked 1000 (parts_two tack_a [] the_first) other_hash (answers true false true true)) (alerted 20 42) (empty true)

-- 'for each tack in order': 21 of the first before 18 of the second
abbrev pub first_tack_first : RowTwo
first_tack_first = row_two [] (checked 1000 (parts_two tack_a tack_b both) hash (answers true false false true)) (alerted 21 42) (empty true)

-- 'then 22 for either': A with generation 2 below its floor 3, as the first tack and as the second
abbrev pub first_revoked : RowTwo
first_revoked = row_two (after_two move_made) (two_tacks 1600 (tack_under key_a 2 2 later) tack_b both) (alerted 22 44) move_made.leaves

abbrev pub second_revoked : RowTwo
second_revoked = row_two (after_two move_made) (two_tacks 1600 tack_b (tack_under key_a 2 2 later) both) (alerted 22 44) move_made.leaves

-- 18 of the second before 22 of the first
abbrev pub revoked_last : RowTwo
revoked_last =
    row_two (after_two move_made) (checked 1600 (parts_two (tack_under key_a 2 2 later) tack_b both) hash (answers true true false true)) (alerted 18 42)
    move_made.leaves

-- Editions. 'a start in it sets the edition': a table of edition one, and of edition two again
abbrev pub started_one : RowTwo
started_one = row_two (after_two move_made) (start false) (plain 7) (empty false)

abbrev pub started_two : RowTwo
started_two = row_two (after_two started_one) (start true) (plain 7) (empty true)

-- 'Judging for the other edition is 27, after 11, nothing changed': edition one's on a table of edition two
abbrev pub one_on_two : RowTwo
one_on_two = row_two (after_two move_made) (with_tack 1600 (tack 3 3 later)) (plain 27) move_made.leaves

-- 27 before 12: with the empty name
abbrev pub one_on_two_first : RowTwo
one_on_two_first = row_two [] (tack_as [] 1000 (tack 3 3 later)) (plain 27) (empty true)

-- edition two's on a table of edition one, which E4's call leaves
abbrev pub e4_on_one : RowTwo
e4_on_one =
    row_two (after_two started_one) (with_tack 1000 (tack 3 3 later)) (plain 0)
    (table_one 1000 (key_with key_a 3 ∷ []) (pin_with key_a 1000 none ∷ []))

abbrev pub two_on_one : RowTwo
two_on_one = row_two (after_two e4_on_one) (one_tack 1600 tack_a the_first) (in_edition_two 27) e4_on_one.leaves

-- Deletion and inspection.
-- 'Deletion removes both records', and both keys, since no name is left on them
abbrev pub deletes_both : RowTwo
deletes_both = row_two (after_two move_both_pinned) (delete host) (plain 3) (table_two 2900 [] [])

-- 'inspection takes the first or the second by slot order': A's, and B's
abbrev pub inspects_first : RowTwo
inspects_first =
    row_two (after_two move_both_pinned) (inspect false host 2900)
    (answer_of false 6 false 3 1000 4800 (pos 1900))
    move_both_pinned.leaves

abbrev pub inspects_second : RowTwo
inspects_second =
    row_two (after_two move_both_pinned) (inspect true host 2900)
    (answer_of false 6 false 3 2000 3800 (pos 900))
    move_both_pinned.leaves

-- by slot and not by age: C's record, the younger, stands before B's
abbrev pub inspects_younger : RowTwo
inspects_younger =
    row_two (after_two move_next) (inspect false host 5000)
    (answer_of false 5 false 7 5000 0 (pos 0))
    move_next.leaves

abbrev pub inspects_older : RowTwo
inspects_older =
    row_two (after_two move_next) (inspect true host 5000)
    (answer_of false 6 false 3 2000 8000 (pos 3000))
    move_next.leaves

-- '4 if missing': the second, where one record stands
abbrev pub inspects_missing : RowTwo
inspects_missing = row_two (after_two move_pinned) (inspect true host 1600) (plain 4) move_pinned.leaves

-- Room. n calls at 1000, for the names `aa`, `ab` and so on, each with two tacks of its own; the 2n key records and name records
-- that they make
abbrev pub other_name : ℕ → List ℕ
other_name n = (0x61 + n / 26) ∷ (0x61 + n % 26) ∷ []

abbrev pub other_key : ℕ → List ℕ
other_key n = replicate 64 (0x80 + n)

abbrev pub other_tack : ℕ → List ℕ
other_tack n = tack_under (other_key n) 3 3 later

abbrev pub others : ℕ → List Call
others zero = []
others (suc n) = two_tacks_for (other_name n) 1000 (other_tack (2 * n)) (other_tack (2 * n + 1)) both ∷ others n

abbrev pub other_keys : ℕ → List (Option KeyRecord)
other_keys zero = []
other_keys (suc n) = other_keys n ++ key_with (other_key (2 * n)) 3 ∷ key_with (other_key (2 * n + 1)) 3 ∷ []

abbrev pub other_pins : ℕ → List (Option NameRecord)
other_pins zero = []
other_pins (suc n) =
    other_pins n
    ++ pin_for (other_name n) (other_key (2 * n)) 1000 none ∷ pin_for (other_name n) (other_key (2 * n + 1)) 1000 none ∷ []

-- 'Room is counted .. per tack; no room is yes if either lacks it': of 64 key slots none is free; the first tack's key has a
-- record, and A has none
abbrev pub room_for_one : RowTwo
room_for_one =
    row_two (others 32) (two_tacks 1000 (other_tack 0) tack_a both) (judgement true 0 true)
    (table_two 1000 (other_keys 32) (other_pins 32 ++ pin_with (other_key 0) 1000 none ∷ []))

-- 'Room is counted then', after the removals: `aa` with A and B, which take the slots of its inactive records and of their keys
abbrev pub room_after_removal : RowTwo
room_after_removal =
    row_two (others 32) (two_tacks_for (other_name 0) 1600 tack_a tack_b both) (in_edition_two 0)
    (table_two 1600 (key_with key_a 3 ∷ key_with key_b 3 ∷ drop 2 (other_keys 32))
    (pin_for (other_name 0) key_a 1600 none ∷ pin_for (other_name 0) key_b 1600 none ∷ drop 2 (other_pins 32)))

-- instead after `a.b` took a record on the first of these keys: only the other key goes, A takes its slot, and B lacks one
abbrev pub room_for_first : RowTwo
room_for_first =
    row_two (after_two room_for_one) (two_tacks_for (other_name 0) 1600 tack_a tack_b both) (judgement true 0 true)
    (table_two 1600 (key_with (other_key 0) 3 ∷ key_with key_a 3 ∷ drop 2 (other_keys 32))
    (pin_for (other_name 0) key_a 1600 none ∷ none ∷ drop 2 (other_pins 32) ++ pin_with (other_key 0) 1000 none ∷ []))

abbrev pub rooms : List RowTwo
rooms = room_for_one ∷ room_after_removal ∷ room_for_first ∷ []

abbrev pub moves : List RowTwo
moves =
    move_made ∷ move_pinned ∷ move_both ∷ move_both_pinned ∷ move_alone_a ∷ move_alone_b ∷ move_enabled_b ∷ move_too_early ∷ move_done
    ∷ move_back ∷ move_back_later ∷ move_next ∷ []

abbrev pub verdicts : List RowTwo
verdicts =
    contradicted_raises ∷ contradicted_makes_none ∷ both_raise ∷ disabled_makes_none ∷ disabled_goes ∷ absent_goes ∷ disabled_matches
    ∷ disabled_at_end ∷ []

abbrev pub refusals : List RowTwo
refusals =
    bit_without_tack ∷ further_bit ∷ one_key ∷ one_key_first ∷ expired_at1000 ∷ expires_after999 ∷ expired_raises_none ∷ generation_first
    ∷ expired_first ∷ hash_first ∷ first_tack_first ∷ first_revoked ∷ second_revoked ∷ revoked_last ∷ []

abbrev pub editions : List RowTwo
editions = started_one ∷ started_two ∷ one_on_two ∷ one_on_two_first ∷ e4_on_one ∷ two_on_one ∷ []

abbrev pub managed : List RowTwo
managed = deletes_both ∷ inspects_first ∷ inspects_second ∷ inspects_younger ∷ inspects_older ∷ inspects_missing ∷ []

-- all of them under one statement
pub record ExamplesTwo : Type 0 where
  pub moving : Every RightTwo moves
  pub move_bytes : area_of true (after_two move_both_pinned) ≡ move_both_pinned_area
  pub judging : Every RightTwo verdicts
  pub refusing : Every RightTwo refusals
  pub other_edition : Every RightTwo editions
  pub managing : Every RightTwo managed
  pub counting : Every RightTwo rooms
