-- Judging one connection of edition two, by document 02, Q-3: the steps. What they take over from edition one is cited from Judge.antt.
-- A step takes the name, the clock and the tacks of a call.
use Rattle.std.specs.Prelude.{Bool, true, false, cond, not, ◌&&◌, ◌||◌, List, [], ◌∷◌, ℕ, ltb}
use Rattle.octets.specs.Octets.{any}
use Rattle.tack_extension.specs.Tack.{public_key}
use Rattle.pin_model.specs.Slots.{count, used, has_free, placed}
use Rattle.pin_model.specs.Table.{NameRecord, Table, holding, settled_at, name_is, pin_is, active, key_recorded, records_of_a_name, without_all}
use Rattle.pin_model.specs.Connection.{ConnectionTwo, Shown, tacks_shown, key_shown, key_enabled}
use Rattle.pin_model.specs.Judge.{raise, extend, new_name, keyed_for, active_of}

-- 'After the floors are raised and latest set'
abbrev pub raise_each : List Shown → Table → Table
raise_each [] t = t
raise_each (s ∷ tacks) t = raise_each tacks (raise s.tack t)

abbrev pub raised_at : ℕ → List Shown → Table → Table
raised_at clock tacks t = settled_at clock (raise_each tacks t)

-- 'the verdict falls: contradicted if any active record has no matching tack, else confirmed if any is active, else unpinned'
abbrev pub contradicted : List ℕ → ℕ → List Shown → Table → Bool
contradicted name clock tacks t = any (λ r. active_of name clock r && not (key_shown tacks r.key)) (used t.names)

abbrev pub verdict_by_two : List ℕ → ℕ → List Shown → Table → ℕ
verdict_by_two name clock tacks t =
    cond (contradicted name clock tacks t) 2 (cond (any (active_of name clock) (used t.names)) 1 0)

-- 'inactive records of the name with no matching enabled tack go, as do keys left without names'
abbrev pub is_removed : List ℕ → ℕ → List Shown → NameRecord → Bool
is_removed name clock tacks r = name_is name r && (not (active clock r) && not (key_enabled tacks r.key))

-- the tack's own record
abbrev pub has_own : List ℕ → List ℕ → Table → Bool
has_own name tack t = any (pin_is name (public_key tack)) (used t.names)

-- 'or makes one if the name has fewer than two'; 'Room is counted then, per tack': a free name slot, and the key's record or a
-- free key slot. The lowest free slots are taken.
abbrev pub wants_own : List ℕ → List ℕ → Table → Bool
wants_own name tack t = not (has_own name tack t) && ltb (count (name_is name) (used t.names)) (records_of_a_name true)

abbrev pub key_room : List ℕ → Table → Bool
key_room tack t = key_recorded (public_key tack) t || has_free t.keys

abbrev pub room_of : List ℕ → Table → Bool
room_of tack t = has_free t.names && key_room tack t

abbrev pub make_own : List ℕ → ℕ → List ℕ → Table → Table
make_own name clock tack t =
    cond (wants_own name tack t && room_of tack t)
    (holding t (keyed_for tack t.keys) (placed (new_name name clock tack) t.names))
    t

-- 'each enabled tack in order extends its record by the same formula, or makes one'
abbrev pub learn_own : List ℕ → ℕ → Shown → Table → Table
learn_own name clock s t =
    cond s.enabled (cond (has_own name s.tack t) (extend true name clock s.tack t) (make_own name clock s.tack t)) t

abbrev pub learn_each : List ℕ → ℕ → List Shown → Table → Table
learn_each name clock [] t = t
learn_each name clock (s ∷ tacks) t = learn_each name clock tacks (learn_own name clock s t)

-- 'no room is yes if either lacks it'
abbrev pub no_room_own : List ℕ → Shown → Table → Bool
no_room_own name s t = s.enabled && (wants_own name s.tack t && not (room_of s.tack t))

abbrev pub no_room_each : List ℕ → ℕ → List Shown → Table → Bool
no_room_each name clock [] t = false
no_room_each name clock (s ∷ tacks) t = no_room_own name s t || no_room_each name clock tacks (learn_own name clock s t)

-- 'Unless contradicted'; t has its floors raised and latest set
abbrev pub learn_two : List ℕ → ℕ → List Shown → Table → Table
learn_two name clock tacks t =
    cond (contradicted name clock tacks t) t (learn_each name clock tacks (without_all (is_removed name clock tacks) t))

abbrev pub no_room_in_two : List ℕ → ℕ → List Shown → Table → Bool
no_room_in_two name clock tacks t =
    not (contradicted name clock tacks t) && no_room_each name clock tacks (without_all (is_removed name clock tacks) t)

-- the call: its verdict, the table that it leaves, and "no room"
abbrev pub raised_two : ConnectionTwo → Table → Table
raised_two c t = raised_at c.clock (tacks_shown c) t

unfoldable pub verdict_two : ConnectionTwo → Table → ℕ
verdict_two c t = verdict_by_two c.name c.clock (tacks_shown c) (raised_two c t)

unfoldable pub judged_two : ConnectionTwo → Table → Table
judged_two c t = learn_two c.name c.clock (tacks_shown c) (raised_two c t)

unfoldable pub no_room_two : ConnectionTwo → Table → Bool
no_room_two c t = no_room_in_two c.name c.clock (tacks_shown c) (raised_two c t)
