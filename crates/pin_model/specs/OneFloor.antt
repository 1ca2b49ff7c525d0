-- The floor of a tack's key as one byte of the area, and the area in which it is raised: document 02, Q-4, in bytes. Demand 1 cites it.
use Rattle.std.specs.Prelude.{Bool, cond, ◌&&◌, List, [], ◌∷◌, ℕ, ◌+◌, ◌*◌, max, eqb, set}
use Rattle.tack_extension.specs.Tack.{public_key, min_generation}
use Rattle.pin_model.specs.Slots.{used}
use Rattle.pin_model.specs.Table.{Table, key_recorded}
use Rattle.pin_model.specs.Layout.{place_of, decode}
use Rattle.pin_model.specs.Calls.{floor_of}

-- 'the stored floor' of a tack's key, 0 where the key has no record
abbrev pub floor_for : Table → List ℕ → ℕ
floor_for t tack = floor_of (public_key tack) (used t.keys)

-- where it lies, if the key has a record: byte 1 of the key's slot; and whether a byte of the area is this one
abbrev pub floor_place : Table → List ℕ → ℕ
floor_place t tack = 8 + 72 * place_of (public_key tack) t.keys + 1

abbrev pub is_floor_of : Table → ℕ → List ℕ → Bool
is_floor_of t i tack = key_recorded (public_key tack) t && eqb i (floor_place t tack)

-- 'a higher min_generation must raise the floor of a standing key record': that byte is set
abbrev pub floor_raised : List ℕ → List ℕ → List ℕ
floor_raised tack b =
    let t = decode b in
    cond (key_recorded (public_key tack) t) (set b (floor_place t tack) (max (floor_for t tack) (min_generation tack))) b

-- by the tacks that a call shows, of which edition one has at most one
abbrev pub floors_raised : List (List ℕ) → List ℕ → List ℕ
floors_raised [] b = b
floors_raised (tack ∷ tacks) b = floors_raised tacks (floor_raised tack b)
