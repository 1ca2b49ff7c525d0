-- One recorded call in front of a night's bytes, read and written, by document 02, Q-1 and Q-7.
use Rattle.std.specs.Prelude.{ℕ, ◌+◌, ◌/◌, ◌%◌, Bool, true, false, cond, not, ◌&&◌, ◌||◌, List, [], ◌∷◌, ◌++◌, length, get_or, take, drop, leb, ltb, eqb}
use Rattle.std.proofs.Math.Option.{Option, none, some}
use Rattle.octets.specs.Octets.{big_endian, number}
use Rattle.pin_model.specs.declared.Checks.{Checks}
use Rattle.pin_model.specs.Connection.{Connection, connection, checks_by}

-- what stands in front of some bytes: a thing, with the bytes behind it; one that is cut off; or a bad one
pub data Front (A : Type 0) : Type 0 where
  taken : A → List ℕ → Front A
  cut_off : Front A
  bad : Front A

-- what comes next, in front of the bytes behind
abbrev pub and_then : {A B : Type 0} → Front A → (A → List ℕ → Front B) → Front B
and_then (taken a rest) next = next a rest
and_then cut_off next = cut_off
and_then bad next = bad

-- 'Fields are a one-byte tag and a two-byte big-endian length': the field of this tag, of least to most bytes
unfoldable pub field : ℕ → ℕ → ℕ → List ℕ → Front (List ℕ)
field tag least most [] = cut_off
field tag least most (t ∷ []) = cut_off
field tag least most (t ∷ h ∷ []) = cut_off
field tag least most (t ∷ h ∷ l ∷ s) =
    let n = number (h ∷ l ∷ []) in
    cond (eqb t tag && (leb least n && leb n most)) (cond (leb n (length s)) (taken (take n s) (drop n s)) cut_off) bad

-- '03 answers (2: bits 0-2 for handshake, point, tack signature, other bits zero; then the break bits)'
abbrev pub answers_field : List ℕ → Front (List ℕ)
answers_field s = and_then (field 3 2 2 s) (λ answers rest. cond (ltb (get_or answers 0 0) 8) (taken answers rest) bad)

-- 'optionally 05 extension (at most 4,096)'
abbrev pub tagged : ℕ → List ℕ → Bool
tagged tag [] = false
tagged tag (t ∷ s) = eqb t tag

abbrev pub extension_field : List ℕ → Front (Option (List ℕ))
extension_field s =
    cond (tagged 5 s) (and_then (field 5 0 4096 s) (λ extension rest. taken (some extension) rest)) (taken none s)

-- the connection of these fields; a bit that is set in the answers' first byte is a yes: the powers 1, 2, 4 are the bits 0, 1, 2.
-- A replay asks 'for the old way by an explicit yes in each call' (Q-7), which is recorded nowhere.
abbrev pub yes : ℕ → List ℕ → Bool
yes power answers = eqb (get_or answers 0 0 / power % 2) 1

abbrev pub checks_of : List ℕ → Checks
checks_of answers = checks_by (yes 1 answers) (yes 2 answers) (yes 4 answers) (get_or answers 1 0) true

abbrev pub called : List ℕ → List ℕ → List ℕ → List ℕ → Option (List ℕ) → Connection
called clock name answers hash none = connection (number clock) name false [] hash (checks_of answers)
called clock name answers hash (some extension) = connection (number clock) name true extension hash (checks_of answers)

-- 'A call is, in this order: 01 clock (4), 02 name (at most 300), 03 answers, 04 hash (32), optionally 05 extension, 06 end (0).'
unfoldable pub recorded : List ℕ → Front Connection
recorded s =
    and_then (field 1 4 4 s) (λ clock s.
    and_then (field 2 0 300 s) (λ name s.
    and_then (answers_field s) (λ answers s.
    and_then (field 4 32 32 s) (λ hash s.
    and_then (extension_field s) (λ extension s.
    and_then (field 6 0 0 s) (λ end s.
    taken (called clock name answers hash extension) s))))))

-- the same written: a field, and the answers' first byte
abbrev pub field_bytes : ℕ → List ℕ → List ℕ
field_bytes tag value = (tag ∷ []) ++ (big_endian 2 (length value) ++ value)

abbrev pub answer_byte : Checks → ℕ
answer_byte checks =
    cond checks.handshake_finished 1 0 + (cond checks.key_is_point 2 0 + cond checks.signature_correct 4 0)

-- 'If no extension came, its bytes are ignored' (document 01)
abbrev pub extension_bytes : Bool → List ℕ → List ℕ
extension_bytes came extension = cond came (field_bytes 5 extension) []

-- 'A call is, in this order'
unfoldable pub call_bytes : Connection → List ℕ
call_bytes c =
    field_bytes 1 (big_endian 4 c.clock)
    ++ (field_bytes 2 c.name
    ++ (field_bytes 3 (answer_byte c.checks ∷ c.checks.breaks_correct ∷ [])
    ++ (field_bytes 4 c.hash
    ++ (extension_bytes c.extension_came c.extension
    ++ field_bytes 6 []))))

-- what can be recorded: a clock of four bytes, and parts of the lengths above
abbrev pub good_sizes : ℕ → ℕ → Bool → ℕ → ℕ → Bool
good_sizes clock name came extension hash =
    leb clock 4294967295 && (leb name 300 && (eqb hash 32 && (not came || leb extension 4096)))

unfoldable pub recordable : Connection → Bool
recordable c = good_sizes c.clock (length c.name) c.extension_came (length c.extension) (length c.hash)
