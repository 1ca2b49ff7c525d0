-- A mark, a number below 8,192, for a key and for a name, by which doubles are sought.
-- Only private functions cite it: a reader of the open contracts can skip it.
use Rattle.std.specs.Prelude.{ℕ, zero, suc, ◌+◌, ◌*◌, ◌-◌, ◌/◌, ◌%◌, ◌^◌, Bool, cond, List, ◌++◌, length, replicate}
use Rattle.std.specs.Int.{w64, rotate_left}
use Rattle.std.specs.Int.Bits.{bit_xor}
use Rattle.octets.specs.Octets.{part}
use Rattle.octets.specs.Words.{word}
use Rattle.pin_model.specs.Layout.{key_number, name_in}

-- a hash with one word more: rotated by 13 places first
unfoldable pub with_word : ℕ → ℕ → ℕ
with_word h w = bit_xor (rotate_left w64 h 13) w

-- 13 bits that all 64 of a hash go into
abbrev pub mixed : ℕ → ℕ
mixed h = bit_xor (h % 2 ^ 32 * 2654435761) (h / 2 ^ 32 * 3266489917)

unfoldable pub mark_of : ℕ → ℕ
mark_of h = bit_xor (mixed h) (mixed h / 2 ^ 32) % 2 ^ 32 * 2654435761 / 2 ^ 22 % 2 ^ 13

-- a key's mark, by its first and its last word
unfoldable pub key_mark : List ℕ → ℕ
key_mark key = mark_of (with_word (word (part key 0 8)) (word (part key 56 8)))

-- the hash of the first n words
unfoldable pub words_hash : List ℕ → ℕ → ℕ
words_hash s zero = 0
words_hash s (suc n) = with_word (words_hash s n) (word (part s (8 * n) 8))

-- a name and the zeros behind it
abbrev pub padded : List ℕ → List ℕ
padded name = name ++ replicate (256 - length name) 0

-- a name's mark, by the words that it stands in
unfoldable pub name_mark : List ℕ → ℕ
name_mark name = mark_of (words_hash (padded name) (length name / 8 + 1))

-- a name slot's mark: by its name, and in edition two by the number of its key too
unfoldable pub pin_mark : Bool → List ℕ → ℕ
pin_mark two s = cond two ((name_mark (name_in s) + 127 * key_number s) % 2 ^ 13) (name_mark (name_in s))
