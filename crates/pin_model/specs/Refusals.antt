-- The refusals: named lists of tests, each test with its number, in the order in which they are made. Document 01, 'What each number
-- says', and document 02, Q-3.
use Rattle.std.specs.Prelude.{Bool, true, false, cond, not, ◌&&◌, List, [], ◌∷◌, ◌++◌, ℕ, ◌/◌, ◌%◌, eqb, leb, ltb, length}
use Rattle.std.proofs.Math.Option.{Option, none, some}
use Rattle.octets.specs.Octets.{same, any}
use Rattle.host_name.specs.Name.{well_formed}
use Rattle.tack_extension.specs.Tack.{public_key, min_generation, generation, expiration, target_hash}
use Rattle.tack_extension_two.specs.ExtensionTwo.{parts_or_none}
use Rattle.pin_model.specs.Slots.{used, apart}
use Rattle.pin_model.specs.Table.{clock_limit, Table, key_is}
use Rattle.pin_model.specs.Layout.{area_length}
use Rattle.pin_model.specs.Sound.{sound}
use Rattle.pin_model.specs.Connection.{Connection, parts_of, tack_shown, breaks_shown, ConnectionTwo, parts_two_of, Shown, tacks_shown}
use Rattle.pin_model.specs.declared.Checks.{Checks}
use Rattle.pin_model.specs.declared.ChecksTwo.{ChecksTwo}

-- 'The lowest number that applies is given': the tests stand in that order, but 27 next to 11; those of edition two in the order of
-- document 02, Q-3
abbrev pub first : List (Bool × ℕ) → Option ℕ
first [] = none
first (test ∷ tests) = cond test.0 (some test.1) (first tests)

abbrev pub length_test : List ℕ → List (Bool × ℕ)
length_test b = (not (eqb (length b) area_length), 10) ∷ []

abbrev pub area_tests : List ℕ → List (Bool × ℕ)
area_tests b = length_test b ++ ((not (sound b), 11) ∷ [])

-- 'Judging for the other edition is 27, after 11' (document 02, Q-3): `two` is the yes for judging in edition two
abbrev pub edition_test : Bool → Table → List (Bool × ℕ)
edition_test false t = (t.two, 27) ∷ []
edition_test true t = (not t.two, 27) ∷ []

abbrev pub name_test : List ℕ → List (Bool × ℕ)
name_test name = (not (well_formed name), 12) ∷ []

abbrev pub limit_test : ℕ → List (Bool × ℕ)
limit_test clock = (ltb clock_limit clock, 13) ∷ []

abbrev pub handshake_tests : ℕ → Bool → Table → List (Bool × ℕ)
handshake_tests clock finished t = (ltb clock t.latest, 14) ∷ (not finished, 15) ∷ []

-- whether nothing was read
abbrev pub is_none : {A : Type 0} → Option A → Bool
is_none none = true
is_none (some a) = false

abbrev pub form_test : {A : Type 0} → Option A → List (Bool × ℕ)
form_test read = (is_none read, 16) ∷ []

-- 'an 8-bit number whose bit i (lowest is 0) says that break signature i is correct'; further bits are ignored
abbrev pub all_correct : List (List ℕ) → ℕ → Bool
all_correct [] bits = true
all_correct (s ∷ ss) bits = eqb (bits % 2) 1 && all_correct ss (bits / 2)

abbrev pub breaks_test : List (List ℕ) → ℕ → List (Bool × ℕ)
breaks_test breaks bits = (not (all_correct breaks bits), 17) ∷ []

-- 'generation below the stored floor'
abbrev pub revoked : Table → List ℕ → Bool
revoked t tack = any (λ k. key_is (public_key tack) k && ltb (generation tack) k.floor) (used t.keys)

-- '18 to 23 need a tack'. A hash that isn't 32 bytes long is unequal to every target hash, since that is.
abbrev pub tack_tests : ℕ → List ℕ → Checks → Table → Option (List ℕ) → List (Bool × ℕ)
tack_tests clock hash checks t none = []
tack_tests clock hash checks t (some tack) =
    (not checks.key_is_point, 18)
    ∷ (ltb (generation tack) (min_generation tack), 19)
    ∷ (not (same (target_hash tack) hash), 20)
    ∷ (not checks.signature_correct, 21)
    ∷ (revoked t tack, 22)
    ∷ (ltb (expiration tack) clock, 23)
    ∷ []

-- judging: the tests behind 27
abbrev pub connection_tests : Connection → Table → List (Bool × ℕ)
connection_tests c t =
    name_test c.name
    ++ (limit_test c.clock
    ++ (handshake_tests c.clock c.checks.handshake_finished t
    ++ (form_test (parts_of c)
    ++ (breaks_test (breaks_shown c) c.checks.breaks_correct
    ++ tack_tests c.clock c.hash c.checks t (tack_shown c)))))

-- 'two tacks with one key' (document 02, Q-3)
abbrev pub one_key_twice : List Shown → Bool
one_key_twice tacks = not (apart (λ s r. same (public_key r.tack) (public_key s.tack)) tacks)

-- 'for each tack .., each with its own answers from the caller, 18, 19, 23 (now given if expiration is at or below the clock), 20,
-- 21'; an absent tack has no tests
abbrev pub part_tests : ℕ → List ℕ → Bool → Bool → List ℕ → List (Bool × ℕ)
part_tests clock hash is_point is_correct [] = []
part_tests clock hash is_point is_correct (b ∷ bs) =
    let tack = b ∷ bs in
    (not is_point, 18)
    ∷ (ltb (generation tack) (min_generation tack), 19)
    ∷ (leb (expiration tack) clock, 23)
    ∷ (not (same (target_hash tack) hash), 20)
    ∷ (not is_correct, 21)
    ∷ []

-- 'for each tack in order'
abbrev pub parts_tests : ℕ → List ℕ → ChecksTwo → List ℕ → List ℕ → List (Bool × ℕ)
parts_tests clock hash checks first second =
    part_tests clock hash checks.first_is_point checks.first_correct first
    ++ part_tests clock hash checks.second_is_point checks.second_correct second

-- 'then 22 for either'
abbrev pub any_revoked : Table → List Shown → Bool
any_revoked t tacks = any (λ s. revoked t s.tack) tacks

-- 'Refusals run in this order: 10-16; then 24 ..; then for each tack ..; then 22 for either.' The tests from 24 on, of the parts that
-- came and of the tacks in them; and those behind 27. 17 is of edition one.
abbrev pub tacks_tests : ℕ → List ℕ → ChecksTwo → Table → List ℕ → List ℕ → List Shown → List (Bool × ℕ)
tacks_tests clock hash checks t first second tacks =
    (one_key_twice tacks, 24) ∷ (parts_tests clock hash checks first second ++ ((any_revoked t tacks, 22) ∷ []))

abbrev pub connection_two_tests : ConnectionTwo → Table → List (Bool × ℕ)
connection_two_tests c t =
    let p = parts_or_none (parts_two_of c) in
    name_test c.name
    ++ (limit_test c.clock
    ++ (handshake_tests c.clock c.checks.handshake_finished t
    ++ (form_test (parts_two_of c)
    ++ tacks_tests c.clock c.hash c.checks t p.first p.second (tacks_shown c))))
