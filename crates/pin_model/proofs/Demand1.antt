-- Demand 1, for every call on every area.
use mathlib.Core.Path.{◌≡◌, refl, sym, ◌∙◌, ap, ap₂}
use mathlib.Core.Bool.{Bool, true, false, cond, not, ◌&&◌, ◌||◌, true≢false, false≢true, or-true, or-false}
use mathlib.Core.List.{List, [], ◌∷◌, map}
use mathlib.Core.Option.{Option, none, some}
use Prim.Native.Nat.{ℕ, ◌+◌, ◌≤◌}
use native.Mathlib.Omega.{arith}
use lib.Dec.{eqb, ltb}
use lib.ListN.{length, get_or, drop}
use borrow.Author.Tests.{eqb-true, eq-eqb, le-ltb}
use Rattle.octets.specs.Octets.{Bytes, all, any}
use Rattle.octets.proofs.Tests.{is_false, and_left, and_right}
use Rattle.tack_extension.specs.Tack.{public_key, generation}
use Rattle.pin_model.specs.Slots.{bit, count, used}
use Rattle.pin_model.specs.Table.{KeyRecord, Table, key_is}
use Rattle.pin_model.specs.Layout.{area_length, decode}
use Rattle.pin_model.specs.Sound.{sound}
use Rattle.pin_model.specs.Connection.{Connection, tack_shown, parts_of, ConnectionTwo, tacks_shown, parts_two_of}
use Rattle.pin_model.specs.Refusals.{first, revoked, tack_tests, any_revoked}
use Rattle.pin_model.specs.Calls.{Call, in_two, judge, judge_two, delete, inspect, start, folded, if_any, tacks_of_call, is_verdict, area_tests_of, table_tests_of, refusal, floor_of, unrefused, answer_by, answer, area_after, answered, area_left}
use Rattle.pin_model.specs.OneFloor.{floor_for, is_floor_of, floors_raised}
use Rattle.pin_model.specs.Demand1.{results_of, refusals_of, numbers_of, is_one_of, is_refusal, expired_in_one, AskedAlike, Demand1}
use Rattle.pin_model.proofs.Lists.{any-map, any_append, count-some, none-implied}
use Rattle.pin_model.proofs.First.{first-later}
use Rattle.pin_model.proofs.Rules.{rules-of}
use Rattle.pin_model.proofs.SoundFacts.{SoundFacts, sound-facts}
use Rattle.pin_model.proofs.SoundArea.{table-sound}
use Rattle.pin_model.proofs.AreaKept.{refused-after}
use Rattle.pin_model.proofs.Unchanged.{refused-by, one_byte_lem}
use Rattle.pin_model.proofs.Numbers.{one_of, refusal-listed, result-listed, result_low, result-room}

-- the parts, of a call whose name is read as it stands
module _ (call : Call) (b : List ℕ) where
  numbered-by : (o : Option ℕ) → refusal call b ≡ o
      → is_one_of (numbers_of call) (answer_by (in_two call) o (unrefused call (decode b))).number ≡ true
  numbered-by none e =
      any_append (λ m. eqb m (unrefused call (decode b)).number) (results_of call) (refusals_of call)
      ∙ ap (λ (d : Bool). d || is_one_of (refusals_of call) (unrefused call (decode b)).number) (result-listed call (decode b))
  numbered-by (some n) e =
      any_append (λ m. eqb m n) (results_of call) (refusals_of call)
      ∙ ap (λ (d : Bool). is_one_of (results_of call) n || d) (refusal-listed call b n e) ∙ or-true (is_one_of (results_of call) n)

  answer-numbered : is_one_of (numbers_of call) (answer call b).number ≡ true
  unfolding answer
  answer-numbered = numbered-by (refusal call b) refl

  -- a number from 10 on is a refusal's
  pub was-refused : is_refusal (answer call b).number ≡ true → refusal call b ≡ some (answer call b).number
  unfolding answer
  was-refused h = go (refusal call b) h
    where
      go : (o : Option ℕ) → is_refusal (answer_by (in_two call) o (unrefused call (decode b))).number ≡ true
          → o ≡ some (answer_by (in_two call) o (unrefused call (decode b))).number
      go none d = absurd (true≢false (sym d ∙ result_low call (decode b)))
      go (some n) d = refl

  area-refused : is_refusal (answer call b).number ≡ true → (expired_in_one call (answer call b).number ≡ true → Bytes b)
      → area_after call b ≡ cond (expired_in_one call (answer call b).number) (floors_raised (tacks_of_call call) b) b
  area-refused h bytes =
      let e = was-refused h in
      refused-after call b (answer call b).number e ∙ refused-by call b (answer call b).number e bytes

  area-expired : expired_in_one call (answer call b).number ≡ true → Bytes b → area_after call b ≡ floors_raised (tacks_of_call call) b
  area-expired e bytes =
      let its : (answer call b).number ≡ 23 = eqb-true (answer call b).number 23 (and_right (not (in_two call)) (eqb (answer call b).number 23) e) in
      area-refused (ap is_refusal its) (λ d. bytes) ∙ rw e

  answer-room : (answer call b).no_room ≡ true → is_verdict (answer call b).number ≡ true
  unfolding answer
  answer-room = go (refusal call b)
    where
      go : (o : Option ℕ) → (answer_by (in_two call) o (unrefused call (decode b))).no_room ≡ true
          → is_verdict (answer_by (in_two call) o (unrefused call (decode b))).number ≡ true
      go none e = result-room call (decode b) e
      go (some n) e = absurd (false≢true e)

-- 'generation below the stored floor': a key of a sound table has one record
below_floor : (k : List ℕ) (g : ℕ) (records : List KeyRecord) → count (key_is k) records ≤ 1
    → any (λ r. key_is k r && ltb g r.floor) records ≡ ltb g (floor_of k records)
below_floor k g [] once = sym (le-ltb g 0 (omega arith))
below_floor k g (r ∷ rs) once = go (key_is k r) once (below_floor k g rs)
  where
    none_left : count (key_is k) rs ≡ 0 → any (λ s. key_is k s && ltb g s.floor) rs ≡ false
    none_left e =
        none-implied (λ s. key_is k s && ltb g s.floor) (key_is k) (λ s. and_left (key_is k s) (ltb g s.floor)) rs
        (is_false (any (key_is k) rs) (λ d. omega (arith, e, count-some (key_is k) rs d)))

    go : (b : Bool) → bit b + count (key_is k) rs ≤ 1
        → (count (key_is k) rs ≤ 1 → any (λ s. key_is k s && ltb g s.floor) rs ≡ ltb g (floor_of k rs))
        → ((b && ltb g r.floor) || any (λ s. key_is k s && ltb g s.floor) rs) ≡ ltb g (cond b r.floor (floor_of k rs))
    go true c ih = ap (λ (d : Bool). ltb g r.floor || d) (none_left (omega arith)) ∙ or-false (ltb g r.floor)
    go false c ih = ih (omega arith)

revoked-alike : (t u : Table) → SoundFacts t → SoundFacts u → (tacks : List (List ℕ))
    → map (floor_for t) tacks ≡ map (floor_for u) tacks
    → map (revoked t) tacks ≡ map (revoked u) tacks
revoked-alike t u facts others [] e = refl
revoked-alike t u facts others (tack ∷ tacks) e =
    let key = public_key tack in
    ap₂ ◌∷◌
    (below_floor key (generation tack) (used t.keys) (facts.key_once key)
    ∙ ap (λ (floors : List ℕ). ltb (generation tack) (get_or floors 0 0)) e
    ∙ sym (below_floor key (generation tack) (used u.keys) (others.key_once key)))
    (revoked-alike t u facts others tacks (ap (drop 1) e))

-- the tests of two tables that are asked alike
tack-alike : (c : Connection) (t u : Table) (o : Option (List ℕ)) → map (revoked t) (if_any o) ≡ map (revoked u) (if_any o)
    → tack_tests c.clock c.hash c.checks t o ≡ tack_tests c.clock c.hash c.checks u o
tack-alike c t u none e = refl
tack-alike c t u (some tack) e =
    let floor : revoked t tack ≡ revoked u tack = ap (λ (l : List Bool). get_or l 0 false) e in
    rw floor

any-revoked : (t : Table) (c : ConnectionTwo)
    → any_revoked t (tacks_shown c) ≡ any (λ b. b) (map (revoked t) (tacks_of_call (judge_two c)))
any-revoked t c =
    sym (any-map (λ s. s.tack) (revoked t) (tacks_shown c)) ∙ sym (any-map (revoked t) (λ b. b) (tacks_of_call (judge_two c)))

tests-alike : (call : Call) (t u : Table)
    → map (revoked t) (tacks_of_call call) ≡ map (revoked u) (tacks_of_call call) → AskedAlike call t u
    → table_tests_of call t ≡ table_tests_of call u
tests-alike (judge c) t u e a = rw (tack-alike c t u (tack_shown c) e, a.editions, a.latest)
tests-alike (judge_two c) t u e a =
    let either : any_revoked t (tacks_shown c) ≡ any_revoked u (tacks_shown c) =
    any-revoked t c ∙ ap (any (λ b. b)) e ∙ sym (any-revoked u c) in
    rw (a.editions, a.latest, either)
tests-alike (delete name) t u e a = refl
tests-alike (inspect second name clock) t u e a = refl
tests-alike (start two) t u e a = refl

-- a sound area passes the tests of the area
area-passed : (call : Call) (b : List ℕ) → sound b ≡ true → first (area_tests_of call b) ≡ none
area-passed call b h = go call (eq-eqb (length b) area_length (rules-of b h).whole)
  where
    go : (call : Call) → eqb (length b) area_length ≡ true → first (area_tests_of call b) ≡ none
    go (judge c) long = rw (long, h)
    go (judge_two c) long = rw (long, h)
    go (delete name) long = rw (long, h)
    go (inspect second name clock) long = rw (long, h)
    go (start two) long = rw long

area-sound : (b : List ℕ) → sound b ≡ true → SoundFacts (decode b)
area-sound b h = sound-facts (decode b) (table-sound b (rules-of b h))

refusal-alike : (call : Call) (b other : List ℕ) → sound b ≡ true → sound other ≡ true → AskedAlike call (decode b) (decode other)
    → refusal call other ≡ refusal call b
unfolding refusal
refusal-alike call b other h k a =
    let floors =
    revoked-alike (decode b) (decode other) (area-sound b h) (area-sound other k) (tacks_of_call call) a.floors in
    first-later (area_tests_of call other) (table_tests_of call (decode other)) (area-passed call other k)
    ∙ ap first (sym (tests-alike call (decode b) (decode other) floors a))
    ∙ sym (first-later (area_tests_of call b) (table_tests_of call (decode b)) (area-passed call b h))

answer-alike : (call : Call) (b other : List ℕ) → sound b ≡ true → sound other ≡ true → AskedAlike call (decode b) (decode other)
    → is_refusal (answer call b).number ≡ true → answer call other ≡ answer call b
unfolding answer
answer-alike call b other h k a refused =
    let e = was-refused call b refused in
    ap (λ (o : Option ℕ). answer_by (in_two call) o (unrefused call (decode other))) (refusal-alike call b other h k a ∙ e)
    ∙ sym (ap (λ (o : Option ℕ). answer_by (in_two call) o (unrefused call (decode b))) e)

-- a call's name, in whatever spelling, changes neither its list nor the tacks that it shows
pub tacks-folded : (call : Call) → tacks_of_call (folded call) ≡ tacks_of_call call
unfolding tack_shown parts_of tacks_shown parts_two_of
tacks-folded (judge c) = refl
tacks-folded (judge_two c) = refl
tacks-folded (delete name) = refl
tacks-folded (inspect second name clock) = refl
tacks-folded (start two) = refl

numbers-folded : (call : Call) → numbers_of (folded call) ≡ numbers_of call
numbers-folded (judge c) = refl
numbers-folded (judge_two c) = refl
numbers-folded (delete name) = refl
numbers-folded (inspect second name clock) = refl
numbers-folded (start two) = refl

asked-folded : (call : Call) (t u : Table) → AskedAlike call t u → AskedAlike (folded call) t u
asked-folded call t u a =
    record {
      editions = a.editions;
      latest = a.latest;
      floors = rw (tacks-folded call) a.floors;
    }

two-folded : (call : Call) → in_two (folded call) ≡ in_two call
two-folded (judge c) = refl
two-folded (judge_two c) = refl
two-folded (delete name) = refl
two-folded (inspect second name clock) = refl
two-folded (start two) = refl

-- what is said of a refusal, of the call as it came
module _ (call : Call) (b : List ℕ) where
  abbrev number : ℕ
  number = (answer (folded call) b).number

  expired-folded : expired_in_one (folded call) number ≡ expired_in_one call number
  expired-folded = ap (λ (two : Bool). not two && eqb number 23) (two-folded call)

  folded-unchanged : is_refusal number ≡ true → (expired_in_one call number ≡ true → Bytes b)
      → area_after (folded call) b ≡ cond (expired_in_one call number) (floors_raised (tacks_of_call call) b) b
  folded-unchanged refused bytes =
      area-refused (folded call) b refused (λ e. bytes (sym expired-folded ∙ e))
      ∙ ap₂ (λ (e : Bool) (tacks : List (List ℕ)). cond e (floors_raised tacks b) b) expired-folded (tacks-folded call)

  folded-byte : expired_in_one call number ≡ true → Bytes b → (i : ℕ) → any (is_floor_of (decode b) i) (tacks_of_call call) ≡ false
      → get_or (area_after (folded call) b) i 0 ≡ get_or b i 0
  folded-byte e bytes i d =
      ap (λ (a : List ℕ). get_or a i 0)
      (area-expired (folded call) b (expired-folded ∙ e) bytes ∙ ap (λ (tacks : List (List ℕ)). floors_raised tacks b) (tacks-folded call))
      ∙ one_byte_lem call number b i e d

pub demand1 : (call : Call) (b : List ℕ) → Demand1 call b
unfolding answered area_left
demand1 call b =
    record {
      numbered =
          ap (λ (numbers : List ℕ). is_one_of numbers (answer (folded call) b).number) (sym (numbers-folded call))
          ∙ answer-numbered (folded call) b;
      unchanged = folded-unchanged call b;
      one_byte = folded-byte call b;
      verdict_without_room = answer-room (folded call) b;
      same_refusals = λ other h k a. answer-alike (folded call) b other h k (asked-folded call (decode b) (decode other) a);
    }

-- what every number of a call's list passes, its answer's does
pub number-passes : (q : ℕ → Bool) (call : Call) (b : List ℕ) → all q (numbers_of call) ≡ true → q (answered call b).number ≡ true
number-passes q call b h = one_of q (numbers_of call) (answered call b).number h (demand1 call b).numbered
