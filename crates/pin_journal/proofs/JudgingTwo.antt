-- A judgement of edition two keeps the agreement, and raises floors as the journal counts them.
use mathlib.Core.Path.{◌≡◌, refl, sym, ◌∙◌, ap, subst, fun_ext}
use mathlib.Core.Bool.{Bool, true, false, cond, not, ◌&&◌, ◌||◌, true≢false, false≢true, and_comm, and-false, or-true}
use mathlib.Core.List.{List, [], ◌∷◌, map}
use Prim.Native.Nat.{ℕ, ◌+◌, ◌≤◌, max}
use native.Mathlib.Omega.{arith}
use lib.Dec.{eqb, ltb}
use borrow.Author.Tests.{not-true}
use Rattle.octets.specs.Octets.{same, any}
use Rattle.octets.proofs.Tests.{by_test, is_false, and_left, and_right}
use Rattle.octets.proofs.Equal.{same_true, same_refl}
use Rattle.host_name.specs.Name.{well_formed}
use Rattle.tack_extension.specs.Tack.{public_key, min_generation}
use Rattle.pin_model.specs.Slots.{count, used, has_free, placed, apart, struck}
use Rattle.pin_model.specs.Table.{clock_limit, NameRecord, Table, holding, name_is, pin_is, active, key_recorded, without_all}
use Rattle.pin_model.specs.Connection.{ConnectionTwo, Shown, tacks_shown, key_shown, key_enabled}
use Rattle.pin_model.specs.Judge.{raise, extend, new_name, keyed_for, active_of}
use Rattle.pin_model.specs.JudgeTwo.{raise_each, raised_at, raised_two, contradicted, is_removed, has_own, room_of, make_own, learn_own, learn_each, learn_two, judged_two}
use Rattle.pin_model.proofs.Lists.{bit, any-ext, any-struck}
use Rattle.pin_model.proofs.Slots.{alike-placed}
use Rattle.pin_model.proofs.SoundFacts.{SoundFacts}
use Rattle.pin_model.proofs.TwoFacts.{ConnectionTwoFacts}
use Rattle.pin_model.proofs.SoundTwo.{Stage, own-stage, removed-stage, raised-stage}
use Rattle.pin_journal.specs.Journal.{Row, row_of, row_key, live, own_row, seen_rows, is_full, new_row, row_removed, write_own, entered_own, entered_each, entered_two, stands, shown_under}
use Rattle.pin_journal.specs.Demand3.{contradicts_two}
use Rattle.pin_journal.proofs.RowRecord.{record_of, live-active}
use Rattle.pin_journal.proofs.Agreement.{Agrees, any-row, settled, refloored}
use Rattle.pin_journal.proofs.Steps.{raise-agrees, seen-stands, extend-agrees, removed-agrees}
use Rattle.pin_journal.proofs.AddedRow.{new_floor, rows-room, added-agrees}
use Rattle.pin_journal.proofs.Judging.{Learned}

abbrev tacks_of : List Shown → List (List ℕ)
tacks_of tacks = map (λ s. s.tack) tacks

-- the floor that a key has after the call if it stands: what is shown under it and, if it stood before, its old floor
abbrev floor_afterwards : List (List ℕ) → List Row → (List ℕ → ℕ) → List ℕ → ℕ
floor_afterwards shown rows floor k = max (shown_under k shown) (cond (stands k rows) (floor k) 0)

-- floors are raised for each tack whose key has a record
raised-agrees : (tacks : List Shown) {t : Table} {rows : List Row} {floor : List ℕ → ℕ} → Agrees t rows floor
    → Agrees (raise_each tacks t) rows (λ k. max (shown_under k (tacks_of tacks)) (floor k))
raised-agrees [] {t} {rows} {floor} agrees = refloored agrees (λ k. max 0 (floor k)) (λ k e. omega arith)
raised-agrees (s ∷ tacks) {t} {rows} {floor} agrees =
    refloored (raised-agrees tacks {t = raise s.tack t} (raise-agrees s.tack agrees)) (λ k. max (shown_under k (tacks_of (s ∷ tacks))) (floor k))
    (λ k e. go k (same (public_key s.tack) k))
  where
    go : (k : List ℕ) (b : Bool)
        → max (shown_under k (tacks_of tacks)) (cond b (max (floor k) (min_generation s.tack)) (floor k))
        ≡ max (max (cond b (min_generation s.tack) 0) (shown_under k (tacks_of tacks))) (floor k)
    go k true = omega arith
    go k false = omega arith

-- one enabled tack: with whatever floors, if a key record that is made gets the tack's
module _ (name : List ℕ) (clock : ℕ) (s : Shown) {t : Table} {rows : List Row} {floor : List ℕ → ℕ} (agrees : Agrees t rows floor) (facts : SoundFacts t) where
  abbrev key : List ℕ
  key = public_key s.tack

  -- how many records the name has, and how many rows
  as-many-rows : count (name_is name) (used t.names) ≡ count (row_of name) rows
  as-many-rows = agrees.same_names (name_is name) ∙ go rows
    where
      go : (l : List Row) → count (name_is name) (map record_of l) ≡ count (row_of name) l
      go [] = refl
      go (r ∷ rs) = ap (λ (n : ℕ). bit (row_of name r) + n) (go rs)

  own-rows : has_own name s.tack t ≡ any (own_row name key) rows
  own-rows = any-row agrees (pin_is name key)

  made-agrees : has_own name s.tack t ≡ false → (stands key rows ≡ false → floor key ≡ min_generation s.tack)
      → Agrees (make_own name clock s.tack t) (write_own name clock key rows) floor
  made-agrees none new =
      go (ltb (count (name_is name) (used t.names)) 2) (ltb (count (row_of name) rows) 2) (ap (λ (n : ℕ). ltb n 2) as-many-rows)
      (room_of s.tack t) refl (is_full key rows) (rows-room s.tack agrees facts) (has_own name s.tack t) none
    where
      same-floor : (k : List ℕ) → stands k (new_row name clock key ∷ rows) ≡ true → new_floor s.tack rows floor k ≡ floor k
      same-floor k e = by_test (stands key rows) (λ d. rw d) (λ d. rw d (at d (same key k) refl))
        where
          at : stands key rows ≡ false → (b : Bool) → same key k ≡ b → cond b (min_generation s.tack) (floor k) ≡ floor k
          at d true f = sym (new d) ∙ ap floor (same_true key k f)
          at d false f = refl

      added : room_of s.tack t ≡ true
          → Agrees (holding t (keyed_for s.tack t.keys) (placed (new_name name clock s.tack) t.names)) (new_row name clock key ∷ rows) floor
      added room =
          refloored
          (added-agrees s.tack agrees facts (and_right (has_free t.names) (key_recorded key t || has_free t.keys) room) name clock
          (placed (new_name name clock s.tack) t.names)
          (alike-placed (new_name name clock s.tack) t.names (and_left (has_free t.names) (key_recorded key t || has_free t.keys) room)))
          floor same-floor

      go : (few few_rows : Bool) → few ≡ few_rows → (room : Bool) → room_of s.tack t ≡ room → (full : Bool) → room ≡ not full
          → (own : Bool) → own ≡ false
          → Agrees (cond ((not own && few) && room) (holding t (keyed_for s.tack t.keys) (placed (new_name name clock s.tack) t.names)) t)
          (cond (few_rows && not full) (new_row name clock key ∷ rows) rows) floor
      go few few_rows e room r full f true o = absurd (true≢false o)
      go true true e true r false f false o = added r
      go true true e true r true f false o = absurd (true≢false f)
      go true true e false r false f false o = absurd (false≢true f)
      go true true e false r true f false o = agrees
      go true false e room r full f false o = absurd (true≢false e)
      go false true e room r full f false o = absurd (false≢true e)
      go false false e room r full f false o = agrees

  own-agrees : (s.enabled ≡ true → stands key rows ≡ false → floor key ≡ min_generation s.tack)
      → Agrees (learn_own name clock s t) (entered_own name clock s rows) floor
  own-agrees new = go s.enabled refl (has_own name s.tack t) refl (any (own_row name key) rows) own-rows
    where
      go : (enabled : Bool) → s.enabled ≡ enabled → (own : Bool) → has_own name s.tack t ≡ own → (own_rows : Bool) → own ≡ own_rows
          → Agrees (cond enabled (cond own (extend true name clock s.tack t) (make_own name clock s.tack t)) t)
          (cond enabled (cond own_rows (seen_rows true name clock key rows) (write_own name clock key rows)) rows) floor
      go false e own o own_rows p = agrees
      go true e true o true p = extend-agrees true name clock s.tack agrees
      go true e true o false p = absurd (true≢false p)
      go true e false o true p = absurd (false≢true p)
      go true e false o false p = made-agrees o (new e)

  -- no key goes
  own-stands : (k : List ℕ) → stands k rows ≡ true → stands k (entered_own name clock s rows) ≡ true
  own-stands k e = go s.enabled (any (own_row name key) rows) (ltb (count (row_of name) rows) 2 && not (is_full key rows))
    where
      go : (enabled own write : Bool)
          → stands k (cond enabled (cond own (seen_rows true name clock key rows) (cond write (new_row name clock key ∷ rows) rows)) rows) ≡ true
      go false own write = e
      go true true write = seen-stands true name clock s.tack k rows ∙ e
      go true false true = ap (λ (b : Bool). same key k || b) e ∙ or-true (same key k)
      go true false false = e

-- what the key record of each enabled tack gets, if it is made, is what `floor` says
abbrev Foretold : (List ℕ → ℕ) → List Row → List Shown → Type 0
Foretold floor rows [] = Unit {0}
Foretold floor rows (s ∷ tacks) =
    (s.enabled ≡ true → stands (public_key s.tack) rows ≡ false → floor (public_key s.tack) ≡ min_generation s.tack)
    × Foretold floor rows tacks

foretold-later : (floor : List ℕ → ℕ) (rows after : List Row) (tacks : List Shown) → ((k : List ℕ) → stands k rows ≡ true → stands k after ≡ true)
    → Foretold floor rows tacks → Foretold floor after tacks
foretold-later floor rows after [] h f = f
foretold-later floor rows after (s ∷ tacks) h f =
    (λ on e. f.0 on (is_false (stands (public_key s.tack) rows) (λ d. true≢false (sym (h (public_key s.tack) d) ∙ e))), foretold-later floor rows after tacks h f.1)

each-agrees : (name : List ℕ) (clock : ℕ) (formed : well_formed name ≡ true) (tacks : List Shown) {t : Table} {rows : List Row} {floor : List ℕ → ℕ}
    → Agrees t rows floor → Stage clock t → Foretold floor rows tacks
    → Agrees (learn_each name clock tacks t) (entered_each name clock tacks rows) floor
each-agrees name clock formed [] agrees stage foretold = agrees
each-agrees name clock formed (s ∷ tacks) {t} {rows} {floor} agrees stage foretold =
    each-agrees name clock formed tacks (own-agrees name clock s agrees stage.facts foretold.0) (own-stage name clock formed s stage)
    (foretold-later floor rows (entered_own name clock s rows) tacks (own-stands name clock s agrees stage.facts) foretold.1)

-- 'two tacks with one key' is refused: under each key its own tack alone shows something
shown-none : (k : List ℕ) (tacks : List Shown) → any (λ r. same (public_key r.tack) k) tacks ≡ false → shown_under k (tacks_of tacks) ≡ 0
shown-none k [] e = refl
shown-none k (s ∷ tacks) e = go (same (public_key s.tack) k) e (shown-none k tacks)
  where
    go : (b : Bool) → (b || any (λ r. same (public_key r.tack) k) tacks) ≡ false
        → (any (λ r. same (public_key r.tack) k) tacks ≡ false → shown_under k (tacks_of tacks) ≡ 0)
        → max (cond b (min_generation s.tack) 0) (shown_under k (tacks_of tacks)) ≡ 0
    go true d ih = absurd (true≢false d)
    go false d ih = omega (arith, ih d)

or_right : (a b : Bool) → b ≡ true → (a || b) ≡ true
or_right a b e = ap (λ (d : Bool). a || d) e ∙ or-true a

foretold-shown : (full tacks : List Shown) (old after : List Row) (floor : List ℕ → ℕ)
    → ((k : List ℕ) → key_shown tacks k ≡ true → shown_under k (tacks_of full) ≡ shown_under k (tacks_of tacks))
    → apart (λ s r. same (public_key r.tack) (public_key s.tack)) tacks ≡ true
    → ((k : List ℕ) → key_enabled tacks k ≡ true → stands k after ≡ false → stands k old ≡ false)
    → Foretold (floor_afterwards (tacks_of full) old floor) after tacks
foretold-shown full [] old after floor h distinct w = tt
foretold-shown full (s ∷ tacks) old after floor h distinct w = (
  (λ on e.
      let gone : stands key old ≡ false = w key (rw (on, same_refl key)) e in
      let top : shown_under key (tacks_of full) ≡ max (cond (same key key) (min_generation s.tack) 0) (shown_under key (tacks_of tacks)) =
      h key (ap (λ (b : Bool). b || key_shown tacks key) (same_refl key)) in
      rw (gone, top, shown-none key tacks alone, same_refl key) (omega arith)),
  foretold-shown full tacks old after floor
      (λ k e. h k (or_right (same key k) (key_shown tacks k) e) ∙ other k e (same key k) refl)
      (and_right (not (any (λ r. same (public_key r.tack) key) tacks)) (apart (λ s r. same (public_key r.tack) (public_key s.tack)) tacks) distinct)
      (λ k e. w k (or_right (s.enabled && same key k) (key_enabled tacks k) e)),
)
  where
    key : List ℕ
    key = public_key s.tack

    alone : any (λ r. same (public_key r.tack) key) tacks ≡ false
    alone =
        not-true (any (λ r. same (public_key r.tack) key) tacks)
        (and_left (not (any (λ r. same (public_key r.tack) key) tacks)) (apart (λ s r. same (public_key r.tack) (public_key s.tack)) tacks) distinct)

    other : (k : List ℕ) → key_shown tacks k ≡ true → (b : Bool) → same key k ≡ b
        → max (cond b (min_generation s.tack) 0) (shown_under k (tacks_of tacks)) ≡ shown_under k (tacks_of tacks)
    other k e true d =
        absurd (true≢false (sym e ∙ subst (λ (y : List ℕ). any (λ r. same (public_key r.tack) y) tacks ≡ false) (same_true key k d) alone))
    other k e false d = omega arith

-- the whole call
module _ (name : List ℕ) (clock : ℕ) (tacks : List Shown) (t : Table) (rows : List Row) (floor : List ℕ → ℕ) (agrees : Agrees t rows floor)
    (facts : SoundFacts t) (two : t.two ≡ true) (in_order : t.latest ≤ clock) (in_limit : clock ≤ clock_limit) (formed : well_formed name ≡ true)
    (distinct : apart (λ s r. same (public_key r.tack) (public_key s.tack)) tacks ≡ true) where
  abbrev raised : Table
  raised = raised_at clock tacks t

  abbrev floor_now : List ℕ → ℕ
  floor_now = floor_afterwards (tacks_of tacks) rows floor

  abbrev goes : NameRecord → Bool
  goes = is_removed name clock tacks

  abbrev goes_row : Row → Bool
  goes_row = row_removed name clock tacks

  raised-now : Agrees raised rows floor_now
  raised-now = refloored (settled (raised-agrees tacks agrees) clock) floor_now (λ k e. rw e)

  removed-same : (r : Row) → goes (record_of r) ≡ goes_row r
  removed-same r = ap (λ (b : Bool). row_of name r && (not b && not (key_enabled tacks r.key))) (sym (live-active clock r))

  removed : Agrees (without_all goes raised) (struck goes_row rows) floor_now
  removed =
      subst (λ (f : Row → Bool). Agrees (without_all goes raised) (struck f rows) floor_now) (fun_ext removed-same) (removed-agrees goes raised-now)

  -- a record with an enabled tack does not go
  kept-key : (k : List ℕ) → key_enabled tacks k ≡ true → stands k (struck goes_row rows) ≡ stands k rows
  kept-key k e =
      any-struck (row_key k) goes_row rows
      ∙ any-ext (λ r. not (goes_row r) && row_key k r) (row_key k) (λ r. go r (row_key k r) refl) rows
    where
      bits : (n x : Bool) → (not (n && (x && false)) && true) ≡ true
      bits true true = refl
      bits true false = refl
      bits false x = refl

      go : (r : Row) (b : Bool) → row_key k r ≡ b → (not (goes_row r) && b) ≡ b
      go r true d = rw (ap (key_enabled tacks) (same_true r.key k d) ∙ e) (bits (row_of name r) (not (live clock r)))
      go r false d = and-false (not (goes_row r))

  learned : Agrees (learn_each name clock tacks (without_all goes raised)) (entered_each name clock tacks (struck goes_row rows)) floor_now
  learned =
      each-agrees name clock formed tacks removed (removed-stage name clock formed goes (raised-stage name clock tacks facts two in_order in_limit))
      (foretold-shown tacks tacks rows (struck goes_row rows) floor (λ k e. refl) distinct (λ k e d. sym (kept-key k e) ∙ d))

  -- `is_contradicted` is what the call's number says
  learned-two : (is_contradicted : Bool) → contradicted name clock tacks raised ≡ is_contradicted
      → Learned (tacks_of tacks) rows floor (learn_two name clock tacks raised)
      (cond is_contradicted rows (entered_each name clock tacks (struck goes_row rows)))
  learned-two is_contradicted e =
      record { floor_after = floor_now; agrees = go (contradicted name clock tacks raised) is_contradicted e; highest = λ k d. refl }
    where
      go : (b d : Bool) → b ≡ d
          → Agrees (cond b raised (learn_each name clock tacks (without_all goes raised)))
          (cond d rows (entered_each name clock tacks (struck goes_row rows))) floor_now
      go true true p = raised-now
      go true false p = absurd (true≢false p)
      go false true p = absurd (false≢true p)
      go false false p = learned

-- `n` is the call's number
pub judged-two-learned : (c : ConnectionTwo) (t : Table) (rows : List Row) (floor : List ℕ → ℕ) → Agrees t rows floor → SoundFacts t
    → ConnectionTwoFacts c t → (n : ℕ) → contradicted c.name c.clock (tacks_shown c) (raised_two c t) ≡ eqb n 2
    → Learned (tacks_of (tacks_shown c)) rows floor (judged_two c t) (entered_two c.name c.clock (tacks_shown c) n rows)
unfolding judged_two
judged-two-learned c t rows floor agrees facts passed n e =
    learned-two c.name c.clock (tacks_shown c) t rows floor agrees facts passed.of_edition_two passed.clock_in_order passed.clock_in_limit
    passed.name_formed passed.keys_apart (eqb n 2) e

-- (b), 'before these removals': by the rows before the call
pub contradicted-two-rows : (c : ConnectionTwo) (t : Table) (rows : List Row) (floor : List ℕ → ℕ) → Agrees t rows floor
    → contradicted c.name c.clock (tacks_shown c) (raised_two c t) ≡ any (contradicts_two c) rows
contradicted-two-rows c t rows floor agrees =
    any-row (raised-agrees (tacks_shown c) agrees) (λ r. active_of c.name c.clock r && not (key_shown (tacks_shown c) r.key))
    ∙ any-ext (λ r. (row_of c.name r && active c.clock (record_of r)) && not (key_shown (tacks_shown c) r.key)) (contradicts_two c)
    (λ r. ap (λ (b : Bool). (row_of c.name r && b) && not (key_shown (tacks_shown c) r.key)) (sym (live-active c.clock r))
    ∙ turn (row_of c.name r) (live c.clock r) (not (key_shown (tacks_shown c) r.key))) rows
  where
    turn : (x y z : Bool) → ((x && y) && z) ≡ (x && (z && y))
    turn true y z = and_comm y z
    turn false y z = refl
