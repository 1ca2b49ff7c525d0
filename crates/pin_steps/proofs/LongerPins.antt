-- Step 2(i) on an area: the pin of the name and the tack's key lasts longer, and no other.
use mathlib.Core.Path.{◌≡◌, sym, ◌∙◌, ap}
use mathlib.Core.Bool.{Bool, true, false, ◌&&◌}
use mathlib.Core.List.{List}
use mathlib.Core.Option.{Option, none}
use Prim.Native.Nat.{ℕ, ◌≤◌}
use native.Mathlib.Omega.{arith}
use lib.ListN.{get_or, set}
use Rattle.octets.specs.Octets.{any}
use Rattle.octets.proofs.Tests.{and_left, and_both}
use Rattle.octets.proofs.Equal.{same-eq}
use Rattle.tack_extension.specs.Tack.{public_key}
use Rattle.pin_model.specs.Slots.{used}
use Rattle.pin_model.specs.Table.{clock_limit, NameRecord, Table, settled_at, name_is, pinned_to}
use Rattle.pin_model.specs.SoundTable.{sound_table}
use Rattle.pin_model.specs.Judge.{extended_to, extend}
use Rattle.pin_model.proofs.Lists.{none-implied, count-implied}
use Rattle.pin_model.proofs.SoundFacts.{sound-facts}
use Rattle.pin_model.proofs.Initials.{record-initial}
use Rattle.pin_model.proofs.OneSlot.{changed-none, changed-set}
use Rattle.pin_records.specs.Holds.{Holds, with_name}
use Rattle.pin_records.specs.Find.{initial_at}
use Rattle.pin_records.proofs.DistinctNames.{one-record}
use Rattle.pin_records.proofs.Found.{FoundAt, found-any}
use Rattle.pin_steps.specs.Steps.{extended_at}
use Rattle.pin_steps.proofs.Tacks.{with-names}

module _ (name tack : List ℕ) (clock : ℕ) {b : List ℕ} {t : Table} (h : Holds b t) where
  -- the record has the name and the tack's key
  abbrev both : NameRecord → Bool
  both r = name_is name r && pinned_to (public_key tack) r

  named : (r : NameRecord) → both r ≡ true → name_is name r ≡ true
  named r = and_left (name_is name r) (pinned_to (public_key tack) r)

  extend-none : any both (used t.names) ≡ false → Holds b (extend true name clock tack t)
  extend-none e = with-names (sym (changed-none both (extended_to clock) t.names e)) h

  pub extend-absent : any (name_is name) (used t.names) ≡ false → Holds b (extend true name clock tack t)
  extend-absent e = extend-none (none-implied both (name_is name) named (used t.names) e)

  module _ (one : t.two ≡ false) {n : ℕ} (x : FoundAt (λ r. r.name) name t.names 128 n) where
    pub extend-other : pinned_to (public_key tack) x.what ≡ false → Holds b (extend true name clock tack t)
    extend-other e =
        extend-none (found-any x (one-record h.distinct one name) (pinned_to (public_key tack)) ∙ e)

    -- with the clock in latest's place a sound table has no later clock, and no later initial
    pub in-time : sound_table (settled_at clock t) ≡ true → (clock ≤ clock_limit) × (initial_at (get_or t.names n none) ≤ clock)
    in-time sound = (
      (sound-facts (settled_at clock t) sound).latest_in_limit,
      omega (arith, ap initial_at x.there, record-initial (settled_at clock t) clock sound (omega arith) n x.what x.there),
    )

    pub extend-stored : {d : List ℕ} → pinned_to (public_key tack) x.what ≡ true → Holds d (with_name t n (extended_at clock (get_or t.names n none)))
        → Holds d (extend true name clock tack t)
    extend-stored {d} e g =
        let r : NameRecord = x.what in
        with-names
        (ap (λ (o : Option NameRecord). set t.names n (extended_at clock o)) x.there
        ∙ sym (changed-set both (extended_to clock) t.names n r x.there
        (and_both (name_is name r) (pinned_to (public_key tack) r) (same-eq r.name name x.its) e)
        (omega (arith, one-record h.distinct one name, count-implied both (name_is name) named (used t.names))))) g
