-- Step 2 (ii): the journal wants a record, has room for it and writes it as the table does.
use mathlib.Core.Path.{◌≡◌, sym, ◌∙◌, ap, ap₂}
use mathlib.Core.Bool.{Bool, true, false, not, ◌&&◌, ◌||◌, or_comm}
use mathlib.Core.List.{List, ◌∷◌}
use Prim.Native.Nat.{ℕ}
use Rattle.tack_extension.specs.Tack.{public_key}
use Rattle.pin_model.specs.Slots.{has_free}
use Rattle.pin_model.specs.Table.{Table, name_is, pinned_to, active, name_recorded, without}
use Rattle.pin_model.specs.Judge.{wants_record, room_for, names_with, with_record}
use Rattle.pin_model.proofs.Lists.{any-ext}
use Rattle.pin_model.proofs.Slots.{has_free-freed}
use Rattle.pin_model.proofs.SoundFacts.{SoundFacts}
use Rattle.pin_model.proofs.SoundRemoval.{without-keeps}
use Rattle.pin_model.proofs.SoundCreation.{wanted-key, names-alike, name-room, key-room}
use Rattle.pin_journal.specs.Journal.{Row, row_of, row_key, live, wants_row, is_full, other_rows, new_row, stands}
use Rattle.pin_journal.proofs.RowRecord.{record_of, live-active}
use Rattle.pin_journal.proofs.Agreement.{Agrees, any-row, key-stands}
use Rattle.pin_journal.proofs.Steps.{without-agrees}
use Rattle.pin_journal.proofs.AddedRow.{new_floor, rows-room, added-agrees}

module _ (name : List ℕ) (clock : ℕ) (tack : List ℕ) {t : Table} {rows : List Row} {floor : List ℕ → ℕ}
    (agrees : Agrees t rows floor) (facts : SoundFacts t) where
  abbrev left : Table
  left = without name t

  abbrev others : List Row
  others = other_rows name rows

  left-agrees : Agrees left others floor
  left-agrees = without-agrees name agrees

  left_facts : SoundFacts left
  left_facts = without-keeps name facts

  -- 'if the name has no record, or an inactive one with another key'
  pub wants-same : (may : Bool) → wants_record may name clock tack t ≡ wants_row may name clock (public_key tack) rows
  wants-same may =
      ap (λ (blocked : Bool). may && not blocked)
      (any-row agrees (λ r. name_is name r && (pinned_to (public_key tack) r || active clock r))
      ∙ any-ext (λ r. row_of name r && (row_key (public_key tack) r || active clock (record_of r)))
      (λ r. row_of name r && (row_key (public_key tack) r || live clock r))
      (λ r. ap (λ (b : Bool). row_of name r && (row_key (public_key tack) r || b)) (sym (live-active clock r))) rows)

  module _ (may : Bool) (wants : wants_record may name clock tack t ≡ true) where
    -- the key stands on no row of this name
    pub key-elsewhere : stands (public_key tack) others ≡ stands (public_key tack) rows
    key-elsewhere =
        sym (key-stands left-agrees (public_key tack)) ∙ wanted-key name clock tack facts may wants ∙ key-stands agrees (public_key tack)

    -- '128 rows, or 64 different keys and none is the tack's', 'without the old row'
    pub room-same : room_for name tack t ≡ not (is_full (public_key tack) others)
    room-same =
        ap₂ (λ (a b : Bool). a && (b || has_free left.keys))
        (or_comm (name_recorded name t) (has_free t.names) ∙ sym (has_free-freed (name_is name) t.names))
        (sym (wanted-key name clock tack facts may wants))
        ∙ rows-room tack left-agrees left_facts

    -- 'the old row, if any, is struck and a new one written'
    pub create-agrees : t.two ≡ false → room_for name tack t ≡ true
        → Agrees (with_record name clock tack t) (new_row name clock (public_key tack) ∷ others) (new_floor tack others floor)
    create-agrees one room =
        added-agrees tack left-agrees left_facts (key-room name clock tack facts may wants room) name clock (names_with name clock tack t)
        (names-alike name clock tack facts one (name-room name clock tack facts room))
