-- Document 02, Q-7, as four laws of each call on each area. They use neither the steps nor `may_record`, so that a slip there contradicts
-- them.
use Rattle.std.specs.Prelude.{◌≡◌, Bool, true, false, not, ◌&&◌, ◌||◌, List, [], ℕ}
use Rattle.host_name.specs.Folding.{folded_name}
use Rattle.pin_model.specs.Slots.{freed}
use Rattle.pin_model.specs.Table.{name_recorded}
use Rattle.pin_model.specs.Layout.{decode}
use Rattle.pin_model.specs.declared.Checks.{Checks}
use Rattle.pin_model.specs.Connection.{Connection, connection, checks_by, tack_shown, enabled, broken_keys, listed}
use Rattle.pin_model.specs.Refusals.{is_none}
use Rattle.pin_model.specs.Calls.{judge, is_verdict, answered, area_left}
use Rattle.pin_model.specs.Demand1.{is_refusal}

-- activation isn't 1, and the call does not ask 'for the old way by an explicit yes'
abbrev pub may_not_record : Connection → Bool
may_not_record c = not (enabled c) && not c.checks.learn_disabled

-- 'makes a record only if activation is 1': with a verdict each name slot is as it was, but those of keys that a break signature names
-- are free. So no record is made, none is replaced, none extended; "no room" is never said.
pub record RecordsNothing (c : Connection) (b : List ℕ) : Type 0 where
  pub names : is_verdict (answered (judge c) b).number ≡ true
      → (decode (area_left (judge c) b)).names ≡ freed (λ r. listed (broken_keys c) r.key) (decode b).names
  pub room : (answered (judge c) b).no_room ≡ false

-- 'the old way': with a verdict, a tack and no break signature the name has a record afterwards, or "no room" is said
abbrev pub RecordedOrNoRoom : Connection → List ℕ → Type 0
RecordedOrNoRoom c b =
    is_verdict (answered (judge c) b).number ≡ true → is_none (tack_shown c) ≡ false → broken_keys c ≡ []
    → (name_recorded (folded_name c.name) (decode (area_left (judge c) b)) || (answered (judge c) b).no_room) ≡ true

-- the same answers of the caller, and the same call, with this choice
abbrev pub choosing : Bool → Checks → Checks
choosing learn_disabled checks =
    checks_by checks.handshake_finished checks.key_is_point checks.signature_correct checks.breaks_correct learn_disabled

abbrev pub with_choice : Bool → Connection → Connection
with_choice learn_disabled c =
    connection c.clock c.name c.extension_came c.extension c.hash (choosing learn_disabled c.checks)

-- by this choice the call is answered and leaves what it does by its own
pub record SameByChoice (c : Connection) (learn_disabled : Bool) (b : List ℕ) : Type 0 where
  pub answers : answered (judge (with_choice learn_disabled c)) b ≡ answered (judge c) b
  pub areas : area_left (judge (with_choice learn_disabled c)) b ≡ area_left (judge c) b

-- the default, the yes; and where the choice changes nothing: at activation 1, and where the call is refused
pub record DisabledServers (c : Connection) (b : List ℕ) : Type 0 where
  pub by_default : may_not_record c ≡ true → RecordsNothing c b
  pub with_yes : c.checks.learn_disabled ≡ true → RecordedOrNoRoom c b
  pub where_enabled : enabled c ≡ true → (learn_disabled : Bool) → SameByChoice c learn_disabled b
  pub where_refused : is_refusal (answered (judge c) b).number ≡ true → (learn_disabled : Bool) → SameByChoice c learn_disabled b
