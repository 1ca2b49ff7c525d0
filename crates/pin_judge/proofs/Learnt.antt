-- Steps 1 and 2(i) keep a table sound once latest is the clock, whatever the activation.
use mathlib.Core.Path.{◌≡◌}
use mathlib.Core.Bool.{Bool, true, false}
use mathlib.Core.List.{List}
use Prim.Native.Nat.{ℕ, ◌≤◌}
use Rattle.pin_model.specs.Table.{clock_limit, Table, settled_at}
use Rattle.pin_model.specs.SoundTable.{sound_table}
use Rattle.pin_model.specs.Judge.{raise, extend}
use Rattle.pin_model.proofs.SoundFacts.{sound-facts, facts-sound}
use Rattle.pin_model.proofs.SoundSteps.{raise-keeps, settled-keeps}
use Rattle.pin_model.proofs.SoundCalls.{extended-facts}

module _ (tack : List ℕ) (clock : ℕ) (t : Table) (h : sound_table t ≡ true) (in_order : t.latest ≤ clock) (in_limit : clock ≤ clock_limit) where
  pub raised-sound : sound_table (settled_at clock (raise tack t)) ≡ true
  raised-sound = facts-sound (settled_at clock (raise tack t)) (raise-keeps tack (settled-keeps clock in_order in_limit (sound-facts t h)))

  pub extended-sound : (on : Bool) (name : List ℕ) → t.two ≡ false → sound_table (settled_at clock (extend on name clock tack (raise tack t))) ≡ true
  extended-sound on name one =
      facts-sound (settled_at clock (extend on name clock tack (raise tack t))) (extended-facts name clock (sound-facts t h) one in_order in_limit on tack)
