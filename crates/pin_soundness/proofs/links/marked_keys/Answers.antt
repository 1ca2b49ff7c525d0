use Rattle.std.proofs.Common.{◌≡◌, true, false, arith}
use Rattle.pin_model.specs.Layout.{name_slot, is_used, key_number}
use Rattle.pin_soundness.proofs.NamedKeys.{none-marked, marked-free, marked-used}
use Rattle.pin_soundness.proofs.links.marked_keys.Goals.{then-is_used, else-is_used}
use Rattle.pin_soundness.proofs.links.marked_keys.Goals as goal

pub loop-n-init : goal.loop-n-init
loop-n-init c = none-marked _

pub loop-n-preserved : goal.loop-n-preserved
loop-n-preserved c =
    let b = c.args.area.now in
    let n = c.loop-n.n in
    elim c.if-is_used.branch [
      | then-is_used w ↦
          let used : is_used (name_slot b n) ≡ true = cc in
          let number : w.from.result ≡ key_number (name_slot b n) = cc in
          rw w.marked-is (marked-used b _ n c.loop-n.invariant _ number (omega arith) used)
      | else-is_used w ↦
          let free : is_used (name_slot b n) ≡ false = cc in
          rw w.marked-is (marked-free b _ n c.loop-n.invariant free)
    ]
