use Rattle.pin_model.specs.Layout.{decode}
use Rattle.pin_records.proofs.ClearedNames.{ClearedTo}
use Rattle.pin_records.proofs.remove.clear_names.Given as goal

abbrev pub invariant-loop-i : goal.invariant-loop-i
invariant-loop-i g l = ClearedTo (goal.F-post g l.passes) (decode l.initial.area) l.area l.i
