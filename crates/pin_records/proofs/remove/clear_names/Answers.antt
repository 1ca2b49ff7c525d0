-- One slot after the other, as the test tells of it.
use Rattle.pin_model.specs.Layout.{decode}
use Rattle.pin_records.proofs.DroppedNames.{drop-end}
use Rattle.pin_records.proofs.ClearedNames.{slot-stays, slot-goes}
use Rattle.pin_records.proofs.remove.clear_names.Goals as goal
use Rattle.pin_records.proofs.remove.clear_names.Goals.{then-passes, else-passes}

pub loop-i-preserved : goal.loop-i-preserved
loop-i-preserved g c =
    let t = decode c.args.area.now in
    elim c.if-passes.branch [
      | then-passes w ↦ slot-goes t _ c.at-n.ensures c.loop-i-test.true c.loop-i.invariant w.area-is w.if-passes.ensures w.clear_name.ensures
      | else-passes w ↦ slot-stays t _ c.at-n.ensures c.loop-i-test.true c.loop-i.invariant w.area-is w.if-passes.ensures
    ]

pub returns : goal.returns
returns g c passes tells =
    drop-end passes (decode c.args.area.now) c.loop-i.i (c.loop-i.invariant.1 passes tells) c.requires.0.fits.name_slots c.loop-i-test.false
