-- The last line has no more bytes than there is room for.
use native.Mathlib.Omega.{arith}
use Rattle.night_report.proofs.Lines.{total-length}
use Rattle.replay.proofs.turns.Progress.close.Goals as goal
use Rattle.replay.proofs.turns.Progress.close.Goals.{then-whole, else-whole}

pub write-requires : goal.write-requires
write-requires c =
    elim c.if-whole.branch [
      | then-whole w ↦ rw (w.self-is, w.self2-is) (omega (arith, c.requires.room, total-length c.args.self.now.index (omega arith), w.put_total-self.ensures.0), c.requires.reached)
      | else-whole w ↦ rw (w.self-is, w.self2-is) (omega (arith, c.requires.room, w.put_bad-self.ensures.0), c.requires.reached)
    ]
