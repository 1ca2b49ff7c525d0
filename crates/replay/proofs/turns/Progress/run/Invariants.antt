-- Each turn has judged at most one call.
use Prim.Native.Nat.{◌≤◌}
use Rattle.replay.specs.Progress.{InOrder}
use Rattle.replay.proofs.turns.Progress.run.Given as goal

abbrev pub invariant-loop : goal.invariant-loop
invariant-loop l = InOrder l.self × (l.self.index ≤ l.counter)
