-- A call more is counted in the run; nothing else changes it.
use native.Mathlib.Omega.{arith}
use Rattle.std.proofs.Common.{rules}
use Rattle.replay.proofs.Steps.{reached-sound, call-more}
use Rattle.replay.proofs.turns.Progress.turn.Goals as goal

pub play_counted-played-requires : goal.play_counted-played-requires
play_counted-played-requires c = (search rules, reached-sound c.requires.0.reached)

pub write-requires : goal.write-requires
write-requires c =
    let e = c.in-Ok.ensures in
    (omega (arith, e.within.1, c.requires.0.room), call-more _ _ _ _ _ c.requires.0.reached e.turn e.area e.tally)

pub returns-else-line-gt-LAST_LINE_AT : goal.returns-else-line-gt-LAST_LINE_AT
returns-else-line-gt-LAST_LINE_AT c =
    let e = c.in-Ok.ensures in
    (record { room = omega arith; reached = call-more _ _ _ _ _ c.requires.0.reached e.turn e.area e.tally }, omega arith)
