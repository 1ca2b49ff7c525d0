-- A number that has a count has it raised, and one from 32 on has none.
use Rattle.std.proofs.Common.{◌≤◌, sym, length, rules}
use lib.Seq.{set_out}
use Rattle.tally.specs.Tally.{counted}
use Rattle.tally.proofs.Tally.counted.Goals as goal

pub returns-then-at-lt32 : goal.returns-then-at-lt32
unfolding counted
returns-then-at-lt32 c = cc

pub returns-else-at-lt32 : goal.returns-else-at-lt32
unfolding counted
returns-else-at-lt32 c =
    let counts = c.args.self.counts in
    let l : length counts ≤ c.args.number = search rules in
    sym (set_out counts c.args.number _ l)
