-- What each turn of the program keeps: room for a line, and the run that it has come through.
use Rattle.std.specs.Prelude.{◌≡◌, false, List, ℕ, ◌+◌, ◌≤◌, length}
use Rattle.tally.specs.Tally.{tallied}
use Rattle.pin_model.specs.Calls.{Call}
use Rattle.pin_model.specs.Run.{area_of}
use Rattle.night_report.specs.Report.{numbers}
use Rattle.replay.specs.declared.turns.Progress.{Progress}

-- the calls played so far, from the empty table of edition one, the newest first: they left this area, the index is their number,
-- and the tally counts their answers. Which calls they are no contract can say, since none says what is read: it is one list for
-- all three.
pub record Reached (area : List ℕ) (index : ℕ) (counts : List ℕ) : Type 0 where
  pub calls : List Call
  pub left : area ≡ area_of false calls
  pub number : index ≡ length calls
  pub tally : counts ≡ tallied (numbers calls)

-- the text has room for another line behind its end
pub record InOrder (r : Progress) : Type 0 where
  pub room : r.end + 31 ≤ 65536
  pub reached : Reached r.area r.index r.tally.counts

-- the tally of the answers to some list of calls from that table; by itself it does not say which
pub record Tallied (counts : List ℕ) : Type 0 where
  pub calls : List Call
  pub tally : counts ≡ tallied (numbers calls)
