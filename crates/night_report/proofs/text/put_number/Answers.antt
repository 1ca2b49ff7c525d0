-- The number, and the other piece behind it.
use Rattle.night_report.specs.Report.{decimal}
use Rattle.night_report.proofs.Pieces.{behind}
use Rattle.night_report.proofs.text.put_number.Goals as goal

pub returns : goal.returns
returns c =
    behind c.args.out.now c.args.at (decimal c.args.n) c.args.behind.now c.requires
    c.put_decimal-end.ensures c.put_part.ensures
