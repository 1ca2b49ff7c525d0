-- The word, and the number behind it.
use native.Mathlib.Omega.{arith}
use Rattle.night_report.proofs.Lines.{field-u64, total-written}
use Rattle.night_report.proofs.text.put_total.Goals as goal

pub put_number-requires : goal.put_number-requires
put_number-requires c =
    omega (arith, field-u64 c.args.n 10 (omega arith))

pub returns : goal.returns
returns c =
    total-written c.args.out.now c.args.at c.args.n (omega arith) c.requires
    c.put_part-at_number.ensures c.put_number.ensures
