-- The report's lines are the same in every spelling of the names.
use mathlib.Core.Path.{◌≡◌, refl, ap, ap₂}
use mathlib.Core.Bool.{false}
use mathlib.Core.List.{List, [], ◌∷◌, ◌++◌, map}
use Prim.Native.Nat.{ℕ, suc}
use lib.ListN.{length}
use Rattle.pin_model.specs.Connection.{Connection}
use Rattle.pin_model.specs.Calls.{Call, judge}
use Rattle.pin_journal.specs.Spellings.{AllRespelled, ended, each}
use Rattle.pin_journal.proofs.Main.{one-run}
use Rattle.night_report.specs.Report.{line, lines}

same_length : {calls others : List Call} → AllRespelled calls others → length calls ≡ length others
same_length ended = refl
same_length (each r rs) = ap (λ (n : ℕ). suc n) (same_length rs)

pub same_lines : (earlier others : List Call) (cs ds : List Connection) → AllRespelled earlier others → AllRespelled (map judge cs) (map judge ds)
    → lines earlier cs ≡ lines others ds
unfolding lines
same_lines earlier others [] [] before now = refl
same_lines earlier others (c ∷ cs) (d ∷ ds) before (each r rs) =
    ap₂ ◌++◌ (ap₂ line (same_length before) ((one-run false earlier others before).1 (judge c) (judge d) r))
    (same_lines (judge c ∷ earlier) (judge d ∷ others) cs ds (each r before) rs)
same_lines earlier others [] (d ∷ ds) before now = elim now [ ]
same_lines earlier others (c ∷ cs) [] before now = elim now [ ]
