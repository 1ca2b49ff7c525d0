-- What the reader's steps give, as steps of the paper's reading. Cited by private functions, and by the reader of edition two: a reader
-- of the open contracts can skip this file.
use Rattle.std.specs.Prelude.{ℕ, List, Option, Some, None}
use Rattle.std.specs.Borrow.{Bor}
use Rattle.tack_extension.specs.Extension.{Step, read, refused}
use Rattle.tack_extension.specs.Answers.{tack_bytes}

abbrev pub part_read : Option (Bor (List ℕ) × Bor (List ℕ)) → Step
part_read (Some p) = read p.0.now p.1.now
part_read None = refused

abbrev pub tack_read : Option (Option (Bor (List ℕ)) × Bor (List ℕ)) → Step
tack_read (Some p) = read (tack_bytes p.0) p.1.now
tack_read None = refused
