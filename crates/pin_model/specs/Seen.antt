-- A connection as the functions take it, in the model's terms: where no extension came its bytes are empty.
use Rattle.std.specs.Prelude.{List, [], ℕ, Option, Some, None, is_some}
use Rattle.std.specs.Borrow.{Bor}
use Rattle.pin_model.specs.Connection.{ConnectionWith, connection}
use Rattle.pin_model.specs.declared.Connection as declared

abbrev pub bytes_in : Option (Bor (List ℕ)) → List ℕ
bytes_in None = []
bytes_in (Some s) = s.now

abbrev pub seen : {A : Type 0} → declared.Connection A → ConnectionWith A
seen c = connection c.clock c.name.now (is_some c.extension) (bytes_in c.extension) c.hash.now c.checks
