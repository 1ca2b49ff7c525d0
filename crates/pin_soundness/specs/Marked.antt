-- Marks for the keys that names refer to.
-- Only a private function cites it: a reader of the open contracts can skip it.
use Rattle.std.specs.Prelude.{ℕ, ◌<◌, ◌≡◌, Bool, false, List, length, get_or}
use Rattle.octets.specs.Search.{some}
use Rattle.pin_model.specs.Layout.{name_slot}
use Rattle.pin_model.specs.Sound.{refers_to}

-- a key has a mark exactly where one of the first n name slots of b refers to it
pub record KeysMarked (b : List ℕ) (marks : List Bool) (n : ℕ) : Type 0 where
  pub size : length marks ≡ 256
  pub right : (k : ℕ) → k < 64 → get_or marks k false ≡ some (λ m. refers_to k (name_slot b m)) n
