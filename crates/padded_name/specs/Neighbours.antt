-- A byte of a padded name and the next one.
-- Only private functions cite it: a reader of the open contract can skip it.
use Rattle.std.specs.Prelude.{ℕ, ◌≤◌, ◌<◌, max, ◌≡◌, Bool, not, ◌&&◌, ◌||◌, List, eqb, length}
use Rattle.host_name.specs.Name.{dot}
use Rattle.host_name.specs.Scan.{name_byte}

-- x is a byte of a name or zero; no dot stands beside a dot, a hyphen or zero; behind zero stands zero
unfoldable pub neighbours : ℕ → ℕ → Bool
neighbours x y = ((name_byte x || eqb x 0) && not (eqb (max x y) dot)) && (not (eqb x 0) || eqb y 0)

-- a name of n bytes, of whose 256 bytes the first m are looked at with their neighbours
pub record Short (padded : List ℕ) (n m : ℕ) : Type 0 where
  pub full : length padded ≡ 256
  pub some : 0 < n
  pub below : n < m
  pub few : m ≤ 64
