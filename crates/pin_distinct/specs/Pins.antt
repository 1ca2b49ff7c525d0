-- 'No name too often' in two parts, as the code looks for it.
-- Only functions below the open ones cite it: a reader of the open contracts can skip it.
use Rattle.std.specs.Prelude.{ℕ, Bool, cond, not, List}
use Rattle.octets.specs.Search.{every}
use Rattle.pin_model.specs.Layout.{of_two}
use Rattle.pin_model.specs.Sound.{name_twice, pin_twice, name_thrice}

-- a slot before slot n says what it says: its name, and in edition two its key
unfoldable pub pin_again : Bool → List ℕ → ℕ → Bool
pin_again two b n = cond two (pin_twice b n) (name_twice b n)

unfoldable pub pins_distinct : List ℕ → Bool
pins_distinct b = every (λ n. not (pin_again (of_two b) b n)) 128

-- no name has three records
unfoldable pub no_name_thrice : List ℕ → Bool
no_name_thrice b = every (λ n. not (name_thrice b n)) 128
