-- What a connection of edition two that isn't refused has passed.
use mathlib.Core.Path.{◌≡◌}
use mathlib.Core.Bool.{Bool, true, false}
use mathlib.Core.List.{List, [], ◌∷◌, ◌++◌}
use mathlib.Core.Option.{none}
use Prim.Native.Nat.{ℕ, ◌≤◌}
use lib.ListN.{get_or, take}
use borrow.Author.Tests.{ltb-false, not-false}
use Rattle.octets.specs.Octets.{same}
use Rattle.host_name.specs.Name.{well_formed}
use Rattle.tack_extension.specs.Tack.{public_key}
use Rattle.tack_extension_two.specs.ExtensionTwo.{parts_or_none}
use Rattle.pin_model.specs.Slots.{apart}
use Rattle.pin_model.specs.Table.{clock_limit, Table}
use Rattle.pin_model.specs.Connection.{ConnectionTwo, parts_two_of, tacks_shown}
use Rattle.pin_model.specs.Refusals.{first, parts_tests, any_revoked}
use Rattle.pin_model.specs.Calls.{judge_two, table_tests_of}
use Rattle.pin_model.proofs.First.{passed, passed_later}

-- the tests of each tack
abbrev pub parts_of_two : ConnectionTwo → List (Bool × ℕ)
parts_of_two c =
    let p = parts_or_none (parts_two_of c) in
    parts_tests c.clock c.hash c.checks p.first p.second

-- what later proofs need of 27, 12 to 14, 24 and 22
pub record ConnectionTwoFacts (c : ConnectionTwo) (t : Table) : Type 0 where
  pub of_edition_two : t.two ≡ true
  pub name_formed : well_formed c.name ≡ true
  pub clock_in_limit : c.clock ≤ clock_limit
  pub clock_in_order : t.latest ≤ c.clock
  pub keys_apart : apart (λ s r. same (public_key r.tack) (public_key s.tack)) (tacks_shown c) ≡ true
  pub none_revoked : any_revoked t (tacks_shown c) ≡ false

module _ (c : ConnectionTwo) (t : Table) (passes : first (table_tests_of (judge_two c) t) ≡ none) where
  test_at : (i : ℕ) → (get_or (table_tests_of (judge_two c) t) i (false, 0)).0 ≡ false
  test_at = passed (table_tests_of (judge_two c) t) passes

  abbrev last_test : List (Bool × ℕ)
  last_test = (any_revoked t (tacks_shown c), 22) ∷ []

  of-tacks : first (parts_of_two c ++ last_test) ≡ none
  of-tacks = passed_later (take 7 (table_tests_of (judge_two c) t)) (parts_of_two c ++ last_test) passes

  pub two_facts : ConnectionTwoFacts c t
  two_facts = record {
    of_edition_two = not-false t.two (test_at 0);
    name_formed = not-false (well_formed c.name) (test_at 1);
    clock_in_limit = ltb-false clock_limit c.clock (test_at 2);
    clock_in_order = ltb-false c.clock t.latest (test_at 3);
    keys_apart = not-false (apart (λ s r. same (public_key r.tack) (public_key s.tack)) (tacks_shown c)) (test_at 6);
    none_revoked = passed last_test (passed_later (parts_of_two c) last_test of-tacks) 0;
  }
