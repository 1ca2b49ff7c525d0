-- One finished connection of either edition, and what it shows. Document 01, 'Judging one connection', and document 02, Q-2, Q-3 and
-- Q-7.
use Rattle.std.specs.Prelude.{Bool, false, cond, ◌&&◌, ◌||◌, List, [], ◌∷◌, ◌++◌, map, ℕ, eqb}
use Rattle.std.proofs.Math.Option.{Option, none, some}
use Rattle.octets.specs.Octets.{same, any}
use Rattle.host_name.specs.Folding.{folded_name}
use Rattle.tack_extension.specs.Extension.{Parts, parts, parse, tack_of, breaks_of}
use Rattle.tack_extension.specs.Tack.{public_key, break_key, break_signatures}
use Rattle.tack_extension_two.specs.ExtensionTwo.{PartsTwo, parts_two, enables_first, enables_second, parse_two, parts_or_none}
use Rattle.pin_model.specs.declared.Checks.{Checks}
use Rattle.pin_model.specs.declared.ChecksTwo.{ChecksTwo}

-- 'The caller supplies': one finished connection, and its own answers about it, of either edition; in edition two 'its own answers'
-- for each of the two tacks (document 02, Q-3)
pub record ConnectionWith (Answers : Type 0) : Type 0 where
  pub clock : ℕ
  pub name : List ℕ
  pub extension_came : Bool
  pub extension : List ℕ
  pub hash : List ℕ
  pub checks : Answers

abbrev pub Connection : Type 0
Connection = ConnectionWith Checks

abbrev pub ConnectionTwo : Type 0
ConnectionTwo = ConnectionWith ChecksTwo

abbrev pub connection : {A : Type 0} → ℕ → List ℕ → Bool → List ℕ → List ℕ → A → ConnectionWith A
connection clock name came bytes hash checks =
    record { clock = clock; name = name; extension_came = came; extension = bytes; hash = hash; checks = checks }

abbrev pub checks_by : Bool → Bool → Bool → ℕ → Bool → Checks
checks_by finished point correct breaks learn_disabled =
    record {
      handshake_finished = finished;
      key_is_point = point;
      signature_correct = correct;
      breaks_correct = breaks;
      learn_disabled = learn_disabled;
    }

-- the connection under another name, and under its folded one (document 02, Q-2)
abbrev pub named : {A : Type 0} → List ℕ → ConnectionWith A → ConnectionWith A
named name c = connection c.clock name c.extension_came c.extension c.hash c.checks

abbrev pub folded_connection : {A : Type 0} → ConnectionWith A → ConnectionWith A
folded_connection c = named (folded_name c.name) c

-- 'If no extension came, its bytes are ignored.'
unfoldable pub parts_of : Connection → Option Parts
parts_of c = cond c.extension_came (parse c.extension) (some (parts [] [] 0))

-- the tack that the call shows, if there is one: an absent tack is an empty part
abbrev pub unless_empty : List ℕ → Option (List ℕ)
unless_empty [] = none
unless_empty (b ∷ bs) = some (b ∷ bs)

unfoldable pub tack_shown : Connection → Option (List ℕ)
tack_shown c = unless_empty (tack_of (parts_of c))

abbrev pub shows : Option (List ℕ) → List ℕ → Bool
shows none k = false
shows (some tack) k = same (public_key tack) k

-- 'activation is 1'
abbrev pub is_enabled : Option Parts → Bool
is_enabled none = false
is_enabled (some p) = eqb p.activation 1

unfoldable pub enabled : Connection → Bool
enabled c = is_enabled (parts_of c)

-- 'edition one makes a record only if activation is 1', or if the call asks 'for the old way by an explicit yes' (document 02, Q-7)
unfoldable pub may_record : Connection → Bool
may_record c = enabled c || c.checks.learn_disabled

-- the break signatures, and the keys that they name
unfoldable pub breaks_shown : Connection → List (List ℕ)
breaks_shown c = break_signatures (breaks_of (parts_of c))

unfoldable pub broken_keys : Connection → List (List ℕ)
broken_keys c = map break_key (breaks_shown c)

abbrev pub listed : List (List ℕ) → List ℕ → Bool
listed ks k = any (λ b. same b k) ks

-- the same in edition two
unfoldable pub parts_two_of : ConnectionTwo → Option PartsTwo
parts_two_of c = cond c.extension_came (parse_two c.extension) (some (parts_two [] [] 0))

-- a tack that the call shows, and whether its flag enables it
pub record Shown : Type 0 where
  pub tack : List ℕ
  pub enabled : Bool

-- an absent tack is an empty part
abbrev pub shown_in : Bool → List ℕ → List Shown
shown_in enabled [] = []
shown_in enabled (b ∷ bs) = record { tack = b ∷ bs; enabled = enabled } ∷ []

-- the tacks 'in order'
unfoldable pub tacks_in : PartsTwo → List Shown
tacks_in p = shown_in (enables_first p) p.first ++ shown_in (enables_second p) p.second

unfoldable pub tacks_shown : ConnectionTwo → List Shown
tacks_shown c = tacks_in (parts_or_none (parts_two_of c))

-- whether some tack shows a key, and whether an enabled one does
abbrev pub key_shown : List Shown → List ℕ → Bool
key_shown tacks k = any (λ s. same (public_key s.tack) k) tacks

abbrev pub key_enabled : List Shown → List ℕ → Bool
key_enabled tacks k = any (λ s. s.enabled && same (public_key s.tack) k) tacks
