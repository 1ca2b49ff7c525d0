-- What a refused call answers and leaves, and what a call knows whose area has passed.
use mathlib.Core.Path.{◌≡◌, sym, ap, ◌∙◌}
use mathlib.Core.Bool.{Bool, true, false}
use mathlib.Core.List.{List, ◌++◌}
use mathlib.Core.Option.{Option, none, some}
use Prim.Native.Nat.{ℕ}
use lib.ListN.{length}
use borrow.Author.Tests.{eq-eqb}
use Rattle.std.specs.Prelude as answer
use Rattle.std.specs.Prelude.{Some, None, Err}
use Rattle.std.specs.Option.{ok_or}
use Rattle.octets.specs.Octets.{Bytes}
use Rattle.octets.proofs.Options.{clash}
use Rattle.pin_model.specs.Layout.{area_length, encode, decode}
use Rattle.pin_model.specs.Sound.{sound}
use Rattle.pin_model.specs.SoundTable.{sound_table}
use Rattle.pin_model.specs.Refusals.{first, area_tests}
use Rattle.pin_model.specs.Calls.{Call, in_two, judgement, area_tests_of, table_tests_of, refusal, unrefused, table_after, answer_by, answer, refused_area, area_after}
use Rattle.pin_model.proofs.Rules.{rules-of}
use Rattle.pin_model.proofs.First.{first-here, first-later}
use Rattle.pin_model.proofs.Refusals.{AreaFacts, area-facts}
use Rattle.pin_model.proofs.SoundArea.{SoundArea, sound-decode, sound-fits}
use Rattle.pin_model.proofs.SoundFacts.{SoundFacts, sound-facts}
use Rattle.pin_model.proofs.AreaKept.{refused-after, passed-after}
use Rattle.pin_records.specs.Holds.{Stored}

-- a sound area passes 10 and 11
pub area-passes : (b : List ℕ) → sound b ≡ true → first (area_tests b) ≡ none
area-passes b h = simp (eq-eqb (length b) area_length (rules-of b h).whole, h)

-- what stands for a value that is missing
pub given-error : {T E : Type 0} (o : answer.Option T) {x r : E} → Err r ≡ ok_or o x → o ≡ None → r ≡ x
given-error None e d = cc
given-error (Some t) e d = clash (cc)

-- tests in stages: a number that is the first of a stage's and the later tests'
module _ {o : Option ℕ} (tests later : List (Bool × ℕ)) (e : o ≡ first (tests ++ later)) where
  pub refuses-here : {n : ℕ} → some n ≡ first tests → o ≡ some n
  refuses-here {n} d = e ∙ first-here tests later n (sym d)

  pub passes-on : none ≡ first tests → o ≡ first later
  passes-on d = e ∙ first-later tests later (sym d)

module _ (call : Call) (b : List ℕ) where
  -- the tests of the area come first, then those of the table
  pub refused-by-area : (n : ℕ) → first (area_tests_of call b) ≡ some n → refusal call b ≡ some n
  unfolding refusal
  refused-by-area n e = first-here (area_tests_of call b) (table_tests_of call (decode b)) n e

  pub behind-area : first (area_tests_of call b) ≡ none → refusal call b ≡ first (table_tests_of call (decode b))
  unfolding refusal
  behind-area e = first-later (area_tests_of call b) (table_tests_of call (decode b)) e

  answer-by : (o : Option ℕ) → refusal call b ≡ o → answer call b ≡ answer_by (in_two call) o (unrefused call (decode b))
  unfolding answer
  answer-by o e = ap (λ (o : Option ℕ). answer_by (in_two call) o (unrefused call (decode b))) e

  pub call-refused : (n : ℕ) → refusal call b ≡ some n → (judgement (in_two call) n false ≡ answer call b) × (refused_area call n b ≡ area_after call b)
  call-refused n e = (sym (answer-by (some n) e), sym (refused-after call b n e))

  pub call-passed : refusal call b ≡ none → (unrefused call (decode b) ≡ answer call b) × (encode (table_after call (decode b)) ≡ area_after call b)
  call-passed e = (sym (answer-by none e), sym (passed-after call b e))

-- a sound area stores the table that it decodes to
pub record Ready (b : List ℕ) : Type 0 where
  pub stored : Stored b
  pub table_sound : sound_table (decode b) ≡ true

pub ready : (b : List ℕ) (later : List (Bool × ℕ)) → Bytes b → first (area_tests b ++ later) ≡ none → Ready b
ready b later byte e =
    let area : AreaFacts b = area-facts b later e in
    let found : SoundArea b = sound-decode b byte area.area_sound in
    let facts : SoundFacts (decode b) = sound-facts (decode b) found.table in
    record {
      stored = record {
        bytes = sym found.bytes;
        long = area.area_long;
        fits = sound-fits b byte area.area_sound;
        distinct = record { few = facts.name_few; once = facts.pin_once };
      };
      table_sound = found.table;
    }
