-- Each tack that a call of edition two shows is 166 bytes long, so its key is 64 and its target hash 32.
use mathlib.Core.Path.{◌≡◌, refl, ap}
use mathlib.Core.Bool.{Bool, true, not}
use mathlib.Core.List.{List, [], ◌∷◌, ◌++◌}
use mathlib.Core.Option.{Option, none, some}
use Prim.Native.Nat.{ℕ}
use lib.Dec.{eqb}
use lib.ListN.{length}
use borrow.Author.Tests.{eqb-true, eq-eqb}
use Rattle.octets.specs.Octets.{same, all}
use Rattle.octets.proofs.Tests.{by_test, and_left, and_right, and_both}
use Rattle.tack_extension.specs.Extension.{tack_length}
use Rattle.tack_extension_two.specs.ExtensionTwo.{PartsTwo, enables_first, enables_second, good_two, parse_two, parts_or_none}
use Rattle.tack_extension.specs.Tack.{public_key, target_hash}
use Rattle.tack_extension_two.proofs.RoundTripTwo.{reads-good-two}
use Rattle.pin_model.specs.Connection.{ConnectionTwo, Shown, parts_two_of, shown_in, tacks_in, tacks_shown}
use Rattle.pin_model.proofs.TackShown.{whole-tack, key-size, hash-differs}

-- parts of which neither, one or both are tacks
pub record TackParts (p : PartsTwo) : Type 0 where
  pub first : tack_length (length p.first) ≡ true
  pub second : tack_length (length p.second) ≡ true

pub good-tacks : (p : PartsTwo) → good_two p ≡ true → TackParts p
good-tacks p e =
    let more = and_right (eqb (length p.first) 166) _ e in
    record {
      first = let l : length p.first ≡ 166 = eqb-true (length p.first) 166 (and_left _ _ e) in rw l;
      second = and_left (tack_length (length p.second)) _ more;
    }

read-parts : (o : Option PartsTwo) → ((p : PartsTwo) → o ≡ some p → good_two p ≡ true) → TackParts (parts_or_none o)
read-parts none good = record { first = refl; second = refl }
read-parts (some p) good = good-tacks p (good p refl)

parts-shown : (c : ConnectionTwo) → TackParts (parts_or_none (parts_two_of c))
unfolding parts_two_of
parts-shown c =
    by_test c.extension_came
    (λ e. rw e (read-parts (parse_two c.extension) (λ p d. reads-good-two c.extension p d)))
    (λ e. rw e (record { first = refl; second = refl }))

all_both : {A : Type 0} (p : A → Bool) (l m : List A) → all p l ≡ true → all p m ≡ true → all p (l ++ m) ≡ true
all_both p [] m e d = d
all_both p (x ∷ xs) m e d =
    and_both (p x) (all p (xs ++ m)) (and_left (p x) (all p xs) e) (all_both p xs m (and_right (p x) (all p xs) e) d)

-- a test that every tack of 166 bytes passes
module _ (test : List ℕ → Bool) (passed : (tack : List ℕ) → length tack ≡ 166 → test tack ≡ true) where
  part-passes : (enabled : Bool) (bytes : List ℕ) → tack_length (length bytes) ≡ true → all (λ s. test s.tack) (shown_in enabled bytes) ≡ true
  part-passes enabled [] e = refl
  part-passes enabled (b ∷ bs) e = rw (passed (b ∷ bs) (whole-tack (b ∷ bs) (b ∷ bs) e refl))

  shown-pass : (c : ConnectionTwo) → all (λ s. test s.tack) (tacks_shown c) ≡ true
  unfolding tacks_shown tacks_in
  shown-pass c =
      let p = parts_or_none (parts_two_of c) in
      let t : TackParts p = parts-shown c in
      all_both (λ s. test s.tack) (shown_in (enables_first p) p.first) (shown_in (enables_second p) p.second)
      (part-passes (enables_first p) p.first t.first) (part-passes (enables_second p) p.second t.second)

-- the key of a shown tack
abbrev pub key_long : Shown → Bool
key_long s = eqb (length (public_key s.tack)) 64

pub keys-long : (c : ConnectionTwo) → all key_long (tacks_shown c) ≡ true
keys-long = shown-pass (λ tack. eqb (length (public_key tack)) 64) (λ tack size. eq-eqb (length (public_key tack)) 64 (key-size tack size))

-- 'A hash that isn't 32 bytes long is unequal to every target hash.'
pub hashes-unequal : (c : ConnectionTwo) (hash : List ℕ) → (length hash ≡ 32 → ⊥) → all (λ s. not (same (target_hash s.tack) hash)) (tacks_shown c) ≡ true
hashes-unequal c hash short = shown-pass (λ tack. not (same (target_hash tack) hash)) (λ tack size. ap not (hash-differs tack size hash short)) c
