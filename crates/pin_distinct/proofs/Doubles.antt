-- What the marks of slots say of the rules: a slot that says what one before it says has the mark of that one.
use mathlib.Core.Path.{◌≡◌, refl, sym, ap, ap₂, ◌∙◌}
use mathlib.Core.Bool.{Bool, true, false, cond, not, ◌&&◌, ◌||◌, true≢false}
use mathlib.Core.List.{List}
use Prim.Native.Nat.{ℕ, ◌+◌, ◌*◌, ◌%◌, ◌^◌, ◌<◌}
use lib.ListN.{replicate}
use borrow.Author.Count.{below_more, below_none}
use borrow.Author.Tests.{eqb-true}
use Rattle.octets.specs.Search.{every}
use Rattle.octets.proofs.Tests.{is_false, and_left, and_right}
use Rattle.octets.proofs.Equal.{same_true}
use Rattle.octets.proofs.Search.{every-neither, some-true, some-false}
use Rattle.pin_model.specs.Layout.{of_two, key_slot, name_slot, is_used, key_in, name_in}
use Rattle.pin_model.specs.Sound.{same_key, key_twice, same_name, name_twice, same_pin, pin_twice, name_thrice, name_again, names_distinct}
use Rattle.pin_distinct.specs.Hashes.{key_mark, name_mark, pin_mark}
use Rattle.pin_distinct.specs.SeenMarks.{is_seen, with_seen}
use Rattle.pin_distinct.specs.Pins.{pin_again, pins_distinct, no_name_thrice}
use Rattle.pin_distinct.proofs.SeenMarks.{MarksSeen, none_seen, passed_over, passed-marked, unseen}

-- the marks of the used key slots, and of the used name slots by pin and by name
abbrev pub KeysSeen : List ℕ → List ℕ → ℕ → Type 0
KeysSeen b = MarksSeen (λ j. is_used (key_slot b j)) (λ j. key_mark (key_in (key_slot b j)))

abbrev pub PinsSeen : Bool → List ℕ → List ℕ → ℕ → Type 0
PinsSeen two b = MarksSeen (λ j. is_used (name_slot b j)) (λ j. pin_mark two (name_slot b j))

abbrev pub NamesSeen : List ℕ → List ℕ → ℕ → Type 0
NamesSeen b = MarksSeen (λ j. is_used (name_slot b j)) (λ j. name_mark (name_in (name_slot b j)))

-- those of the name slots that have their name in a slot before
abbrev pub DoublesSeen : List ℕ → List ℕ → ℕ → Type 0
DoublesSeen b = MarksSeen (name_twice b) (λ j. name_mark (name_in (name_slot b j)))

-- two slots that say the same: the second is used, and they have one mark
same-key-mark : (s r : List ℕ) → same_key s r ≡ true → (is_used r ≡ true) × (key_mark (key_in s) ≡ key_mark (key_in r))
unfolding same_key
same-key-mark s r e =
    let f = and_right (is_used s) _ e in
    (and_left (is_used r) _ f, ap key_mark (same_true _ _ (and_right (is_used r) _ f)))

same-name-is : (s r : List ℕ) → same_name s r ≡ true → (is_used r ≡ true) × (name_in s ≡ name_in r)
unfolding same_name
same-name-is s r e =
    let f = and_right (is_used s) _ e in
    (and_left (is_used r) _ f, same_true _ _ (and_right (is_used r) _ f))

same-pin-mark : (s r : List ℕ) → same_pin s r ≡ true → (is_used r ≡ true) × (pin_mark true s ≡ pin_mark true r)
unfolding same_pin pin_mark
same-pin-mark s r e =
    let f = same-name-is s r (and_left (same_name s r) _ e) in
    (f.0, ap₂ (λ (n : List ℕ) (k : ℕ). (name_mark n + 127 * k) % 2 ^ 13) f.1 (eqb-true _ _ (and_right (same_name s r) _ e)))

-- a slot that is free says nothing
module _ (b : List ℕ) (n : ℕ) where
  pub key-free : is_used (key_slot b n) ≡ false → key_twice b n ≡ false
  unfolding key_twice same_key
  key-free f = some-false _ n (λ j l. rw f)

  name_free : is_used (name_slot b n) ≡ false → name_twice b n ≡ false
  unfolding name_twice same_name
  name_free f = some-false _ n (λ j l. rw f)

  pub pin-free : (two : Bool) → is_used (name_slot b n) ≡ false → pin_again two b n ≡ false
  unfolding pin_again pin_twice same_pin same_name
  pin-free false f = name_free f
  pin-free true f = some-false _ n (λ j l. rw f)

-- a slot whose mark was not seen says nothing that one before it says
module _ (b : List ℕ) {seen : List ℕ} {n m : ℕ} where
  pub key-unseen : KeysSeen b seen n → m ≡ key_mark (key_in (key_slot b n)) → is_seen seen m ≡ false → key_twice b n ≡ false
  unfolding key_twice
  key-unseen a e z = unseen a z _ (λ j t. let f = same-key-mark _ _ t in (f.0, e ∙ f.1))

  name-unseen : NamesSeen b seen n → m ≡ name_mark (name_in (name_slot b n)) → is_seen seen m ≡ false → name_twice b n ≡ false
  unfolding name_twice
  name-unseen a e z = unseen a z _ (λ j t. let f = same-name-is _ _ t in (f.0, e ∙ ap name_mark f.1))

  pub pin-unseen : (two : Bool) → PinsSeen two b seen n → m ≡ pin_mark two (name_slot b n) → is_seen seen m ≡ false → pin_again two b n ≡ false
  unfolding pin_again pin_twice name_twice pin_mark
  pin-unseen false a e z = unseen a z _ (λ j t. let f = same-name-is _ _ t in (f.0, e ∙ ap name_mark f.1))
  pin-unseen true a e z = unseen a z _ (λ j t. let f = same-pin-mark _ _ t in (f.0, e ∙ f.1))

-- only a name that stands before can stand twice before
thrice-twice : (b : List ℕ) (n : ℕ) → name_twice b n ≡ false → name_thrice b n ≡ false
unfolding name_twice name_thrice
thrice-twice b n h =
    some-false _ n
    (λ j l. is_false (same_name (name_slot b n) (name_slot b j) && name_twice b j)
    (λ e. true≢false (sym (some-true _ n j l (and_left (same_name (name_slot b n) (name_slot b j)) _ e)) ∙ h)))

-- none of the first n slots is a third one of its name; their marks are seen, and those of second ones are seen again
pub record FewSeen (b seen again : List ℕ) (n : ℕ) : Type 0 where
  pub few : (j : ℕ) → j < n → name_thrice b j ≡ false
  pub names : NamesSeen b seen n
  pub doubles : DoublesSeen b again n

module _ (b : List ℕ) {seen again : List ℕ} {n : ℕ} (a : FewSeen b seen again n) where
  pub few-free : is_used (name_slot b n) ≡ false → FewSeen b seen again (n + 1)
  few-free f =
      let t = name_free b n f in
      record {
        few = below_more _ _ a.few (thrice-twice b n t);
        names = passed_over a.names f;
        doubles = passed_over a.doubles t;
      }

  module _ {m : ℕ} (e : m ≡ name_mark (name_in (name_slot b n))) (l : m < 8192) {later : List ℕ} (w : later ≡ with_seen seen m) where
    -- the first of its mark
    pub few-first : is_seen seen m ≡ false → FewSeen b later again (n + 1)
    few-first z =
        let t = name-unseen b a.names e z in
        record {
          few = below_more _ _ a.few (thrice-twice b n t);
          names = passed-marked a.names e l w;
          doubles = passed_over a.doubles t;
        }

    pub few-more : {newest : List ℕ} → newest ≡ with_seen again m → name_thrice b n ≡ false → FewSeen b later newest (n + 1)
    few-more v t =
        record {
          few = below_more _ _ a.few t;
          names = passed-marked a.names e l w;
          doubles = passed-marked a.doubles e l v;
        }

  -- the second of its mark: a third one of its name would follow a second one, which left its mark
  pub few-second : {m : ℕ} → m ≡ name_mark (name_in (name_slot b n)) → is_seen again m ≡ false → name_thrice b n ≡ false
  unfolding name_thrice
  few-second e z =
      unseen a.doubles z _
      (λ j t.
      let f = same-name-is (name_slot b n) (name_slot b j) (and_left (same_name (name_slot b n) (name_slot b j)) _ t) in
      (and_right (same_name (name_slot b n) (name_slot b j)) _ t, e ∙ ap name_mark f.1))

-- 'no name too often' in its two parts
pub distinct_parts : (b : List ℕ) → names_distinct b ≡ cond (of_two b) (pins_distinct b && no_name_thrice b) (pins_distinct b)
unfolding pins_distinct pin_again no_name_thrice names_distinct name_again
distinct_parts b = go (of_two b)
  where
    go : (two : Bool)
        → every (λ n. not (cond two (pin_twice b n || name_thrice b n) (name_twice b n))) 128
        ≡ cond two
        (every (λ n. not (cond two (pin_twice b n) (name_twice b n))) 128 && every (λ n. not (name_thrice b n)) 128)
        (every (λ n. not (cond two (pin_twice b n) (name_twice b n))) 128)
    go false = refl
    go true = every-neither (pin_twice b) (name_thrice b) 128
