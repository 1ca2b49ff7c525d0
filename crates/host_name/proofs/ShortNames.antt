-- A name of at most 63 bytes has no label that is too long: its neighbours say whether it is well-formed.
use mathlib.Core.Path.{◌≡◌, refl, sym, ap, ap₂, ◌∙◌}
use mathlib.Core.Bool.{Bool, true, false, not, ◌&&◌, false≢true}
use mathlib.Core.List.{List, [], ◌∷◌}
use mathlib.Core.Logic.{⊎_elim}
use Prim.Native.Nat.{ℕ, zero, suc, ◌≤◌, ◌<◌, max}
use native.Mathlib.Omega.{arith}
use lib.Dec.{eqb, leb}
use lib.ListN.{length, get_or}
use borrow.Author.Tests.{le-leb, leb-true, eq-eqb, ne_eqb, eqb-true}
use Rattle.octets.specs.Octets.{all}
use Rattle.octets.proofs.Tests.{by_test, and_left, and_right, and_both, or_cases}
use Rattle.host_name.specs.Name.{hyphen, dot, letter_or_digit, is_label, between_dots, well_formed}
use Rattle.host_name.specs.Scan.{label_byte, name_byte, to_dot}
use Rattle.host_name.proofs.Dots.{behind}
use Rattle.host_name.proofs.Bytes.{bytes-refused}
use Rattle.host_name.proofs.Labels.{first_taken, none-refused, first-refused}

-- no dot stands beside a dot or a hyphen, and the last byte is neither; a is the byte before
unfoldable pub dots_apart : ℕ → List ℕ → Bool
dots_apart a [] = leb 48 a
dots_apart a (b ∷ s) = not (eqb (max a b) dot) && dots_apart b s

-- a byte of a name is a hyphen, a dot, or a letter or a digit, which stand above both
pub data Kind : ℕ → Type 0 where
  is_letter : {b : ℕ} → letter_or_digit b ≡ true → 48 ≤ b → Kind b
  is_hyphen : {b : ℕ} → b ≡ hyphen → Kind b
  is_dot : {b : ℕ} → b ≡ dot → Kind b

letter-above : (b : ℕ) → letter_or_digit b ≡ true → 48 ≤ b
letter-above b h =
    ⊎_elim (λ e. let k = leb-true 97 b (and_left (leb 97 b) (leb b 122) e) in omega (arith, k))
    (λ e. leb-true 48 b (and_left (leb 48 b) (leb b 57) e))
    (or_cases (leb 97 b && leb b 122) (leb 48 b && leb b 57) h)

pub kind : (b : ℕ) → name_byte b ≡ true → Kind b
kind b h =
    ⊎_elim
    (λ e. ⊎_elim (λ l. is_letter l (letter-above b l)) (λ y. is_hyphen (eqb-true b hyphen y)) (or_cases (letter_or_digit b) (eqb b hyphen) e))
    (λ e. is_dot (eqb-true b dot e))
    (or_cases (label_byte b) (eqb b dot) h)

-- what two neighbours pass or fail
apart : (a b : ℕ) → (max a b ≡ dot → ⊥) → not (eqb (max a b) dot) ≡ true
apart a b h = ap not (ne_eqb (max a b) dot h)

beside : (a b : ℕ) → max a b ≡ dot → not (eqb (max a b) dot) ≡ false
beside a b h = ap not (eq-eqb (max a b) dot h)

-- a label's rest behind b: it ends with another byte than a hyphen, and the labels behind it are labels
abbrev rest : ℕ → List ℕ → Bool
rest b s = not (eqb (get_or (b ∷ s) (length (to_dot s)) 0) hyphen) && all is_label (behind s)

to_dot-short : (s : List ℕ) → length (to_dot s) ≤ length s
unfolding to_dot
to_dot-short [] = omega arith
to_dot-short (b ∷ s) = by_test (eqb b dot) (λ e. rw e (omega arith)) (λ e. rw e (omega (arith, to_dot-short s)))

short-taken : (b : ℕ) (s : List ℕ) → letter_or_digit b ≡ true → all name_byte s ≡ true → length s ≤ 62 → all is_label (between_dots (b ∷ s)) ≡ rest b s
short-taken b s h k l = first_taken b s h k ∙ simp (le-leb (suc (length (to_dot s))) 63 (omega (arith, to_dot-short s)))

not-hyphen : (b : ℕ) → 48 ≤ b → not (eqb b hyphen) ≡ true
not-hyphen b h = ap not (ne_eqb b hyphen (λ e. omega arith))

-- the labels of s, and a label's rest, are decided by neighbours
record Decided (s : List ℕ) : Type 0 where
  labels : all is_label (between_dots s) ≡ dots_apart dot s
  inside : (b : ℕ) → Kind b → (b ≡ dot → ⊥) → rest b s ≡ dots_apart b s

at-end : (b : ℕ) → Kind b → (b ≡ dot → ⊥) → rest b [] ≡ dots_apart b []
unfolding dots_apart to_dot behind
at-end b (is_letter e l) h = rw (not-hyphen b l) (sym (le-leb 48 b l))
at-end b (is_hyphen e) h = rw e refl
at-end b (is_dot e) h = absurd (h e)

-- c stands behind b, and is no dot: the label goes on
goes_on : (b c : ℕ) (s : List ℕ) → Kind c → (c ≡ dot → ⊥) → (max b c ≡ dot → ⊥) → Decided s → rest b (c ∷ s) ≡ dots_apart b (c ∷ s)
unfolding dots_apart to_dot behind
goes_on b c s k h a d = rw (ne_eqb c dot h, apart b c a) (d.inside c k h)

next : (b c : ℕ) (s : List ℕ) → Kind b → (b ≡ dot → ⊥) → Kind c → Decided s → rest b (c ∷ s) ≡ dots_apart b (c ∷ s)
unfolding dots_apart to_dot behind
next b c s (is_dot e) h k d = absurd (h e)
next b c s (is_letter e l) h (is_dot f) d = rw f (ap₂ ◌&&◌ (not-hyphen b l ∙ sym (apart b dot (λ z. omega arith))) d.labels)
next b c s (is_hyphen e) h (is_dot f) d = rw (e, f) refl
next b c s (is_letter e l) h (is_letter f m) d = goes_on b c s (is_letter f m) (λ z. omega arith) (λ z. omega arith) d
next b c s (is_letter e l) h (is_hyphen f) d = goes_on b c s (is_hyphen f) (λ z. omega arith) (λ z. omega arith) d
next b c s (is_hyphen e) h (is_letter f m) d = goes_on b c s (is_letter f m) (λ z. omega arith) (λ z. omega arith) d
next b c s (is_hyphen e) h (is_hyphen f) d = goes_on b c s (is_hyphen f) (λ z. omega arith) (λ z. omega arith) d

first : (c : ℕ) (s : List ℕ) → Kind c → all name_byte s ≡ true → length s ≤ 62 → Decided s → all is_label (between_dots (c ∷ s)) ≡ dots_apart dot (c ∷ s)
unfolding dots_apart
first c s (is_letter f m) h l d =
    short-taken c s f h l ∙ d.inside c (is_letter f m) (λ z. omega arith)
    ∙ ap (λ (x : Bool). x && dots_apart c s) (sym (apart dot c (λ z. omega arith)))
first c s (is_hyphen f) h l d = first-refused c s (rw f refl) ∙ ap (λ (x : Bool). x && dots_apart c s) (sym (beside dot c (omega arith)))
first c s (is_dot f) h l d = first-refused c s (rw f refl) ∙ ap (λ (x : Bool). x && dots_apart c s) (sym (beside dot c (omega arith)))

decided : (s : List ℕ) → all name_byte s ≡ true → length s ≤ 63 → Decided s
unfolding dots_apart
decided [] h l = record { labels = none-refused; inside = at-end }
decided (c ∷ s) h l =
    let k : Kind c = kind c (and_left (name_byte c) (all name_byte s) h) in
    let g : all name_byte s ≡ true = and_right (name_byte c) (all name_byte s) h in
    let d : Decided s = decided s g (omega arith) in
    record { labels = first c s k g (omega arith) d; inside = λ b j e. next b c s j e k d }

-- at most 63 bytes are well-formed exactly if each may stand in a name and no dot stands beside a dot, a hyphen or an end
pub short-formed : (s : List ℕ) → length s ≤ 63 → well_formed s ≡ (all name_byte s && dots_apart dot s)
unfolding well_formed
short-formed s l =
    rw (le-leb (length s) 253 (omega arith))
    (by_test (all name_byte s) (λ e. (decided s e l).labels ∙ sym (rw e)) (λ e. bytes-refused s e ∙ sym (rw e)))

-- the same at each place
pub apart-at : (a : ℕ) (s : List ℕ) → dots_apart a s ≡ true → (i : ℕ) → i < length s → max (get_or (a ∷ s) i 0) (get_or s i 0) ≡ dot → ⊥
unfolding dots_apart
apart-at a [] h i l e = omega arith
apart-at a (b ∷ s) h zero l e = false≢true (sym (beside a b e) ∙ and_left (not (eqb (max a b) dot)) (dots_apart b s) h)
apart-at a (b ∷ s) h (suc i) l e = apart-at b s (and_right (not (eqb (max a b) dot)) (dots_apart b s) h) i (omega arith) e

pub apart-last : (a : ℕ) (s : List ℕ) → dots_apart a s ≡ true → 48 ≤ get_or (a ∷ s) (length s) 0
unfolding dots_apart
apart-last a [] h = leb-true 48 a h
apart-last a (b ∷ s) h = apart-last b s (and_right (not (eqb (max a b) dot)) (dots_apart b s) h)

pub apart-all : (a : ℕ) (s : List ℕ) → ((i : ℕ) → i < length s → max (get_or (a ∷ s) i 0) (get_or s i 0) ≡ dot → ⊥) → 48 ≤ get_or (a ∷ s) (length s) 0
    → dots_apart a s ≡ true
unfolding dots_apart
apart-all a [] h l = le-leb 48 a l
apart-all a (b ∷ s) h l =
    and_both (not (eqb (max a b) dot)) (dots_apart b s) (apart a b (h 0 (omega arith))) (apart-all b s (λ i k. h (suc i) (omega arith)) l)
