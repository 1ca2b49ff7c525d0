-- What stands in front of bytes from which a field, and from which a call, is taken.
use mathlib.Core.Path.{◌≡◌, refl, sym}
use mathlib.Core.Bool.{cond, ◌&&◌}
use mathlib.Core.List.{List, [], ◌∷◌, ◌++◌}
use mathlib.Core.Option.{Option, none, some}
use Prim.Native.Nat.{ℕ, ◌≤◌, ◌<◌}
use native.Mathlib.Omega.{arith}
use lib.Dec.{leb, ltb, eqb}
use lib.ListN.{length, take, drop, get_or, take-append-drop}
use lib.Seq.{length-take-le}
use borrow.Author.Tests.{leb-true, ltb-true, eqb-true}
use Rattle.octets.specs.Octets.{number}
use Rattle.octets.proofs.Tests.{by_test, and_left, and_right}
use Rattle.octets.proofs.Options.{clash}
use Rattle.pin_model.specs.Connection.{Connection}
use Rattle.recorded_call.specs.RecordedCall.{Front, taken, cut_off, bad, and_then, field, answers_field, tagged, extension_field, called, recorded}

never-cut : {P A : Type 0} {a : A} {r : List ℕ} → cut_off ≡ taken a r → P
never-cut e = clash (cc)

never-bad : {P A : Type 0} {a : A} {r : List ℕ} → bad ≡ taken a r → P
never-bad e = clash (cc)

-- what comes second is taken from behind what comes first
then-taken : {P A B : Type 0} (x : Front A) (next : A → List ℕ → Front B) {b : B} {r : List ℕ} → and_then x next ≡ taken b r
    → ((a : A) (q : List ℕ) → x ≡ taken a q → next a q ≡ taken b r → P) → P
then-taken (taken a q) next h f = f a q refl h
then-taken cut_off next h f = never-cut h
then-taken bad next h f = never-bad h

-- one field
pub record FieldTaken (tag least most : ℕ) (s v r : List ℕ) : Type 0 where
  pub high : ℕ
  pub low : ℕ
  pub size : number (high ∷ low ∷ []) ≡ length v
  pub lower : least ≤ length v
  pub upper : length v ≤ most
  pub bytes : s ≡ tag ∷ high ∷ low ∷ (v ++ r)

pub field-parts : (tag least most : ℕ) (s v r : List ℕ) → field tag least most s ≡ taken v r → FieldTaken tag least most s v r
unfolding field
field-parts tag least most [] v r h = never-cut h
field-parts tag least most (t ∷ []) v r h = never-cut h
field-parts tag least most (t ∷ x ∷ []) v r h = never-cut h
field-parts tag least most (t ∷ x ∷ y ∷ s) v r h =
    let n : ℕ = number (x ∷ y ∷ []) in
    by_test (eqb t tag && (leb least n && leb n most))
    (λ e. by_test (leb n (length s))
    (λ f.
    let k : taken (take n s) (drop n s) ≡ taken v r = simp (e, f) at h in
    let p : take n s ≡ v = cc in
    let q : drop n s ≡ r = cc in
    let size : length (take n s) ≡ n = length-take-le n s (leb-true n (length s) f) in
    let within = and_right (eqb t tag) (leb least n && leb n most) e in
    let above = leb-true least n (and_left (leb least n) (leb n most) within) in
    let below = leb-true n most (and_right (leb least n) (leb n most) within) in
    rw (← p, ← q) (record {
      high = x;
      low = y;
      size = sym size;
      lower = omega arith;
      upper = omega arith;
      bytes = rw (eqb-true t tag (and_left (eqb t tag) (leb least n && leb n most) e), take-append-drop n s) refl;
    }))
    (λ f. never-cut (simp (e, f) at h)))
    (λ e. never-bad (simp e at h))

-- the answers, and the extension where one came
pub answers-parts : (s v r : List ℕ) → answers_field s ≡ taken v r → FieldTaken 3 2 2 s v r × (get_or v 0 0 < 8)
answers-parts s v r h =
    then-taken (field 3 2 2 s) (λ answers rest. cond (ltb (get_or answers 0 0) 8) (taken answers rest) bad) h
    (λ a q e k.
    by_test (ltb (get_or a 0 0) 8)
    (λ f.
    let j : taken a q ≡ taken v r = simp f at k in
    let x : a ≡ v = cc in
    let y : q ≡ r = cc in
    rw (← x, ← y) (field-parts 3 2 2 s a q e, ltb-true (get_or a 0 0) 8 f))
    (λ f. never-bad (simp f at k)))

abbrev pub ExtensionTaken : List ℕ → Option (List ℕ) → List ℕ → Type 0
ExtensionTaken s none r = s ≡ r
ExtensionTaken s (some e) r = FieldTaken 5 0 4096 s e r

pub extension-parts : (s : List ℕ) (o : Option (List ℕ)) (r : List ℕ) → extension_field s ≡ taken o r → ExtensionTaken s o r
extension-parts s o r h =
    by_test (tagged 5 s)
    (λ e.
    then-taken (field 5 0 4096 s) (λ extension rest. taken (some extension) rest) (simp e at h)
    (λ a q f k.
    let x : some a ≡ o = cc in
    let y : q ≡ r = cc in
    rw (← x, ← y) (field-parts 5 0 4096 s a q f)))
    (λ e.
    let k : taken none s ≡ taken o r = simp e at h in
    let x : none ≡ o = cc in
    let y : s ≡ r = cc in
    rw (← x) y)

-- a call
pub record CallTaken (s : List ℕ) (c : Connection) (rest : List ℕ) : Type 0 where
  pub clock : List ℕ
  pub name : List ℕ
  pub answers : List ℕ
  pub hash : List ℕ
  pub extension : Option (List ℕ)
  pub s₁ : List ℕ
  pub s₂ : List ℕ
  pub s₃ : List ℕ
  pub s₄ : List ℕ
  pub s₅ : List ℕ
  pub end : List ℕ
  pub first : FieldTaken 1 4 4 s clock s₁
  pub second : FieldTaken 2 0 300 s₁ name s₂
  pub third : FieldTaken 3 2 2 s₂ answers s₃
  pub bits : get_or answers 0 0 < 8
  pub fourth : FieldTaken 4 32 32 s₃ hash s₄
  pub fifth : ExtensionTaken s₄ extension s₅
  pub sixth : FieldTaken 6 0 0 s₅ end rest
  pub call : called clock name answers hash extension ≡ c

pub call-parts : (s : List ℕ) (c : Connection) (rest : List ℕ) → recorded s ≡ taken c rest → CallTaken s c rest
unfolding recorded
call-parts s c rest h =
    then-taken (field 1 4 4 s) _ h (λ clock s₁ e₁ h₁.
    then-taken (field 2 0 300 s₁) _ h₁ (λ name s₂ e₂ h₂.
    then-taken (answers_field s₂) _ h₂ (λ answers s₃ e₃ h₃.
    then-taken (field 4 32 32 s₃) _ h₃ (λ hash s₄ e₄ h₄.
    then-taken (extension_field s₄) _ h₄ (λ extension s₅ e₅ h₅.
    then-taken (field 6 0 0 s₅) _ h₅ (λ end s₆ e₆ h₆.
    let x : called clock name answers hash extension ≡ c = cc in
    let y : s₆ ≡ rest = cc in
    rw (← y) (record {
      clock = clock;
      name = name;
      answers = answers;
      hash = hash;
      extension = extension;
      s₁ = s₁;
      s₂ = s₂;
      s₃ = s₃;
      s₄ = s₄;
      s₅ = s₅;
      end = end;
      first = field-parts 1 4 4 s clock s₁ e₁;
      second = field-parts 2 0 300 s₁ name s₂ e₂;
      third = (answers-parts s₂ answers s₃ e₃).0;
      bits = (answers-parts s₂ answers s₃ e₃).1;
      fourth = field-parts 4 32 32 s₃ hash s₄ e₄;
      fifth = extension-parts s₄ extension s₅ e₅;
      sixth = field-parts 6 0 0 s₅ end s₆ e₆;
      call = x;
    })))))))
