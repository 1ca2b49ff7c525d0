-- Reading and writing a recorded call are each other's inverse.
use mathlib.Core.Path.{◌≡◌, refl, sym, ap, ap₂, ◌∙◌}
use mathlib.Core.Bool.{Bool, true, false, cond}
use mathlib.Core.List.{List, [], ◌∷◌, ◌++◌, append_assoc}
use mathlib.Core.Option.{Option, none, some}
use Prim.Native.Nat.{ℕ, zero, suc, ◌*◌, ◌/◌, ◌%◌, ◌≤◌, ◌<◌}
use native.Mathlib.Nat.{div-add-mod, div-div-eq-div-mul, mod-eq_of_lt}
use native.Mathlib.Omega.{arith}
use lib.Dec.{ltb, eqb}
use lib.ListN.{length, get_or, length-append}
use lib.Seq.{take_all, take-append_seam, drop-append_seam}
use borrow.Author.Tests.{le-leb, eq-eqb}
use Rattle.octets.specs.Octets.{Bytes, part, number, big_endian}
use Rattle.octets.proofs.Numbers.{bytes-front, bytes-behind, number-big_endian, big_endian-number, big_endian-two, big_endian-length, number-four}
use Rattle.host_name.specs.Folding.{folded_name}
use Rattle.pin_model.specs.declared.Checks.{Checks}
use Rattle.pin_model.specs.Connection.{Connection, connection, checks_by, parts_of, tack_shown, enabled, may_record, breaks_shown, broken_keys}
use Rattle.pin_model.specs.Judge.{judged, no_room, verdict}
use Rattle.pin_model.specs.Disabled.{choosing, with_choice}
use Rattle.pin_model.specs.Calls.{judge, refusal, answer, area_after, answered, area_left}
use Rattle.recorded_call.specs.RecordedCall.{Front, taken, and_then, field, answers_field, extension_field, checks_of, called, recorded, field_bytes, answer_byte, extension_bytes, call_bytes, recordable}
use Rattle.recorded_call.proofs.Bytes.{field-length, sizes}
use Rattle.recorded_call.proofs.Taken.{FieldTaken, ExtensionTaken, call-parts}

-- one field written and read back
field_at : (tag least most h l : ℕ) (v rest : List ℕ) → number (h ∷ l ∷ []) ≡ length v → least ≤ length v → length v ≤ most
    → field tag least most (tag ∷ h ∷ l ∷ (v ++ rest)) ≡ taken v rest
unfolding field
field_at tag least most h l v rest m above below =
    let fits : length v ≤ length (v ++ rest) = omega (arith, length-append v rest) in
    rw m (simp (eq-eqb tag tag refl, le-leb least (length v) above, le-leb (length v) most below, le-leb (length v) (length (v ++ rest)) fits)
    (rw (take-append_seam, drop-append_seam)))

field_back : (tag least most : ℕ) (v rest : List ℕ) → least ≤ length v → length v ≤ most → most < 65536
    → field tag least most (field_bytes tag v ++ rest) ≡ taken v rest
field_back tag least most v rest above below small =
    let d = big_endian-two (length v) in
    let m = ap number (sym d) ∙ number-big_endian 2 (length v) (omega arith) in
    ap (λ (l : List ℕ). field tag least most (tag ∷ ((l ++ v) ++ rest))) d
    ∙ field_at tag least most (length v / 256 % 256) (length v % 256) v rest m above below

-- the answers, as two bytes and back
abbrev answers_of : Checks → List ℕ
answers_of checks = answer_byte checks ∷ checks.breaks_correct ∷ []

bits_back : (finished point correct : Bool) (bits : ℕ)
    → (checks_of (answers_of (checks_by finished point correct bits true)) ≡ checks_by finished point correct bits true)
    × (ltb (answer_byte (checks_by finished point correct bits true)) 8 ≡ true)
bits_back true true true bits = (refl, refl)
bits_back true true false bits = (refl, refl)
bits_back true false true bits = (refl, refl)
bits_back true false false bits = (refl, refl)
bits_back false true true bits = (refl, refl)
bits_back false true false bits = (refl, refl)
bits_back false false true bits = (refl, refl)
bits_back false false false bits = (refl, refl)

-- a recording keeps every answer but the choice of document 02, Q-7: there it is a yes
checks-back : (checks : Checks) → (checks_of (answers_of checks) ≡ choosing true checks) × (ltb (answer_byte checks) 8 ≡ true)
checks-back checks = bits_back checks.handshake_finished checks.key_is_point checks.signature_correct checks.breaks_correct

-- what comes second, once what comes first is taken
then-back : {A B : Type 0} (x : Front A) (next : A → List ℕ → Front B) {a : A} {r : List ℕ} {y : Front B} → x ≡ taken a r
    → next a r ≡ y → and_then x next ≡ y
then-back x next e f = rw e f

answers-back : (checks : Checks) (rest : List ℕ) → answers_field (field_bytes 3 (answers_of checks) ++ rest) ≡ taken (answers_of checks) rest
answers-back checks rest =
    then-back (field 3 2 2 (field_bytes 3 (answers_of checks) ++ rest)) _
    (field_back 3 2 2 (answers_of checks) rest (omega arith) (omega arith) (omega arith))
    (simp (checks-back checks).1)

-- an extension that came, or its absence in front of the end
abbrev sent : Bool → List ℕ → Option (List ℕ)
sent came extension = cond came (some extension) none

extension-back : (came : Bool) (e rest : List ℕ) → length (extension_bytes came e) ≤ 4099
    → extension_field (extension_bytes came e ++ (field_bytes 6 [] ++ rest)) ≡ taken (sent came e) (field_bytes 6 [] ++ rest)
extension-back true e rest h =
    let r : List ℕ = field_bytes 6 [] ++ rest in
    then-back (field 5 0 4096 (field_bytes 5 e ++ r)) _
    (field_back 5 0 4096 e r (omega arith) (omega (arith, field-length 5 e)) (omega arith)) refl
extension-back false e rest h = refl

-- the connection as a recording tells it: 'If no extension came, its bytes are ignored'
abbrev pub as_recorded : Connection → Connection
as_recorded c =
    connection c.clock c.name c.extension_came (cond c.extension_came c.extension []) c.hash (choosing true c.checks)

called-recorded : (clock name answers hash : List ℕ) (came : Bool) (e : List ℕ)
    → called clock name answers hash (sent came e)
    ≡ connection (number clock) name came (cond came e []) hash (checks_of answers)
called-recorded clock name answers hash true e = refl
called-recorded clock name answers hash false e = refl

-- the six fields, and what stands behind them
abbrev six : List ℕ → List ℕ → List ℕ → List ℕ → List ℕ → List ℕ
six clock name answers hash extension =
    field_bytes 1 clock ++ (field_bytes 2 name ++ (field_bytes 3 answers ++ (field_bytes 4 hash ++ (extension ++ field_bytes 6 []))))

regroup : (a b c d e f rest : List ℕ) → (a ++ (b ++ (c ++ (d ++ (e ++ f))))) ++ rest ≡ a ++ (b ++ (c ++ (d ++ (e ++ (f ++ rest)))))
regroup a b c d e f rest = simp append_assoc

six-behind : (clock name answers hash extension rest : List ℕ)
    → six clock name answers hash extension ++ rest
    ≡ field_bytes 1 clock ++ (field_bytes 2 name ++ (field_bytes 3 answers ++ (field_bytes 4 hash ++ (extension ++ (field_bytes 6 [] ++ rest)))))
six-behind clock name answers hash extension rest =
    regroup (field_bytes 1 clock) (field_bytes 2 name) (field_bytes 3 answers) (field_bytes 4 hash) extension (field_bytes 6 []) rest

-- whatever can be recorded reads back, in front of any bytes
pub reads-back : (c : Connection) (rest : List ℕ) → recordable c ≡ true → recorded (call_bytes c ++ rest) ≡ taken (as_recorded c) rest
unfolding recorded call_bytes
reads-back c rest h =
    let w = sizes c h in
    let clock : List ℕ = big_endian 4 c.clock in
    let answers : List ℕ = answers_of c.checks in
    let extension : List ℕ = extension_bytes c.extension_came c.extension in
    let s₅ : List ℕ = field_bytes 6 [] ++ rest in
    let s₄ : List ℕ = extension ++ s₅ in
    let s₃ : List ℕ = field_bytes 4 c.hash ++ s₄ in
    let s₂ : List ℕ = field_bytes 3 answers ++ s₃ in
    let s₁ : List ℕ = field_bytes 2 c.name ++ s₂ in
    let four = big_endian-length 4 c.clock in
    let same = number-big_endian 4 c.clock (omega (arith, w.clock)) in
    ap recorded (six-behind clock c.name answers c.hash extension rest)
    ∙ then-back (field 1 4 4 (field_bytes 1 clock ++ s₁)) _ (field_back 1 4 4 clock s₁ (omega arith) (omega arith) (omega arith))
    (then-back (field 2 0 300 s₁) _ (field_back 2 0 300 c.name s₂ (omega arith) w.name (omega arith))
    (then-back (answers_field s₂) _ (answers-back c.checks s₃)
    (then-back (field 4 32 32 s₃) _ (field_back 4 32 32 c.hash s₄ (omega (arith, w.hash)) (omega (arith, w.hash)) (omega arith))
    (then-back (extension_field s₄) _ (extension-back c.extension_came c.extension rest w.extension)
    (then-back (field 6 0 0 s₅) _ (field_back 6 0 0 [] rest (omega arith) (omega arith) (omega arith))
    (ap (λ (k : Connection). taken k rest)
    (called-recorded clock c.name answers c.hash c.extension_came c.extension ∙ rw (same, (checks-back c.checks).0) refl)))))))

-- what is recorded is judged as the connection itself would be with the yes: an extension that did not come has no parts, whatever its
-- bytes
recorded-by : (clock : ℕ) (name : List ℕ) (came : Bool) (extension hash : List ℕ) (checks : Checks) (area : List ℕ)
    → let c = connection clock name came extension hash (choosing true checks) in
    (answer (judge (as_recorded c)) area ≡ answer (judge c) area) × (area_after (judge (as_recorded c)) area ≡ area_after (judge c) area)
unfolding answer area_after refusal judged no_room verdict tack_shown enabled may_record breaks_shown broken_keys parts_of
recorded-by clock name true extension hash checks area = (refl, refl)
recorded-by clock name false extension hash checks area = (refl, refl)

pub recorded-same : (c : Connection) (area : List ℕ)
    → (answered (judge (as_recorded c)) area ≡ answered (judge (with_choice true c)) area)
    × (area_left (judge (as_recorded c)) area ≡ area_left (judge (with_choice true c)) area)
unfolding answered area_left
recorded-same c area =
    recorded-by c.clock (folded_name c.name) c.extension_came c.extension c.hash c.checks area

-- one field read and written back; its value and what is behind it are bytes again
pub record FieldBytes (tag least most : ℕ) (s v r : List ℕ) : Type 0 where
  pub bytes : s ≡ field_bytes tag v ++ r
  pub lower : least ≤ length v
  pub upper : length v ≤ most
  pub value : Bytes v
  pub behind : Bytes r

field-bytes : (tag least most : ℕ) (s v r : List ℕ) → Bytes s → FieldTaken tag least most s v r → FieldBytes tag least most s v r
field-bytes tag least most s v r byte f =
    let all : Bytes (tag ∷ f.high ∷ f.low ∷ (v ++ r)) = rw f.bytes at byte in
    let two : List ℕ = f.high ∷ f.low ∷ [] in
    let tail = bytes-behind (tag ∷ two) (v ++ r) all in
    let digits : big_endian 2 (length v) ≡ two =
    ap (big_endian 2) (sym f.size) ∙ big_endian-number two (bytes-front two (v ++ r) (bytes-behind (tag ∷ []) (two ++ (v ++ r)) all)) in
    record {
      bytes = rw (digits, f.bytes) refl;
      lower = f.lower;
      upper = f.upper;
      value = bytes-front v r tail;
      behind = bytes-behind v r tail;
    }

-- the clock, the answers and the extension written back
clock-small : (b : List ℕ) → length b ≡ 4 → Bytes b → number b ≤ 4294967295
unfolding part
clock-small b size byte =
    let all : part b 0 4 ≡ b = take_all 4 b (omega arith) in
    let e = number-four b 0 (omega arith) refl refl refl refl ∙ ap number all in
    omega (arith, e, byte 0, byte 1, byte 2, byte 3)

clock-bytes : (b : List ℕ) → length b ≡ 4 → Bytes b → big_endian 4 (number b) ≡ b
clock-bytes b size byte = rw (← size) (big_endian-number b byte)

bit : (n value : ℕ) → n < 2 → cond (eqb n 1) value 0 ≡ value * n
bit zero value h = omega arith
bit (suc zero) value h = omega arith
bit (suc (suc n)) value h = absurd (omega arith)

answers-bytes : (a : List ℕ) → length a ≡ 2 → get_or a 0 0 < 8 → answers_of (checks_of a) ≡ a
answers-bytes [] size h = absurd (omega arith)
answers-bytes (x ∷ []) size h = absurd (omega arith)
answers-bytes (x ∷ y ∷ z ∷ s) size h = absurd (omega arith)
answers-bytes (x ∷ y ∷ []) size h =
    let b₀ = bit (x / 1 % 2) 1 (omega arith) in
    let b₁ = bit (x / 2 % 2) 2 (omega arith) in
    let b₂ = bit (x / 4 % 2) 4 (omega arith) in
    let four : x / 2 / 2 ≡ x / 4 = div-div-eq-div-mul x 2 2 in
    let high : x / 4 % 2 ≡ x / 4 = mod-eq_of_lt (omega arith) in
    let e : answer_byte (checks_of (x ∷ y ∷ [])) ≡ x =
    omega (arith, div-add-mod x 2, div-add-mod (x / 2) 2) in
    rw e refl

abbrev sent_bytes : Option (List ℕ) → List ℕ
sent_bytes none = []
sent_bytes (some e) = field_bytes 5 e

extension-bytes : (s : List ℕ) (o : Option (List ℕ)) (r : List ℕ) → Bytes s → ExtensionTaken s o r → (s ≡ sent_bytes o ++ r) × Bytes r
extension-bytes s none r byte e = (e, rw e at byte)
extension-bytes s (some v) r byte f = let w = field-bytes 5 0 4096 s v r byte f in (w.bytes, w.behind)

module _ (clock name answers hash : List ℕ) where
  called-bytes : (o : Option (List ℕ)) → big_endian 4 (number clock) ≡ clock
      → answers_of (checks_of answers) ≡ answers
      → call_bytes (called clock name answers hash o) ≡ six clock name answers hash (sent_bytes o)
  unfolding call_bytes
  called-bytes none e f = ap₂ (λ (k a : List ℕ). six k name a hash []) e f
  called-bytes (some v) e f = ap₂ (λ (k a : List ℕ). six k name a hash (field_bytes 5 v)) e f

  called-recordable : (s : List ℕ) (o : Option (List ℕ)) (r : List ℕ) → number clock ≤ 4294967295 → length name ≤ 300
      → length hash ≡ 32 → ExtensionTaken s o r → recordable (called clock name answers hash o) ≡ true
  unfolding recordable
  called-recordable s none r h n k e =
      simp (le-leb (number clock) 4294967295 h, le-leb (length name) 300 n, eq-eqb (length hash) 32 k)
  called-recordable s (some v) r h n k f =
      simp (le-leb (number clock) 4294967295 h, le-leb (length name) 300 n, eq-eqb (length hash) 32 k, le-leb (length v) 4096 f.upper)

-- what is taken is what the writer writes, and it can be recorded
both-back : (s rest : List ℕ) (c : Connection) → Bytes s → recorded s ≡ taken c rest → (s ≡ call_bytes c ++ rest) × (recordable c ≡ true)
both-back s rest c byte h =
    let w = call-parts s c rest h in
    let f₁ = field-bytes 1 4 4 s w.clock w.s₁ byte w.first in
    let f₂ = field-bytes 2 0 300 w.s₁ w.name w.s₂ f₁.behind w.second in
    let f₃ = field-bytes 3 2 2 w.s₂ w.answers w.s₃ f₂.behind w.third in
    let f₄ = field-bytes 4 32 32 w.s₃ w.hash w.s₄ f₃.behind w.fourth in
    let f₅ = extension-bytes w.s₄ w.extension w.s₅ f₄.behind w.fifth in
    let f₆ = field-bytes 6 0 0 w.s₅ w.end rest f₅.1 w.sixth in
    let four : length w.clock ≡ 4 = omega (arith, f₁.lower, f₁.upper) in
    let two : length w.answers ≡ 2 = omega (arith, f₃.lower, f₃.upper) in
    let hash : length w.hash ≡ 32 = omega (arith, f₄.lower, f₄.upper) in
    let none : w.end ≡ [] = sym (take_all 0 w.end f₆.upper) in
    let written = called-bytes w.clock w.name w.answers w.hash w.extension
    (clock-bytes w.clock four f₁.value) (answers-bytes w.answers two w.bits) in (
      f₁.bytes ∙ rw (f₂.bytes, f₃.bytes, f₄.bytes, f₅.0, f₆.bytes, none)
          (sym (ap (λ (k : Connection). call_bytes k ++ rest) (sym w.call) ∙ ap (λ (l : List ℕ). l ++ rest) written
          ∙ six-behind w.clock w.name w.answers w.hash (sent_bytes w.extension) rest)),
      ap recordable (sym w.call)
          ∙ called-recordable w.clock w.name w.answers w.hash w.s₄ w.extension w.s₅
          (clock-small w.clock four f₁.value) f₂.upper hash w.fifth,
    )

pub writes-back : (s rest : List ℕ) (c : Connection) → Bytes s → recorded s ≡ taken c rest → s ≡ call_bytes c ++ rest
writes-back s rest c byte h = (both-back s rest c byte h).0

pub taken-recordable : (s rest : List ℕ) (c : Connection) → Bytes s → recorded s ≡ taken c rest → recordable c ≡ true
taken-recordable s rest c byte h = (both-back s rest c byte h).1
