-- Big-endian numbers of every width: written and read back, read and written back.
use mathlib.Core.Path.{◌≡◌, refl, sym, ap, ◌∙◌}
use mathlib.Core.List.{List, [], ◌∷◌, ◌++◌, append_assoc, append-nil}
use Prim.Native.Nat.{ℕ, zero, suc, ◌+◌, ◌-◌, ◌*◌, ◌/◌, ◌%◌, ◌^◌, ◌≤◌, ◌<◌}
use native.Mathlib.Nat.{pow-suc, div-add-mod, div-lt_iff_lt-mul, div-div-eq-div-mul, add-zero}
use native.Mathlib.Omega.{arith}
use lib.ListN.{length, take, drop, get_or, length-append, take-append-drop}
use lib.Seq.{drop-cons}
use native.Mathlib.Numerals.{add-one}
use borrow.Rule.Slice.PartMut.{put_mid}
use Rattle.std.specs.Int.{w16, w32, from_be_bytes, to_be_bytes}
use Rattle.octets.specs.Octets.{Bytes, part, big_endian, number, number_after}

-- what stands in front of bytes, what stands behind, and a part
pub bytes-front : (p r : List ℕ) → Bytes (p ++ r) → Bytes p
bytes-front [] r h i = omega arith
bytes-front (x ∷ p) r h zero = h 0
bytes-front (x ∷ p) r h (suc i) = bytes-front p r (λ j. h (suc j)) i

pub bytes-behind : (p r : List ℕ) → Bytes (p ++ r) → Bytes r
bytes-behind [] r h = h
bytes-behind (x ∷ p) r h = bytes-behind p r (λ j. h (suc j))

pub bytes-part : (b : List ℕ) (at n : ℕ) → Bytes b → Bytes (part b at n)
unfolding part
bytes-part b at n h =
    bytes-front (take n (drop at b)) (drop n (drop at b))
    (rw take-append-drop (bytes-behind (take at b) (drop at b) (rw take-append-drop h)))

pub big_endian-length : (w v : ℕ) → length (big_endian w v) ≡ w
unfolding big_endian
big_endian-length zero v = refl
big_endian-length (suc w) v = length-append (big_endian w (v / 256)) (v % 256 ∷ []) ∙ ap (λ (k : ℕ). k + 1) (big_endian-length w (v / 256)) ∙ add-one w

-- one byte more, behind the others
number-snoc : (bs : List ℕ) (b n : ℕ) → number_after n (bs ++ (b ∷ [])) ≡ 256 * number_after n bs + b
unfolding number_after
number-snoc [] b n = refl
number-snoc (x ∷ bs) b n = number-snoc bs b (256 * n + x)

pub number-big_endian : (w v : ℕ) → v < 256 ^ w → number (big_endian w v) ≡ v
unfolding number big_endian number_after
number-big_endian zero v h = omega arith
number-big_endian (suc w) v h =
    let less : v < 256 ^ w * 256 = rw pow-suc at h in
    number-snoc (big_endian w (v / 256)) (v % 256) 0
    ∙ ap (λ (k : ℕ). 256 * k + v % 256) (number-big_endian w (v / 256) ((div-lt_iff_lt-mul (omega arith)).1 less))
    ∙ div-add-mod v 256

digits : (n b : ℕ) → b < 256 → ((256 * n + b) / 256 ≡ n) × ((256 * n + b) % 256 ≡ b)
digits n b h = (omega arith, omega arith)

big_endian-after : (bs : List ℕ) (w n : ℕ) → Bytes bs → big_endian (w + length bs) (number_after n bs) ≡ big_endian w n ++ bs
unfolding big_endian number_after
big_endian-after [] w n h = ap (λ (k : ℕ). big_endian k n) (add-zero w) ∙ sym (append-nil (big_endian w n))
big_endian-after (b ∷ bs) w n h =
    let e : w + suc (length bs) ≡ suc w + length bs = omega arith in
    let d : ((256 * n + b) / 256 ≡ n) × ((256 * n + b) % 256 ≡ b) = digits n b (h 0) in
    ap (λ (k : ℕ). big_endian k (number_after (256 * n + b) bs)) e
    ∙ big_endian-after bs (suc w) (256 * n + b) (λ i. h (suc i))
    ∙ rw (d.0, d.1) (append_assoc (big_endian w n) (b ∷ []) bs)

pub big_endian-number : (bs : List ℕ) → Bytes bs → big_endian (length bs) (number bs) ≡ bs
unfolding number big_endian
big_endian-number bs h =
    let e : length bs ≡ 0 + length bs = omega arith in
    ap (λ (k : ℕ). big_endian k (number_after 0 bs)) e ∙ big_endian-after bs 0 0 h

-- the number of a part, byte by byte
number_step : (b : List ℕ) (at n w : ℕ) → at < length b → number_after n (part b at (suc w)) ≡ number_after (256 * n + get_or b at 0) (part b (at + 1) w)
unfolding number_after part
number_step b at n w h =
    ap (λ (l : List ℕ). number_after n (take (suc w) l)) (drop-cons b at 0 h)
    ∙ ap (λ (k : ℕ). number_after (256 * n + get_or b at 0) (take w (drop k b))) (sym (add-one at))

number-end : (b : List ℕ) (at n : ℕ) → number_after n (part b at 0) ≡ n
unfolding number_after part
number-end b at n = refl

pub number-four : (b : List ℕ) (at : ℕ) {x y z w : ℕ} → at + 4 ≤ length b
    → x ≡ get_or b at 0 → y ≡ get_or b (at + 1) 0 → z ≡ get_or b (at + 2) 0 → w ≡ get_or b (at + 3) 0
    → 256 * (256 * (256 * x + y) + z) + w ≡ number (part b at 4)
unfolding number
number-four b at {x} {y} {z} {w} fits ex ey ez ew =
    let two : at + 1 + 1 ≡ at + 2 = omega arith in
    let three : at + 2 + 1 ≡ at + 3 = omega arith in
    let n₁ : ℕ = 256 * 0 + get_or b at 0 in
    let n₂ : ℕ = 256 * n₁ + get_or b (at + 1) 0 in
    let n₃ : ℕ = 256 * n₂ + get_or b (at + 1 + 1) 0 in
    let e : 256 * (256 * (256 * x + y) + z) + w ≡ 256 * n₃ + get_or b (at + 1 + 1 + 1) 0 = rw (two, three) (omega arith) in
    e
    ∙ sym
    (number_step b at 0 3 (omega arith)
    ∙ number_step b (at + 1) n₁ 2 (omega arith)
    ∙ number_step b (at + 1 + 1) n₂ 1 (omega arith)
    ∙ number_step b (at + 1 + 1 + 1) n₃ 0 (omega arith)
    ∙ number-end b (at + 1 + 1 + 1 + 1) _)

-- two and four bytes written out
pub big_endian-two : (v : ℕ) → big_endian 2 v ≡ v / 256 % 256 ∷ v % 256 ∷ []
unfolding big_endian
big_endian-two v = refl

pub big_endian-four : (v : ℕ) → big_endian 4 v ≡ v / 16777216 % 256 ∷ v / 65536 % 256 ∷ v / 256 % 256 ∷ v % 256 ∷ []
unfolding big_endian
big_endian-four v =
    let two : v / 256 / 256 ≡ v / 65536 = div-div-eq-div-mul v 256 256 in
    let three : v / 65536 / 256 ≡ v / 16777216 = div-div-eq-div-mul v 65536 256 in
    rw (two, three)

-- up to four bytes at the end of an array of zeros, as `from_be_bytes` reads it
pub read-number : (p : List ℕ) → length p ≤ 4 → from_be_bytes w32 (put_mid (4 - length p) (4 - (4 - length p)) (0 ∷ 0 ∷ 0 ∷ 0 ∷ []) p) ≡ number p
unfolding number number_after
read-number [] h = refl
read-number (a ∷ []) h = omega arith
read-number (a ∷ b ∷ []) h = omega arith
read-number (a ∷ b ∷ c ∷ []) h = omega arith
read-number (a ∷ b ∷ c ∷ d ∷ []) h = omega arith
read-number (a ∷ b ∷ c ∷ d ∷ e ∷ p) h = absurd (omega arith)

-- the last of the four bytes that `to_be_bytes` gives
pub last-bytes : (w v : ℕ) → w ≤ 4 → take (4 - (4 - w)) (drop (4 - w) (to_be_bytes w32 v)) ≡ big_endian w v
unfolding big_endian
last-bytes zero v h = refl
last-bytes (suc zero) v h = refl
last-bytes (suc (suc zero)) v h = refl
last-bytes (suc (suc (suc zero))) v h = let two : v / 256 / 256 ≡ v / 65536 = div-div-eq-div-mul v 256 256 in rw two
last-bytes (suc (suc (suc (suc zero)))) v h = sym (big_endian-four v)
last-bytes (suc (suc (suc (suc (suc w))))) v h = absurd (omega arith)

-- two bytes as `from_be_bytes` reads them
pub read-two : (p : List ℕ) → length p ≡ 2 → from_be_bytes w16 p ≡ number p
unfolding number number_after
read-two [] h = absurd (omega arith)
read-two (a ∷ []) h = absurd (omega arith)
read-two (a ∷ b ∷ []) h = omega arith
read-two (a ∷ b ∷ c ∷ p) h = absurd (omega arith)
