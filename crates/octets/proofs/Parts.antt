-- Laws of parts and of what is put in: the splices that every write to a lent area makes.
use mathlib.Core.Path.{◌≡◌, refl, sym, ap, ap₂, ◌∙◌}
use mathlib.Core.List.{List, [], ◌∷◌, ◌++◌, append_assoc, append-nil}
use mathlib.Core.Logic.{⊎_elim}
use Prim.Native.Nat.{ℕ, suc, ◌+◌, ◌-◌, ◌≤◌, ◌<◌}
use native.Mathlib.Nat.{add-zero}
use native.Mathlib.Numerals.{add-one}
use native.Mathlib.Omega.{arith}
use lib.ListN.{drop_of_length-le, length, take, drop, get_or, set, length-append, length-take, length-drop, take-append-drop, get_or-append}
use lib.Seq.{take_all, take-add, drop-drop, take-suc, length-take-le, get_or-take, get_or-drop, get_or-append-add, take_at, drop_at, ext_get_or, set_at, drop-cons, append_snoc, take-append-le, drop-append-le, take-append-add, drop-append-add}
use borrow.Rule.Slice.PartMut.{put_mid}
use Rattle.octets.specs.Octets.{part, put}
use Rattle.octets.proofs.Tests.{below_or}

pub part_length : (b : List ℕ) (at n : ℕ) → at + n ≤ length b → length (part b at n) ≡ n
unfolding part
part_length b at n h = simp (length-take, length-drop) (omega arith)

pub part_at : (b : List ℕ) (at n i : ℕ) → i < n → get_or (part b at n) i 0 ≡ get_or b (at + i) 0
unfolding part
part_at b at n i h = rw (get_or-take, get_or-drop)

-- all of it, and a part in two
pub part-all : (b : List ℕ) (n : ℕ) → length b ≡ n → part b 0 n ≡ b
unfolding part
part-all b n e = take_all n b (omega arith)

pub part-add : (b : List ℕ) (at n m : ℕ) → part b at (n + m) ≡ part b at n ++ part b (at + n) m
unfolding part
part-add b at n m = take-add n m (drop at b) ∙ ap (λ (l : List ℕ). take n (drop at b) ++ take m l) (drop-drop n at b)

-- the n elements from `at`, as `&s[at..end]` lends them
pub part-lent : (s : List ℕ) (at n end : ℕ) → end ≡ at + n → at + n ≤ length s
    → (take (end - at) (drop at s) ≡ part s at n) × (length (take (end - at) (drop at s)) ≡ n)
unfolding part
part-lent s at n end e h =
    let w : end - at ≡ n = omega arith in
    (ap (λ (m : ℕ). take m (drop at s)) w, rw w (part_length s at n h))

-- the first n elements from `at`, as `s[at..]` lends them
pub first-lent : (s : List ℕ) (at n : ℕ) → take n (take (length s - at) (drop at s)) ≡ part s at n
unfolding part
first-lent s at n = ap (take n) (take_all (length s - at) (drop at s) (omega (arith, length-drop at s)))

-- what a write to `s[at..end]` leaves
pub put-lent : (s : List ℕ) (at k : ℕ) (vs : List ℕ) → k ≡ length vs → put_mid at k s vs ≡ put s at vs
unfolding put
put-lent s at k vs e = ap (λ (l : List ℕ). take at s ++ (vs ++ l)) (drop-drop k at s ∙ ap (λ (n : ℕ). drop (at + n) s) e)

pub put-length : (b : List ℕ) (at : ℕ) (vs : List ℕ) → at + length vs ≤ length b → length (put b at vs) ≡ length b
unfolding put
put-length b at vs h = simp (length-append, length-take, length-drop) (omega arith)

-- what stands at an index of b with vs put in: before, in and behind vs
put-before : (b : List ℕ) (at : ℕ) (vs : List ℕ) (i : ℕ) → at ≤ length b → i < at → get_or (put b at vs) i 0 ≡ get_or b i 0
unfolding put
put-before b at vs i h l =
    get_or-append (take at b) (vs ++ drop (at + length vs) b) 0 i (rw (length-take-le at b h) l) ∙ get_or-take at b i 0 l

put-behind : (b : List ℕ) (at : ℕ) (vs : List ℕ) (i : ℕ) → at ≤ length b → get_or (put b at vs) (at + i) 0 ≡ get_or (vs ++ drop (at + length vs) b) i 0
unfolding put
put-behind b at vs i h =
    ap (λ (k : ℕ). get_or (take at b ++ (vs ++ drop (at + length vs) b)) (k + i) 0) (sym (length-take-le at b h))
    ∙ get_or-append-add (take at b) (vs ++ drop (at + length vs) b) i 0

put_in : (b : List ℕ) (at : ℕ) (vs : List ℕ) (i : ℕ) → at ≤ length b → i < length vs → get_or (put b at vs) (at + i) 0 ≡ get_or vs i 0
put_in b at vs i h l = put-behind b at vs i h ∙ get_or-append vs (drop (at + length vs) b) 0 i l

pub put-after : (b : List ℕ) (at : ℕ) (vs : List ℕ) (i : ℕ) → at ≤ length b → at + length vs ≤ i → get_or (put b at vs) i 0 ≡ get_or b i 0
put-after b at vs i h l =
    let j : ℕ = i - (at + length vs) in
    let e : i ≡ at + (length vs + j) = omega arith in
    ap (λ (k : ℕ). get_or (put b at vs) k 0) e
    ∙ put-behind b at vs (length vs + j) h
    ∙ get_or-append-add vs (drop (at + length vs) b) j 0
    ∙ get_or-drop (at + length vs) b j 0
    ∙ ap (λ (k : ℕ). get_or b k 0) (omega arith)

-- the part that was put in
part-put : (b : List ℕ) (at : ℕ) (vs : List ℕ) (n : ℕ) → at ≤ length b → length vs ≡ n → part (put b at vs) at n ≡ vs
unfolding part put
part-put b at vs n h e =
    ap (take n) (drop_at (take at b) (vs ++ drop (at + length vs) b) at (length-take-le at b h)) ∙ take_at vs (drop (at + length vs) b) n e

-- a run of stores
pub put-none : (b : List ℕ) (at : ℕ) → put b at [] ≡ b
unfolding put
put-none b at = ap (λ (k : ℕ). take at b ++ drop k b) (add-zero at) ∙ take-append-drop at b

put-snoc : (b : List ℕ) (at : ℕ) (vs : List ℕ) (v i : ℕ) → length vs ≡ i → at + i < length b → set (put b at vs) (at + i) v ≡ put b at (vs ++ (v ∷ []))
unfolding put
put-snoc b at vs v i e h =
    let k : ℕ = at + length vs in
    let f : at + i ≡ k = omega arith in
    let g : k < length b = omega arith in
    let z : suc k ≡ at + length (vs ++ (v ∷ [])) = rw (length-append vs (v ∷ [])) (omega arith) in
    ap (λ (l : List ℕ). set l (at + i) v) (ap (λ (r : List ℕ). take at b ++ (vs ++ r)) (drop-cons b k 0 g) ∙ sym (append_assoc (take at b) vs (get_or b k 0 ∷ drop (suc k) b)))
    ∙ set_at (take at b ++ vs) (get_or b k 0) (drop (suc k) b) v (at + i) (length-append (take at b) vs ∙ ap (λ (n : ℕ). n + length vs) (length-take-le at b (omega arith)) ∙ sym f)
    ∙ append_assoc (take at b) vs (v ∷ drop (suc k) b)
    ∙ ap (λ (r : List ℕ). take at b ++ r) (sym (append_snoc vs v (drop (suc k) b)) ∙ ap (λ (m : ℕ). (vs ++ (v ∷ [])) ++ drop m b) z)

pub set-put : (b : List ℕ) (at v : ℕ) → at < length b → set b at v ≡ put b at (v ∷ [])
set-put b at v h =
    ap (λ (l : List ℕ). set l at v) (sym (put-none b at))
    ∙ ap (λ (k : ℕ). set (put b at []) k v) (sym (add-zero at)) ∙ put-snoc b at [] v 0 refl (rw add-zero h)

-- a turn of a loop that copies, and of one that clears
pub copy_step : (b : List ℕ) (at : ℕ) (p : List ℕ) (i : ℕ) → i < length p → at + length p ≤ length b → set (put b at (take i p)) (at + i) (get_or p i 0) ≡ put b at (take (i + 1) p)
copy_step b at p i l h =
    put-snoc b at (take i p) (get_or p i 0) i (length-take-le i p (omega arith)) (omega arith)
    ∙ ap (put b at) (sym (take-suc p i 0 l) ∙ ap (λ (k : ℕ). take k p) (sym (add-one i)))

-- a part of a part, and a change of a part put in
pub part-part : (b : List ℕ) (at n i m : ℕ) → at + n ≤ length b → i + m ≤ n → part (part b at n) i m ≡ part b (at + i) m
part-part b at n i m h l =
    let e : length (part b at n) ≡ n = part_length b at n h in
    let p : length (part (part b at n) i m) ≡ m = part_length (part b at n) i m (omega arith) in
    let q : length (part b (at + i) m) ≡ m = part_length b (at + i) m (omega arith) in
    ext_get_or 0 (part (part b at n) i m) (part b (at + i) m) (p ∙ sym q)
    (λ j k. let jm : j < m = omega arith in
    part_at (part b at n) i m j jm ∙ part_at b at n (i + j) (omega arith) ∙ ap (λ (x : ℕ). get_or b x 0) (omega arith) ∙ sym (part_at b (at + i) m j jm))

pub put-nested : (b : List ℕ) (at n i : ℕ) (vs : List ℕ) → at + n ≤ length b → i + length vs ≤ n → put b at (put (part b at n) i vs) ≡ put b (at + i) vs
put-nested b at n i vs h l =
    let e : length (part b at n) ≡ n = part_length b at n h in
    let s : length (put (part b at n) i vs) ≡ length (part b at n) = put-length (part b at n) i vs (omega arith) in
    let p : length (put b at (put (part b at n) i vs)) ≡ length b = put-length b at (put (part b at n) i vs) (omega arith) in
    let q : length (put b (at + i) vs) ≡ length b = put-length b (at + i) vs (omega arith) in
    let x : List ℕ = put (part b at n) i vs in
    let inside : (j : ℕ) → j < n → get_or (put b at (put (part b at n) i vs)) (at + j) 0 ≡ get_or (put (part b at n) i vs) j 0 = λ j k. put_in b at (put (part b at n) i vs) j (omega arith) (omega arith) in
    ext_get_or 0 (put b at (put (part b at n) i vs)) (put b (at + i) vs) (p ∙ sym q)
    (λ j k. ⊎_elim
    (λ (lo : j < at). put-before b at (put (part b at n) i vs) j (omega arith) lo ∙ sym (put-before b (at + i) vs j (omega arith) (omega arith)))
    (λ (ge : at ≤ j).
    let o : ℕ = j - at in
    let je : j ≡ at + o = omega arith in
    rw je (⊎_elim
    (λ (in-n : o < n). inside o in-n ∙ ⊎_elim
    (λ (lo : o < i). put-before (part b at n) i vs o (omega arith) lo ∙ part_at b at n o in-n ∙ sym (put-before b (at + i) vs (at + o) (omega arith) (omega arith)))
    (λ (ge2 : i ≤ o). ⊎_elim
    (λ (mid : o < i + length vs).
    let r : ℕ = o - i in
    let oe : o ≡ i + r = omega arith in
    rw oe (put_in (part b at n) i vs r (omega arith) (omega arith) ∙ sym (put_in b (at + i) vs r (omega arith) (omega arith)) ∙ ap (λ (z : ℕ). get_or (put b (at + i) vs) z 0) (omega arith)))
    (λ (hi : i + length vs ≤ o). put-after (part b at n) i vs o (omega arith) hi ∙ part_at b at n o in-n ∙ sym (put-after b (at + i) vs (at + o) (omega arith) (omega arith)))
    (below_or o (i + length vs)))
    (below_or o i))
    (λ (out : n ≤ o). put-after b at (put (part b at n) i vs) (at + o) (omega arith) (omega arith) ∙ sym (put-after b (at + i) vs (at + o) (omega arith) (omega arith)))
    (below_or o n)))
    (below_or j at))

-- of a part that is known
pub put-in-part : (b s : List ℕ) (at n i : ℕ) (vs : List ℕ) → part b at n ≡ s → at + n ≤ length b → i + length vs ≤ n
    → put b (at + i) vs ≡ put b at (put s i vs)
put-in-part b s at n i vs e h l = sym (put-nested b at n i vs h l) ∙ ap (λ (r : List ℕ). put b at (put r i vs)) e

-- what is put in last stays
put-put : (b : List ℕ) (at : ℕ) (s r : List ℕ) → at + length s ≤ length b → length s ≡ length r → put (put b at s) at r ≡ put b at r
unfolding put
put-put b at s r h e =
    let la : length (take at b) ≡ at = length-take-le at b (omega arith) in
    ap (λ (l : List ℕ). l ++ (r ++ drop (at + length r) (take at b ++ (s ++ drop (at + length s) b)))) (take_at (take at b) (s ++ drop (at + length s) b) at la)
    ∙ ap (λ (l : List ℕ). take at b ++ (r ++ l))
    (sym (drop-drop (length r) at (take at b ++ (s ++ drop (at + length s) b)))
    ∙ ap (drop (length r)) (drop_at (take at b) (s ++ drop (at + length s) b) at la)
    ∙ drop_at s (drop (at + length s) b) (length r) e
    ∙ ap (λ (m : ℕ). drop (at + m) b) e)

-- a change inside what was put in
put-inside : (b : List ℕ) (at : ℕ) (s : List ℕ) (i : ℕ) (vs : List ℕ) → at + length s ≤ length b → i + length vs ≤ length s → put (put b at s) (at + i) vs ≡ put b at (put s i vs)
put-inside b at s i vs h l =
    let e : length (put b at s) ≡ length b = put-length b at s h in
    let f : part (put b at s) at (length s) ≡ s = part-put b at s (length s) (omega arith) refl in
    sym (put-nested (put b at s) at (length s) i vs (omega arith) l) ∙ rw f (put-put b at s (put s i vs) h (sym (put-length s i vs l)))

pub set-inside : (b : List ℕ) (at : ℕ) (s : List ℕ) (i v : ℕ) → at + length s ≤ length b → i < length s → set (put b at s) (at + i) v ≡ put b at (set s i v)
set-inside b at s i v h l =
    let e : length (put b at s) ≡ length b = put-length b at s h in
    set-put (put b at s) (at + i) v (omega arith) ∙ put-inside b at s i (v ∷ []) h (rw add-one l) ∙ ap (put b at) (sym (set-put s i v l))

-- all of it
pub put_all : (b vs : List ℕ) → length b ≡ length vs → put b 0 vs ≡ vs
unfolding put
put_all b vs e = ap (λ (l : List ℕ). vs ++ l) (drop_of_length-le b {i = 0 + length vs} (omega arith)) ∙ append-nil vs

-- one splice behind another is one splice
pub put-append : (b : List ℕ) (at : ℕ) (xs ys : List ℕ) → at + length xs + length ys ≤ length b → put (put b at xs) (at + length xs) ys ≡ put b at (xs ++ ys)
unfolding put
put-append b at xs ys h =
    let la : length (take at b) ≡ at = length-take-le at b (omega arith) in
    let lp : length (take at b ++ xs) ≡ at + length xs = length-append (take at b) xs ∙ ap (λ (n : ℕ). n + length xs) la in
    let r : List ℕ = drop (at + length xs) b in
    let e : take at b ++ (xs ++ r) ≡ (take at b ++ xs) ++ r = sym (append_assoc (take at b) xs r) in
    let n : at + (length xs + length ys) ≡ at + length xs + length ys = omega arith in
    ap (λ (l : List ℕ). take (at + length xs) l ++ (ys ++ drop (at + length xs + length ys) l)) e
    ∙ ap (λ (l : List ℕ). l ++ (ys ++ drop (at + length xs + length ys) ((take at b ++ xs) ++ r))) (take_at (take at b ++ xs) r (at + length xs) lp)
    ∙ ap (λ (l : List ℕ). (take at b ++ xs) ++ (ys ++ l))
    (sym (drop-drop (length ys) (at + length xs) ((take at b ++ xs) ++ r))
    ∙ ap (drop (length ys)) (drop_at (take at b ++ xs) r (at + length xs) lp)
    ∙ drop-drop (length ys) (at + length xs) b)
    ∙ append_assoc (take at b) xs (ys ++ drop (at + length xs + length ys) b)
    ∙ ap (λ (l : List ℕ). take at b ++ l) (sym (append_assoc xs ys (drop (at + length xs + length ys) b)))
    ∙ ap (λ (k : ℕ). take at b ++ ((xs ++ ys) ++ drop k b)) (sym (ap (λ (k : ℕ). at + k) (length-append xs ys) ∙ n))

-- a part of two lists, and what is put into them
pub part_left : (xs ys : List ℕ) (at n : ℕ) → at + n ≤ length xs → part (xs ++ ys) at n ≡ part xs at n
unfolding part
part_left xs ys at n h =
    ap (take n) (drop-append-le at xs ys (omega arith)) ∙ take-append-le n (drop at xs) ys (rw (length-drop at xs) (omega arith))

pub part_right : (xs ys : List ℕ) (at n m : ℕ) → length xs ≡ m → part (xs ++ ys) (m + at) n ≡ part ys at n
unfolding part
part_right xs ys at n m e = rw (← e) (ap (take n) (drop-append-add xs ys at))

pub put-left : (xs ys vs : List ℕ) (at : ℕ) → at + length vs ≤ length xs → put (xs ++ ys) at vs ≡ put xs at vs ++ ys
unfolding put
put-left xs ys vs at h =
    ap₂ (λ (a b : List ℕ). a ++ (vs ++ b)) (take-append-le at xs ys (omega arith)) (drop-append-le (at + length vs) xs ys h)
    ∙ ap (λ (l : List ℕ). take at xs ++ l) (sym (append_assoc vs (drop (at + length vs) xs) ys))
    ∙ sym (append_assoc (take at xs) (vs ++ drop (at + length vs) xs) ys)

pub put_right : (xs ys vs : List ℕ) (at m : ℕ) → length xs ≡ m → put (xs ++ ys) (m + at) vs ≡ xs ++ put ys at vs
unfolding put
put_right xs ys vs at m e =
    let s : length xs + at + length vs ≡ length xs + (at + length vs) = omega arith in
    rw (← e)
    (ap₂ (λ (a b : List ℕ). a ++ (vs ++ b)) (take-append-add xs ys at)
    (ap (λ (n : ℕ). drop n (xs ++ ys)) s ∙ drop-append-add xs ys (at + length vs))
    ∙ append_assoc xs (take at ys) (vs ++ drop (at + length vs) ys))
