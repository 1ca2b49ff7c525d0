-- What `in_label` answers, by what it finds at the end of the label.
use mathlib.Core.Path.{◌≡◌}
use mathlib.Core.Bool.{true, false, not, ◌&&◌, and-false}
use mathlib.Core.List.{List, ◌∷◌}
use Prim.Native.Nat.{ℕ, suc, ◌+◌, ◌-◌, ◌≤◌, ◌<◌}
use native.Mathlib.Omega.{arith}
use lib.Dec.{eqb, leb}
use lib.ListN.{length, get_or, drop, length-drop}
use lib.Seq.{get_or-drop, drop-drop}
use borrow.Author.Tests.{le-leb, lt-leb, eq-eqb, ne_eqb}
use Rattle.octets.specs.Octets.{all}
use Rattle.octets.proofs.Tests.{and_right}
use Rattle.host_name.specs.Name.{hyphen, letter_or_digit, is_label, between_dots}
use Rattle.host_name.specs.Scan.{name_byte, to_dot, Rest}
use Rattle.host_name.proofs.Steps.{at_byte}
use Rattle.host_name.proofs.Dots.{behind, behind-none, behind-dot}
use Rattle.host_name.proofs.Labels.{first_taken}

module _ {s : List ℕ} {at end : ℕ}
    (pre : Rest s at × (at < 256) × (letter_or_digit (get_or s at 0) ≡ true))
    (found : (end ≤ 256) × (end ≡ at + 1 + length (to_dot (drop (at + 1) s)))) where
  bytes : drop at s ≡ get_or s at 0 ∷ drop (at + 1) s
  bytes = at_byte s at (omega arith)

  answer : all is_label (between_dots (drop at s))
      ≡ ((leb (end - at) 63 && not (eqb (get_or s (end - 1) 0) hyphen)) && all is_label (behind (drop (at + 1) s)))
  answer =
      let n : suc (length (to_dot (drop (at + 1) s))) ≡ end - at = omega arith in
      let l : at + length (to_dot (drop (at + 1) s)) ≡ end - 1 = omega arith in
      let k : all name_byte (drop (at + 1) s) ≡ true = and_right (name_byte (get_or s at 0)) _ (rw bytes at pre.0.only) in
      rw bytes (rw (first_taken (get_or s at 0) (drop (at + 1) s) pre.2 k) (rw (← bytes, get_or-drop, n, l)))

  pub too_long : 63 < end - at → all is_label (between_dots (drop at s)) ≡ false
  too_long h = rw answer (simp (lt-leb (end - at) 63 h))

  pub hyphen-last : get_or s (end - 1) 0 ≡ hyphen → all is_label (between_dots (drop at s)) ≡ false
  hyphen-last h = rw answer (simp (eq-eqb _ _ h, and-false))

  module _ (short : end - at ≤ 63) (last : get_or s (end - 1) 0 ≡ hyphen → ⊥) where
    others : all is_label (between_dots (drop at s)) ≡ all is_label (behind (drop (at + 1) s))
    others = rw answer (simp (le-leb (end - at) 63 short, ne_eqb _ _ last))

    pub last-label : end ≡ 256 → all is_label (between_dots (drop at s)) ≡ true
    last-label h = rw others (rw (behind-none (drop (at + 1) s) (simp length-drop (omega arith))))

    pub next-label : (end ≡ 256 → ⊥) → all is_label (between_dots (drop at s)) ≡ all is_label (between_dots (drop (end + 1) s))
    next-label h =
        let n : length (to_dot (drop (at + 1) s)) < length (drop (at + 1) s) = simp length-drop (omega arith) in
        let k : at + 1 + suc (length (to_dot (drop (at + 1) s))) ≡ end + 1 = omega arith in
        rw others (rw (behind-dot (drop (at + 1) s) n, drop-drop, k))
