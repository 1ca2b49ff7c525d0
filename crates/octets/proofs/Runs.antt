-- Pieces written one behind the other: one splice of them all.
use mathlib.Core.Path.{◌≡◌, ◌∙◌}
use mathlib.Core.List.{List, ◌++◌}
use Prim.Native.Nat.{ℕ, ◌+◌, ◌≤◌}
use native.Mathlib.Omega.{arith}
use lib.ListN.{length, length-append}
use Rattle.octets.specs.Octets.{put}
use Rattle.octets.proofs.Parts.{put-append}

-- p stands from `at` in what was b and is now, and the next place is `end`
pub record Wrote (b : List ℕ) (at : ℕ) (p now : List ℕ) (end : ℕ) : Type 0 where
  pub place : end ≡ at + length p
  pub bytes : now ≡ put b at p

pub first : {b now : List ℕ} {at n end : ℕ} (s : List ℕ) → length s ≡ n → (end ≡ at + n) × (now ≡ put b at s) → Wrote b at s now end
first s size e = record { place = omega (arith, e.0); bytes = e.1 }

pub step : {b p now next : List ℕ} {at n place end : ℕ} (s : List ℕ) → length s ≡ n → Wrote b at p now place → place + n ≤ length b
    → (end ≡ place + n) × (next ≡ put now place s) → Wrote b at (p ++ s) next end
step {b} {p} {now} {next} {at} {n} {place} {end} s size w room e =
    record {
      place = rw (length-append p s) (omega (arith, w.place, e.0));
      bytes = e.1 ∙ rw (w.bytes, w.place) (put-append b at p s (omega (arith, w.place)));
    }

-- the same of two pieces, as the writers' contracts say it
pub behind : (b : List ℕ) (at : ℕ) (p s : List ℕ) {now next : List ℕ} {n place end : ℕ} → length s ≡ n → at + length p + n ≤ length b
    → (place ≡ at + length p) × (now ≡ put b at p) → (end ≡ place + n) × (next ≡ put now place s)
    → (end ≡ at + length (p ++ s)) × (next ≡ put b at (p ++ s))
behind b at p s size room w e =
    let both = step s size (record { place = w.0; bytes = w.1 }) (omega (arith, w.0)) e in
    (both.place, both.bytes)
