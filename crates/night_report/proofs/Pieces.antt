-- Pieces written one behind another are one splice, as the writers' contracts say it.
use mathlib.Core.Path.{◌≡◌, refl}
use mathlib.Core.List.{List, ◌++◌}
use Prim.Native.Nat.{ℕ, ◌+◌, ◌≤◌}
use native.Mathlib.Omega.{arith}
use lib.ListN.{length, length-append}
use Rattle.octets.specs.Octets.{put}
use Rattle.octets.proofs.Runs as runs

-- p stands from `at` in what was b and is now, and the next place is `end`
abbrev pub Wrote : List ℕ → ℕ → List ℕ → List ℕ → ℕ → Type 0
Wrote b at p now end = (end ≡ at + length p) × (now ≡ put b at p)

pub behind : (b : List ℕ) (at : ℕ) (p s : List ℕ) {now next : List ℕ} {place end : ℕ} → at + length (p ++ s) ≤ length b
    → Wrote b at p now place → Wrote now place s next end → Wrote b at (p ++ s) next end
behind b at p s room w e = runs.behind b at p s refl (omega (arith, length-append p s)) w e

pub four-behind : (b : List ℕ) (at : ℕ) (p q r s : List ℕ) {now₁ now₂ now₃ now₄ : List ℕ} {at₁ at₂ at₃ at₄ : ℕ}
    → at + length (((p ++ q) ++ r) ++ s) ≤ length b
    → Wrote b at p now₁ at₁ → Wrote now₁ at₁ q now₂ at₂ → Wrote now₂ at₂ r now₃ at₃ → Wrote now₃ at₃ s now₄ at₄
    → Wrote b at (((p ++ q) ++ r) ++ s) now₄ at₄
four-behind b at p q r s room w₁ w₂ w₃ w₄ =
    let three = length-append ((p ++ q) ++ r) s in
    let two = length-append (p ++ q) r in
    behind b at ((p ++ q) ++ r) s room (behind b at (p ++ q) r (omega arith) (behind b at p q (omega arith) w₁ w₂) w₃) w₄
