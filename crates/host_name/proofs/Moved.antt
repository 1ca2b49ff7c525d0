-- A name that was copied to the end of an array.
use mathlib.Core.Path.{◌≡◌, ap, ◌∙◌}
use mathlib.Core.Bool.{true}
use mathlib.Core.List.{List, ◌++◌, append-nil}
use Prim.Native.Nat.{ℕ, ◌+◌, ◌-◌, ◌≤◌}
use native.Mathlib.Omega.{arith}
use lib.ListN.{length, drop, take, drop_of_length-le}
use lib.Seq.{drop_at, length-take-le}
use Rattle.octets.specs.Octets.{put, all}
use Rattle.octets.proofs.Parts.{put-length}
use Rattle.host_name.specs.Scan.{name_byte, Rest}

module _ (b s : List ℕ) {d : List ℕ} (full : length b ≡ 256) (fits : length s ≤ 256) (copied : d ≡ put b (256 - length s) s) where
  pub moved-bytes : drop (256 - length s) d ≡ s
  unfolding put
  moved-bytes =
      let l : length (take (256 - length s) b) ≡ 256 - length s = length-take-le (256 - length s) b (omega arith) in
      rw (copied, drop_at (take (256 - length s) b) (s ++ drop (256 - length s + length s) b) (256 - length s) l)
      (ap (λ (r : List ℕ). s ++ r) (drop_of_length-le b {i = 256 - length s + length s} (omega arith)) ∙ append-nil s)

  pub moved-rest : all name_byte s ≡ true → Rest d (256 - length s)
  moved-rest h = record {
    full = rw copied (put-length b (256 - length s) s (omega arith) ∙ full);
    within = omega arith;
    only = rw moved-bytes h;
  }
