-- What an extension that was read shows, and a target hash that was read.
use mathlib.Core.Path.{◌≡◌, ap}
use mathlib.Core.List.{List}
use Prim.Native.Nat.{ℕ}
use native.Mathlib.Omega.{arith}
use lib.ListN.{length}
use lib.Seq.{take_all}
use Rattle.octets.specs.Octets.{part, same}
use Rattle.tack_extension.specs.Tack.{target_hash}
use Rattle.pin_model.proofs.TackShown.{target-size}

-- a target hash that was read as b, compared
pub hash-whole : (t : List ℕ) → length t ≡ 166 → (b h : List ℕ) → b ≡ target_hash t → length h ≡ 32 → same (part b 0 (length h)) h ≡ same (target_hash t) h
unfolding part
hash-whole t size b h e d = rw (e, d) (ap (λ (a : List ℕ). same a h) (take_all 32 (target_hash t) (omega (arith, target-size t size))))
