-- What the writer of edition two writes, piece by piece.
use mathlib.Core.Path.{◌≡◌, sym, ◌∙◌}
use mathlib.Core.List.{List, [], ◌∷◌, ◌++◌, append_assoc}
use Prim.Native.Nat.{ℕ, ◌+◌}
use native.Mathlib.Omega.{arith}
use lib.ListN.{length, length-append}
use Rattle.octets.specs.Octets.{big_endian}
use Rattle.octets.proofs.Numbers.{big_endian-length}
use Rattle.tack_extension_two.specs.ExtensionTwo.{parts_in, bytes_of_two}
use Rattle.tack_extension_two.proofs.GoodTwo.{bytes-in}

module _ (t : List ℕ) (f : ℕ) where
  pub bytes-length-two : length (bytes_of_two (parts_in t f)) ≡ length t + 3
  bytes-length-two = rw (bytes-in t f) (simp (length-append, big_endian-length) (omega arith))

  -- the pieces joined
  pub joined-two : (([] ++ big_endian 2 (length t)) ++ t) ++ (f ∷ []) ≡ bytes_of_two (parts_in t f)
  joined-two = append_assoc (big_endian 2 (length t)) t (f ∷ []) ∙ sym (bytes-in t f)
