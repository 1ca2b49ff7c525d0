-- 24, where both tacks are there.
use mathlib.Core.Path.{◌≡◌, refl, ◌∙◌, ap}
use mathlib.Core.Bool.{Bool, true, false, not, ◌&&◌, ◌||◌}
use mathlib.Core.List.{List, [], ◌∷◌, ◌++◌}
use Prim.Native.Nat.{ℕ}
use native.Mathlib.Omega.{arith}
use lib.ListN.{length}
use Rattle.octets.specs.Octets.{part, same}
use Rattle.octets.proofs.Equal.{same-turned}
use Rattle.tack_extension.specs.Tack.{public_key}
use Rattle.pin_model.specs.Connection.{shown_in}
use Rattle.pin_model.specs.Refusals.{one_key_twice}

twice : (x : Bool) → x ≡ not (not (x || false) && (not false && true))
twice true = refl
twice false = refl

pub one-key-both : (f s : List ℕ) {key : List ℕ} → length f ≡ 166 → length s ≡ 166 → key ≡ public_key s
    → same (part f 0 64) key ≡ one_key_twice (shown_in true f ++ shown_in true s)
unfolding public_key
one-key-both [] s l m e = absurd (omega arith)
one-key-both (a ∷ f) [] l m e = absurd (omega arith)
one-key-both (a ∷ f) (b ∷ s) {key} l m e =
    ap (same (part (a ∷ f) 0 64)) e ∙ same-turned (part (a ∷ f) 0 64) (part (b ∷ s) 0 64) ∙ twice (same (part (b ∷ s) 0 64) (part (a ∷ f) 0 64))
