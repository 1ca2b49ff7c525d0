-- What a call's answer says of a rule of two slots, and of two names.
use mathlib.Core.Path.{◌≡◌, sym, ap, ap₂, ◌∙◌}
use mathlib.Core.Bool.{Bool, false}
use mathlib.Core.List.{List}
use Prim.Native.Nat.{ℕ, ◌<◌}
use native.Mathlib.Omega.{arith}
use lib.ListN.{length, get_or}
use Rattle.octets.specs.Octets.{part, same}
use Rattle.octets.proofs.Tests.{is_false}
use Rattle.octets.proofs.Parts.{part_length}
use Rattle.octets.proofs.Equal.{same_true}
use Rattle.pin_model.specs.Layout.{name_length, name_in}

-- a rule d of two slots that were lent as s and r, where a call answered x for those and the code went by x
pub said : (d : List ℕ → List ℕ → Bool) {s r a b : List ℕ} {x v : Bool} → s ≡ a → r ≡ b → x ≡ d s r → x ≡ v → d a b ≡ v
said d e f g h = sym (ap₂ d e f) ∙ sym g ∙ h

-- names of different lengths differ
pub name-sized : (s : List ℕ) → length s ≡ 272 → name_length s < 256 → length (name_in s) ≡ name_length s
name-sized s l h = part_length s 16 (get_or s 2 0) (omega arith)

pub names-differ : (s r : List ℕ) → length s ≡ 272 → length r ≡ 272 → name_length s < 256 → name_length r < 256
    → (name_length s ≡ name_length r → ⊥) → same (name_in s) (name_in r) ≡ false
names-differ s r ls lr bs br ne =
    is_false (same (name_in s) (name_in r))
    (λ e. ne (sym (name-sized s ls bs) ∙ ap length (same_true (name_in s) (name_in r) e) ∙ name-sized r lr br))
