-- What slots and the whole area hold.
use mathlib.Core.Path.{◌≡◌, ap, ap₂, ◌∙◌}
use mathlib.Core.Bool.{true, ◌&&◌}
use mathlib.Core.List.{List}
use Prim.Native.Nat.{ℕ, ◌-◌, ◌≤◌, ◌<◌}
use native.Mathlib.Omega.{arith}
use lib.Dec.{leb}
use lib.ListN.{length, replicate}
use Rattle.octets.specs.Octets.{part, all_zero}
use borrow.Author.Tests.{leb-true}
use Rattle.octets.proofs.Tests.{and_left}
use Rattle.octets.proofs.Parts.{part-all, part-part}
use Rattle.octets.proofs.Equal.{zeros-are}
use Rattle.host_name.specs.Name.{well_formed}
use Rattle.pin_model.specs.Table.{clock_limit}
use Rattle.pin_model.specs.Layout.{area_length, latest_in, name_length}
use Rattle.pin_model.specs.Sound.{head_sound, name_formed, sound}
use Rattle.pin_model.proofs.SoundEncode.{zeros-sound}

-- a slot's padded name
pub padded_formed : (s p : List ℕ) (n : ℕ) → length s ≡ 272 → name_length s < 256 → p ≡ part s 16 256 → n ≡ name_length s
    → (well_formed (part p 0 n) && all_zero (part p n (256 - n))) ≡ name_formed s
unfolding name_formed
padded_formed s p n long below e f =
    rw (e, f)
    (ap₂ ◌&&◌ (ap well_formed (part-part s 16 256 0 (name_length s) (omega arith) (omega arith)))
    (ap all_zero (part-part s 16 256 (name_length s) (256 - name_length s) (omega arith) (omega arith))))

-- an area that is all zero is the empty table
pub zeros_are_sound : (b : List ℕ) → length b ≡ area_length → all_zero b ≡ true → sound b ≡ true
zeros_are_sound b long e =
    ap sound (zeros-are b e ∙ ap (λ (n : ℕ). replicate n 0) long) ∙ zeros-sound

-- all zero from the front to the end
pub zeros_whole : (b : List ℕ) (n : ℕ) → length b ≡ n → all_zero (part b 0 n) ≡ all_zero b
zeros_whole b n long = ap all_zero (part-all b n long)

-- a sound head has its latest clock within the limit
pub latest_within : (b : List ℕ) → head_sound b ≡ true → latest_in b ≤ clock_limit
unfolding head_sound
latest_within b e = leb-true (latest_in b) clock_limit (and_left (leb (latest_in b) clock_limit) _ e)
