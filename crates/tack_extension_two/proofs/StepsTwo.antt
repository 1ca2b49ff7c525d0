-- What the reading steps of edition two say of the bytes: a step that read gives back what it read.
use mathlib.Core.Path.{◌≡◌, sym, ap, ◌∙◌}
use mathlib.Core.List.{List}
use mathlib.Core.Option.{some}
use Prim.Native.Nat.{ℕ}
use lib.ListN.{length}
use Rattle.octets.proofs.Options.{never-some, by_option}
use Rattle.tack_extension.specs.Extension.{read}
use Rattle.tack_extension.proofs.Steps.{by_step, LengthRead, length-read, LastRead, last-read}
use Rattle.tack_extension_two.specs.ExtensionTwo.{PartsTwo, parts_in, tacks_length, flags_allowed, tacks_step, flags_step, after_flags, after_tacks, parse_two}

pub tacks-read : (s t r : List ℕ) → tacks_step s ≡ read t r → LengthRead tacks_length s t r
unfolding tacks_step
tacks-read s t r h = length-read tacks_length s t r h

flags-read : (n : ℕ) (s : List ℕ) (f : ℕ) → flags_step n s ≡ some f → LastRead (flags_allowed n) s f
unfolding flags_step
flags-read n s f h = last-read (flags_allowed n) s f h

-- both
pub record ParsedTwo (s : List ℕ) (p : PartsTwo) : Type 0 where
  pub tacks : List ℕ
  pub after : List ℕ
  pub flags : ℕ
  pub read-tacks : LengthRead tacks_length s tacks after
  pub read_flags : LastRead (flags_allowed (length tacks)) after flags
  pub parts : parts_in tacks flags ≡ p

pub parsed-two : (s : List ℕ) (p : PartsTwo) → parse_two s ≡ some p → ParsedTwo s p
unfolding parse_two
parsed-two s p h =
    by_step (tacks_step s)
    (λ t r e. by_option (flags_step (length t) r)
    (λ f g.
    let k : some (parts_in t f) ≡ some p = sym (ap after_tacks e ∙ ap (after_flags t) g) ∙ h in
    let x : parts_in t f ≡ p = cc in
    record { tacks = t; after = r; flags = f; read-tacks = tacks-read s t r e; read_flags = flags-read (length t) r f g; parts = x })
    (λ g. never-some (sym (ap after_tacks e ∙ ap (after_flags t) g) ∙ h)))
    (λ e. never-some (sym (ap after_tacks e) ∙ h))
