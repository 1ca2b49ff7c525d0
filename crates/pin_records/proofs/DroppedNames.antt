-- A loop over the name slots that drops the records which pass a test: the area after n of them.
use mathlib.Core.Path.{◌≡◌, sym, ◌∙◌, ap, subst}
use mathlib.Core.Bool.{Bool, true, false}
use mathlib.Core.List.{List}
use mathlib.Core.Option.{Option, none}
use Prim.Native.Nat.{ℕ, ◌+◌, ◌≤◌, ◌<◌}
use native.Mathlib.Omega.{arith}
use lib.ListN.{length, get_or}
use Rattle.pin_model.specs.Slots.{freed}
use Rattle.pin_model.specs.Table.{NameRecord, Table, holding}
use Rattle.pin_model.specs.Layout.{decode}
use Rattle.pin_model.specs.Fits.{holds}
use Rattle.pin_records.specs.Holds.{Holds, with_name}
use Rattle.pin_records.proofs.HeldSlots.{holds-decode}
use Rattle.pin_records.proofs.FreedSlots.{freed_to, freed-to-at, freed-to-goes, freed-to-stays, freed-to-none, freed-to-all}

-- the records of the first n slots that pass are gone
abbrev pub dropped : (NameRecord → Bool) → Table → ℕ → Table
dropped gone t n = holding t t.keys (freed_to gone n t.names)

module _ (gone : NameRecord → Bool) (t : Table) {b : List ℕ} (n : ℕ) (h : Holds b (dropped gone t n)) where
  back : decode b ≡ dropped gone t n
  back = holds-decode h

  -- slot n is as it was at the start
  drop-slot : get_or (decode b).names n none ≡ get_or t.names n none
  drop-slot = ap (λ (v : Table). get_or v.names n none) back ∙ freed-to-at gone n t.names

  test : holds gone (get_or t.names n none) ≡ holds gone (get_or (decode b).names n none)
  test = ap (holds gone) (sym drop-slot)

  pub drop-stays : {a : List ℕ} → a ≡ b → holds gone (get_or (decode b).names n none) ≡ false → Holds a (dropped gone t (n + 1))
  drop-stays q e =
      rw q (subst (λ (l : List (Option NameRecord)). Holds b (holding t t.keys l)) (freed-to-stays gone n t.names (test ∙ e)) h)

  pub drop-goes : {a d : List ℕ} → a ≡ d → holds gone (get_or (decode b).names n none) ≡ true → Holds d (with_name (decode b) n none)
      → Holds a (dropped gone t (n + 1))
  drop-goes {a} {d} q e g =
      rw q (subst (λ (l : List (Option NameRecord)). Holds d (holding t t.keys l)) (freed-to-goes gone n t.names (test ∙ e))
      (subst (λ (v : Table). Holds d (with_name v n none)) back g))

  pub drop-end : length t.names ≡ 128 → 128 ≤ n → Holds b (holding t t.keys (freed gone t.names))
  drop-end slots l =
      subst (λ (l : List (Option NameRecord)). Holds b (holding t t.keys l)) (freed-to-all gone n t.names (omega arith)) h
