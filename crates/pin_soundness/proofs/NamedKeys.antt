-- Marks for the keys that names refer to.
use mathlib.Core.Path.{◌≡◌, refl, sym, ap, ◌∙◌}
use mathlib.Core.Bool.{Bool, true, false, ◌||◌}
use mathlib.Core.List.{List}
use Prim.Native.Nat.{ℕ, ◌+◌, ◌<◌}
use native.Mathlib.Omega.{arith}
use lib.Dec.{eqb}
use lib.ListN.{get_or, set, replicate, length-set, length-replicate, get_or-replicate}
use lib.Seq.{get_or-set_same, get_or-set_other}
use borrow.Author.Tests.{eqb-true, eqb-false, eq-eqb, ne_eqb}
use Rattle.octets.specs.Search.{some}
use Rattle.octets.proofs.Tests.{by_test}
use Rattle.octets.proofs.Search.{some-true, some_more}
use Rattle.pin_model.specs.Layout.{name_slot, is_used, key_number}
use Rattle.pin_model.specs.Sound.{refers_to}
use Rattle.pin_soundness.specs.Marked.{KeysMarked}

or_no : (x y : Bool) → y ≡ false → x ≡ (x || y)
or_no true y e = refl
or_no false y e = sym e

pub none-marked : (b : List ℕ) → KeysMarked b (replicate 256 false) 0
unfolding some
none-marked b =
    record {
      size = length-replicate {A = Bool} 256 false;
      right = λ k l. get_or-replicate 256 k false false (omega arith);
    }

module _ (b : List ℕ) (marks : List Bool) (n : ℕ) (a : KeysMarked b marks n) where
  pub marked-free : is_used (name_slot b n) ≡ false → KeysMarked b marks (n + 1)
  unfolding refers_to
  marked-free f =
      record {
        size = a.size;
        right = λ k l. a.right k l ∙ or_no (some (λ m. refers_to k (name_slot b m)) n) (refers_to k (name_slot b n)) (rw f) ∙ sym (some_more (λ m. refers_to k (name_slot b m)) n);
      }

  pub marked-used : (i : ℕ) → i ≡ key_number (name_slot b n) → i < 256 → is_used (name_slot b n) ≡ true → KeysMarked b (set marks i true) (n + 1)
  unfolding refers_to
  marked-used i e l u =
      record {
        size = length-set marks i true ∙ a.size;
        right = λ k h.
            by_test (eqb k i)
            (λ q.
            let w : k ≡ i = eqb-true k i q in
            ap (λ (j : ℕ). get_or (set marks i true) j false) w ∙ get_or-set_same marks i true false (omega (arith, a.size))
            ∙ sym (some-true (λ m. refers_to k (name_slot b m)) (n + 1) n (omega arith) (rw u (eq-eqb _ _ (sym e ∙ sym w)))))
            (λ q.
            let w : k ≡ i → ⊥ = eqb-false k i q in
            get_or-set_other marks i k true false w ∙ a.right k h
            ∙ or_no (some (λ m. refers_to k (name_slot b m)) n) (refers_to k (name_slot b n)) (rw u (ne_eqb _ _ (λ z. w (sym z ∙ sym e))))
            ∙ sym (some_more (λ m. refers_to k (name_slot b m)) n));
      }
