-- The marks of the slots that a loop has passed.
use mathlib.Core.Path.{◌≡◌, sym, ap, ◌∙◌}
use mathlib.Core.Bool.{Bool, true, false, true≢false}
use mathlib.Core.List.{List}
use Prim.Native.Nat.{ℕ, ◌+◌, ◌<◌}
use lib.ListN.{length, replicate, length-replicate}
use borrow.Author.Count.{below_more, below_none}
use Rattle.octets.specs.Search.{some}
use Rattle.octets.proofs.Tests.{is_false}
use Rattle.octets.proofs.Search.{some-false}
use Rattle.pin_distinct.specs.SeenMarks.{is_seen, with_seen}
use Rattle.pin_distinct.proofs.SeenBits.{with_size, now-seen, still_seen}

-- each of the first n slots that leaves its mark has it among those seen
pub record MarksSeen (leaves : ℕ → Bool) (mark : ℕ → ℕ) (seen : List ℕ) (n : ℕ) : Type 0 where
  pub size : length seen ≡ 128
  pub marked : (j : ℕ) → j < n → leaves j ≡ true → is_seen seen (mark j) ≡ true

module _ (leaves : ℕ → Bool) (mark : ℕ → ℕ) where
  pub none_seen : MarksSeen leaves mark (replicate 128 0) 0
  none_seen = record { size = length-replicate {A = ℕ} 128 0; marked = below_none _ }

module _ {leaves : ℕ → Bool} {mark : ℕ → ℕ} {seen : List ℕ} {n : ℕ} (a : MarksSeen leaves mark seen n) where
  pub passed_over : leaves n ≡ false → MarksSeen leaves mark seen (n + 1)
  passed_over f = record { size = a.size; marked = below_more _ _ a.marked (λ u. absurd (true≢false (sym u ∙ f))) }

  pub passed-marked : {m : ℕ} → m ≡ mark n → m < 8192 → {later : List ℕ} → later ≡ with_seen seen m → MarksSeen leaves mark later (n + 1)
  passed-marked {m} e l w =
      record {
        size = ap length w ∙ with_size seen m a.size l;
        marked =
            below_more _ _ (λ j k u. rw w (still_seen seen m a.size l (mark j) (a.marked j k u)))
            (λ u. rw (w, ← e) (now-seen seen m a.size l));
      }

  -- a mark that was not seen: no slot before left it
  pub unseen : {m : ℕ} → is_seen seen m ≡ false → (alike : ℕ → Bool)
      → ((j : ℕ) → alike j ≡ true → (leaves j ≡ true) × (m ≡ mark j)) → some alike n ≡ false
  unseen z alike left =
      some-false alike n
      (λ j l. is_false (alike j)
      (λ e.
      let f = left j e in
      true≢false (sym (ap (is_seen seen) f.1 ∙ a.marked j l f.0) ∙ z)))
