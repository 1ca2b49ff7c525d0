use Rattle.std.proofs.Common.{◌≡◌, true, false, not, sym, ap, below_more, arith}
use Rattle.octets.proofs.Search.{every_true, every-false}
use Rattle.pin_model.specs.Layout.{key_slot, is_used, key_in}
use Rattle.pin_model.specs.Sound.{key_twice, keys_distinct}
use Rattle.pin_distinct.specs.Hashes.{key_mark}
use Rattle.pin_distinct.proofs.Hashing.{key-mark-below}
use Rattle.pin_distinct.proofs.SeenMarks.{passed_over, passed-marked}
use Rattle.pin_distinct.proofs.Doubles.{key-free, key-unseen}
use Rattle.pin_distinct.proofs.distinct.keys_distinct.Goals.{else-is_used-via-then-is_used+then-add+else-key_twice, else-is_used-via-then-is_used+else-add, else-is_used-via-else-is_used}
use Rattle.pin_distinct.proofs.distinct.keys_distinct.Goals as goal

pub returns-then-key_twice : goal.returns-then-key_twice
unfolding keys_distinct
returns-then-key_twice c =
    let twice : key_twice c.args.area.now c.loop-n.n ≡ true = cc in
    sym (every-false _ _ _ c.loop-n-test.true (ap not twice))

pub loop-n-preserved : goal.loop-n-preserved
loop-n-preserved c =
    let b = c.args.area.now in
    let n = c.loop-n.n in
    let inv = c.loop-n.invariant in
    elim c.else-is_used.branch [
      | else-is_used-via-then-is_used+then-add+else-key_twice w ↦
          let mark : w.key_mark.result ≡ key_mark (key_in (key_slot b n)) = cc in
          let once : key_twice b n ≡ false = cc in
          rw w.seen-is (passed-marked inv.0 mark (rw mark (key-mark-below _)) w.add.ensures.1, below_more _ _ inv.1 once)
      | else-is_used-via-then-is_used+else-add w ↦
          let mark : w.key_mark.result ≡ key_mark (key_in (key_slot b n)) = cc in
          rw w.seen-is (passed-marked inv.0 mark (rw mark (key-mark-below _)) w.add.ensures.1, below_more _ _ inv.1 (key-unseen b inv.0 mark cc))
      | else-is_used-via-else-is_used w ↦
          let free : is_used (key_slot b n) ≡ false = cc in
          rw w.seen-is (passed_over inv.0 free, below_more _ _ inv.1 (key-free b n free))
    ]

pub returns : goal.returns
unfolding keys_distinct
returns c = sym (every_true _ _ (λ j l. ap not (c.loop-n.invariant.1 j (omega arith))))
