use Rattle.std.proofs.Common.{◌≡◌, true, false, not, sym, ap, below_more, arith}
use Rattle.octets.proofs.Search.{every_true, every-false}
use Rattle.pin_model.specs.Layout.{of_two, name_slot, is_used}
use Rattle.pin_distinct.specs.Hashes.{pin_mark}
use Rattle.pin_distinct.specs.Pins.{pin_again, pins_distinct}
use Rattle.pin_distinct.proofs.Hashing.{used-formed, pin-mark-below}
use Rattle.pin_distinct.proofs.SeenMarks.{passed_over, passed-marked}
use Rattle.pin_distinct.proofs.Doubles.{pin-free, pin-unseen}
use Rattle.pin_distinct.proofs.distinct.pins_distinct.Goals.{else-is_used-via-then-is_used+then-add+else-pin_again, else-is_used-via-then-is_used+else-add, else-is_used-via-else-is_used}
use Rattle.pin_distinct.proofs.distinct.pins_distinct.Goals as goal

pub pin_mark-requires : goal.pin_mark-requires
pin_mark-requires c =
    let used : is_used (name_slot c.args.area.now c.loop-i.i) ≡ true = cc in
    let formed = used-formed c.args.area.now c.loop-i.i c.requires c.loop-i-test.true used in
    cc

pub returns-then-pin_again : goal.returns-then-pin_again
unfolding pins_distinct
returns-then-pin_again c =
    let again : pin_again (of_two c.args.area.now) c.args.area.now c.loop-i.i ≡ true = cc in
    sym (every-false _ _ _ c.loop-i-test.true (ap not again))

pub loop-i-preserved : goal.loop-i-preserved
loop-i-preserved c =
    let b = c.args.area.now in
    let n = c.loop-i.i in
    let inv = c.loop-i.invariant in
    elim c.else-is_used.branch [
      | else-is_used-via-then-is_used+then-add+else-pin_again w ↦
          let mark : w.pin_mark.result ≡ pin_mark (of_two b) (name_slot b n) = cc in
          let once : pin_again (of_two b) b n ≡ false = cc in
          rw w.seen-is (passed-marked inv.0 mark (rw mark (pin-mark-below _ _)) w.add.ensures.1, below_more _ _ inv.1 once)
      | else-is_used-via-then-is_used+else-add w ↦
          let mark : w.pin_mark.result ≡ pin_mark (of_two b) (name_slot b n) = cc in
          rw w.seen-is (passed-marked inv.0 mark (rw mark (pin-mark-below _ _)) w.add.ensures.1, below_more _ _ inv.1 (pin-unseen b (of_two b) inv.0 mark cc))
      | else-is_used-via-else-is_used w ↦
          let free : is_used (name_slot b n) ≡ false = cc in
          rw w.seen-is (passed_over inv.0 free, below_more _ _ inv.1 (pin-free b n (of_two b) free))
    ]

pub returns : goal.returns
unfolding pins_distinct
returns c = sym (every_true _ _ (λ j l. ap not (c.loop-i.invariant.1 j (omega arith))))
