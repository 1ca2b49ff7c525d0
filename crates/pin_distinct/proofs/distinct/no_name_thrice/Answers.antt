use Rattle.std.proofs.Common.{◌≡◌, ◌<◌, true, false, not, sym, ap, arith}
use Rattle.octets.proofs.Search.{every_true, every-false}
use Rattle.pin_model.specs.Layout.{name_slot, is_used, name_in}
use Rattle.pin_model.specs.Sound.{name_thrice}
use Rattle.pin_distinct.specs.Hashes.{name_mark}
use Rattle.pin_distinct.specs.Pins.{no_name_thrice}
use Rattle.pin_distinct.proofs.Hashing.{used-formed, name-mark-below}
use Rattle.pin_distinct.proofs.Doubles.{few-free, few-first, few-second, few-more}
use Rattle.pin_distinct.proofs.distinct.no_name_thrice.Goals.{else-add-via-then-add+then-add-2+else-name_thrice, else-add-via-then-add+else-add-2, else-add-via-else-add}
use Rattle.pin_distinct.proofs.distinct.no_name_thrice.Goals as goal

pub loop-i-preserved-then-not-is_used : goal.loop-i-preserved-then-not-is_used
loop-i-preserved-then-not-is_used c =
    let free : is_used (name_slot c.args.area.now c.loop-i.i) ≡ false = cc in
    few-free _ c.loop-i.invariant free

pub name_mark-mark-requires : goal.name_mark-mark-requires
name_mark-mark-requires c =
    let used : is_used (name_slot c.args.area.now c.loop-i.i) ≡ true = cc in
    let formed = used-formed c.args.area.now c.loop-i.i c.requires c.loop-i-test.true used in
    cc

pub returns-then-name_thrice : goal.returns-then-name_thrice
unfolding no_name_thrice
returns-then-name_thrice c =
    let thrice : name_thrice c.args.area.now c.loop-i.i ≡ true = cc in
    sym (every-false _ _ _ c.loop-i-test.true (ap not thrice))

pub loop-i-preserved : goal.loop-i-preserved
loop-i-preserved c =
    let b = c.args.area.now in
    let few = c.loop-i.invariant in
    let mark : c.name_mark-mark.result ≡ name_mark (name_in (name_slot b c.loop-i.i)) = cc in
    let below : c.name_mark-mark.result < 8192 = rw mark (name-mark-below _) in
    elim c.else-add.branch [
      | else-add-via-then-add+then-add-2+else-name_thrice w ↦
          let once : name_thrice b c.loop-i.i ≡ false = cc in
          rw w.again-is (few-more b few mark below c.add.ensures.1 w.add-then-add.ensures.1 once)
      | else-add-via-then-add+else-add-2 w ↦
          rw w.again-is (few-more b few mark below c.add.ensures.1 w.add-then-add.ensures.1 (few-second b few mark cc))
      | else-add-via-else-add w ↦ rw w.again-is (few-first b few mark below c.add.ensures.1 cc)
    ]

pub returns : goal.returns
unfolding no_name_thrice
returns c = sym (every_true _ _ (λ j l. ap not (c.loop-i.invariant.few j (omega arith))))
