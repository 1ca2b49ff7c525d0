use Rattle.std.proofs.Common.{◌≡◌, ℕ, ◌<◌, true, false, get_or, arith}
use Rattle.std.proofs.Math.Option.{none}
use Rattle.pin_model.specs.Table.{pinned_to}
use Rattle.pin_model.specs.Layout.{decode, key_at}
use Rattle.pin_model.specs.Fits.{holds}
use Rattle.pin_records.specs.Find.{is_free}
use Rattle.pin_records.proofs.HeldSlots.{holds-stored}
use Rattle.pin_records.proofs.Cleared.{stage-free, stage-named, stage-unnamed, stage-cleared, stage-end}
use Rattle.pin_records.proofs.remove.drop_unnamed.Goals as goal

pub key_is_free-requires : goal.key_is_free-requires
key_is_free-requires c = holds-stored c.keys.invariant

pub keys-preserved-then-key_is_free : goal.keys-preserved-then-key_is_free
keys-preserved-then-key_is_free c =
    let free : is_free (get_or (decode c.keys.area).keys c.keys.i none) ≡ true = cc in
    stage-free _ _ c.keys.invariant free

pub refers_to-requires : goal.refers_to-requires
refers_to-requires c = (holds-stored c.keys.invariant, cc)

pub keys-preserved-then-refers_to : goal.keys-preserved-then-refers_to
keys-preserved-then-refers_to c =
    let named : holds (pinned_to (key_at (get_or (decode c.keys.area).keys c.keys.i none))) (get_or (decode c.keys.area).names c.names.j none) ≡ true = cc in
    stage-named _ _ c.keys.invariant c.names.j named

pub clear_key-requires : goal.clear_key-requires
clear_key-requires c =
    let unnamed : (m : ℕ) → m < 128 → holds (pinned_to (key_at (get_or (decode c.keys.area).keys c.keys.i none))) (get_or (decode c.keys.area).names m none) ≡ false = λ m l. let h = c.names.invariant m (omega arith) in cc in
    let left = stage-unnamed _ _ c.keys.invariant unnamed in
    (holds-stored c.keys.invariant, cc, cc)

pub keys-preserved : goal.keys-preserved
keys-preserved c =
    let used : is_free (get_or (decode c.keys.area).keys c.keys.i none) ≡ false = cc in
    let unnamed : (m : ℕ) → m < 128 → holds (pinned_to (key_at (get_or (decode c.keys.area).keys c.keys.i none))) (get_or (decode c.keys.area).names m none) ≡ false = λ m l. let h = c.names.invariant m (omega arith) in cc in
    stage-cleared _ _ c.keys.invariant used unnamed (rw c.at-k.ensures at c.clear_key.ensures)

pub returns : goal.returns
returns c = stage-end _ _ c.keys.invariant c.requires.fits.key_slots c.keys-test.false
