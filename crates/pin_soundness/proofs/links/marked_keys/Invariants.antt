-- The loop's invariant: the keys of the first n names are marked.
use Rattle.pin_soundness.specs.Marked.{KeysMarked}
use Rattle.pin_soundness.proofs.links.marked_keys.Given as goal

abbrev pub invariant-loop-n : goal.invariant-loop-n
invariant-loop-n l = KeysMarked l.area l.marked l.n
