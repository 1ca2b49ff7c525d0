-- The answer for the copy is that for the name.
use mathlib.Core.Path.{refl, sym, ◌∙◌}
use mathlib.Core.Bool.{and-false}
use native.Mathlib.Omega.{arith}
use lib.ListN.{length, replicate}
use borrow.Author.Tests.{le-leb, lt-leb}
use Rattle.host_name.specs.Name.{well_formed}
use Rattle.host_name.proofs.Bytes.{bytes-refused}
use Rattle.host_name.proofs.Moved.{moved-bytes, moved-rest}
use Rattle.host_name.proofs.well_formed.Goals as goal

pub returns-then-name-gt253 : goal.returns-then-name-gt253
unfolding well_formed
returns-then-name-gt253 c = simp (lt-leb (length c.args.name.now) 253 (omega arith))

pub returns-then-not-only_name_bytes : goal.returns-then-not-only_name_bytes
unfolding well_formed
returns-then-not-only_name_bytes c =
    let s = c.args.name.now in
    let e = sym c.only_name_bytes.ensures ∙ c.if-not-only_name_bytes.true in
    sym (simp (bytes-refused s e, and-false))

pub after_dot-requires : goal.after_dot-requires
after_dot-requires c =
    let s = c.args.name.now in
    let e = sym c.only_name_bytes.ensures ∙ c.if-not-only_name_bytes.false in
    moved-rest (replicate 256 0) s refl (omega arith) c.put_part.ensures.1 e

pub returns : goal.returns
unfolding well_formed
returns c =
    let s = c.args.name.now in
    let e = moved-bytes (replicate 256 0) s refl (omega arith) c.put_part.ensures.1 in
    c.after_dot.ensures ∙ rw e (sym (simp (le-leb (length s) 253 (omega arith))))
