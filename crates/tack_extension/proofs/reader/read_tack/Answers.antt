use Rattle.std.proofs.Common.{◌≡◌, false, refl, sym, ◌∙◌, arith}
use Rattle.tack_extension.specs.Extension.{tack_length}
use Rattle.tack_extension.proofs.Reading.{no-length, tack-none, tack-some, cut-short, cut-taken}
use Rattle.tack_extension.proofs.reader.read_tack.Goals as goal

pub returns-in_default : goal.returns-in_default
returns-in_default c = tack-none c.args.s.now c.in_default.ensures.cases

pub returns-in_default-split_first_chunk : goal.returns-in_default-split_first_chunk
returns-in_default-split_first_chunk c =
    let step = rw c.in-166.is at (tack-some c.args.s.now _ _ c.in-Some.ensures.cases.0) in
    cut-short 166 _ c.in_default-split_first_chunk.ensures.cases ∙ sym step

pub returns-in-0 : goal.returns-in-0
returns-in-0 c =
    let step = rw c.in-0.is at (tack-some c.args.s.now _ _ c.in-Some.ensures.cases.0) in
    cut-taken 0 _ (omega arith) refl refl ∙ sym step

pub returns-in-Some-split_first_chunk : goal.returns-in-Some-split_first_chunk
returns-in-Some-split_first_chunk c =
    let step = rw c.in-166.is at (tack-some c.args.s.now _ _ c.in-Some.ensures.cases.0) in
    let its = c.in-Some-split_first_chunk.ensures.cases in
    cut-taken 166 _ (omega (arith, its.2)) its.0 its.1 ∙ sym step

pub returns-in_default-length : goal.returns-in_default-length
returns-in_default-length c =
    let zero : c.in-Some.length.now ≡ 0 → ⊥ = λ k. omega arith in
    let all : c.in-Some.length.now ≡ 166 → ⊥ = λ k. omega arith in
    let e : tack_length c.in-Some.length.now ≡ false = no-length _ zero all in
    sym (rw e at (tack-some c.args.s.now _ _ c.in-Some.ensures.cases.0))
