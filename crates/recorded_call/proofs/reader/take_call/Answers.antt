-- Where a field stops the reading the call is cut off, or bad, as that field is.
use native.Mathlib.Omega.{arith}
use Rattle.std.proofs.Common.{◌≡◌, sym, ◌∙◌}
use Rattle.pin_model.specs.Seen.{seen}
use Rattle.recorded_call.specs.RecordedCall.{recorded}
use Rattle.recorded_call.specs.Fronts.{front}
use Rattle.recorded_call.proofs.Fields.{stops, called-read}
use Rattle.recorded_call.proofs.CutOff.{right_within}
use Rattle.recorded_call.proofs.Prefix.{taken-shorter}
use Rattle.recorded_call.proofs.reader.take_call.Goals as goal

pub returns-in_err-clock : goal.returns-in_err-clock
unfolding recorded
returns-in_err-clock c =
    let e : front seen c.from_residual.result ≡ recorded c.args.s.now = grind (arith, stops) in
    record { call = e; within = right_within _ _ e }

pub returns-in_err-name : goal.returns-in_err-name
unfolding recorded
returns-in_err-name c =
    let e : front seen c.from_residual-in_err-name.result ≡ recorded c.args.s.now = grind (arith, stops) in
    record { call = e; within = right_within _ _ e }

pub returns-in_err-answers : goal.returns-in_err-answers
unfolding recorded
returns-in_err-answers c =
    let e : front seen c.from_residual-in_err-answers.result ≡ recorded c.args.s.now = grind (arith, stops) in
    record { call = e; within = right_within _ _ e }

pub returns-in_err-hash : goal.returns-in_err-hash
unfolding recorded
returns-in_err-hash c =
    let e : front seen c.from_residual-in_err-hash.result ≡ recorded c.args.s.now = grind (arith, stops) in
    record { call = e; within = right_within _ _ e }

pub returns-in_err-extension : goal.returns-in_err-extension
unfolding recorded
returns-in_err-extension c =
    let e : front seen c.from_residual-in_err-extension.result ≡ recorded c.args.s.now = grind (arith, stops) in
    record { call = e; within = right_within _ _ e }

pub returns-in_err-end : goal.returns-in_err-end
unfolding recorded
returns-in_err-end c =
    let e : front seen c.from_residual-in_err-end.result ≡ recorded c.args.s.now = grind (arith, stops) in
    record { call = e; within = right_within _ _ e }

pub returns : goal.returns
returns c =
    let e = called-read c.args.s.now c.in_ok-extension.extension.value c.in_ok-clock.ensures.value c.in_ok-name.ensures.value c.in_ok-answers.ensures.value c.in_ok-hash.ensures.value
    c.in_ok-extension.ensures c.in_ok-end.ensures.value c.in_ok-clock.ensures.size (c.from.ensures ∙ c.number_at.ensures) c.checks_of.ensures in
    let k = taken-shorter _ _ _ (sym e) in
    record { call = e; within = omega (arith, k) }
