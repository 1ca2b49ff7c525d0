-- What the reader's answers say of the bytes.
use Rattle.std.specs.Prelude.{◌≤◌, ◌<◌, List, ℕ, length}
use Rattle.std.specs.Prelude as std
use Rattle.std.specs.Borrow.{Bor}
use Rattle.std.proofs.Math.Option as math
use Rattle.recorded_call.specs.RecordedCall.{Front, taken, cut_off, bad}
use Rattle.recorded_call.specs.declared.front.CallError.{CallError}
use Rattle.recorded_call.specs.declared.front.CallError.TheVariants.{CutOff, Bad}
use Rattle.recorded_call.specs.declared.front.Taken.{Taken}

abbrev pub stopped : {A : Type 0} → CallError → Front A
stopped CutOff = cut_off
stopped Bad = bad

-- what stands in front of the bytes, where `of` says what a value is
abbrev pub front : {T A : Type 0} → (T → A) → std.Result (Taken T) CallError → Front A
front of (std.Ok t) = taken (of t.value) t.rest.now
front of (std.Err e) = stopped e

-- a value that is some of the bytes, or none
abbrev pub bytes : Bor (List ℕ) → List ℕ
bytes s = s.now

abbrev pub bytes_if_any : std.Option (Bor (List ℕ)) → math.Option (List ℕ)
bytes_if_any std.None = math.none
bytes_if_any (std.Some s) = math.some s.now

-- the bytes behind what was taken are bytes of s, and the longest call has 4,452 bytes, so what is cut off has fewer
abbrev pub Within : {T : Type 0} → List ℕ → std.Result (Taken T) CallError → Type 0
Within s (std.Ok t) = length t.rest.now ≤ length s
Within s (std.Err CutOff) = length s < 4452
Within s (std.Err Bad) = Unit
