-- 'All other refusals still change nothing' (document 02, Q-4), and 23 of edition one sets one byte.
use mathlib.Core.Path.{◌≡◌, refl, sym, ◌∙◌, ap}
use mathlib.Core.Bool.{Bool, true, false, cond, not, ◌&&◌, false≢true, or-false}
use mathlib.Core.List.{List, []}
use mathlib.Core.Option.{Option, none, some}
use Prim.Native.Nat.{ℕ, max}
use lib.Dec.{eqb}
use lib.ListN.{get_or, set}
use lib.Seq.{get_or-set_other}
use borrow.Author.Tests.{eqb-true, eq-eqb, not-true}
use Rattle.octets.specs.Octets.{Bytes, all, any}
use Rattle.octets.proofs.Tests.{by_test}
use Rattle.octets.proofs.Options.{by_option, some-injective}
use Rattle.tack_extension.specs.Tack.{public_key, min_generation}
use Rattle.pin_model.specs.Table.{key_recorded}
use Rattle.pin_model.specs.Layout.{encode, decode}
use Rattle.pin_model.specs.Sound.{sound}
use Rattle.pin_model.specs.Connection.{Connection, tack_shown}
use Rattle.pin_model.specs.Refusals.{first, area_tests}
use Rattle.pin_model.specs.Judge.{raise_shown}
use Rattle.pin_model.specs.Calls.{Call, judge, judge_two, delete, inspect, start, if_any, tacks_of_call, table_tests_of, refusal, refused_area}
use Rattle.pin_model.specs.OneFloor.{floor_for, floor_place, is_floor_of, floor_raised, floors_raised}
use Rattle.pin_model.specs.Demand1.{refusals_of, expired_in_one}
use Rattle.pin_model.proofs.First.{first-here, first-number}
use Rattle.pin_model.proofs.Refusals.{area-facts}
use Rattle.pin_model.proofs.SoundArea.{sound-decode, sound-fits}
use Rattle.pin_model.proofs.FloorByte.{raised_byte}
use Rattle.pin_model.proofs.Numbers.{one_of, refusal-listed}

-- a call that is refused as expired found the area sound
expired-sound : (c : Connection) (b : List ℕ) → refusal (judge c) b ≡ some 23 → sound b ≡ true
unfolding refusal
expired-sound c b e =
    by_option (first (area_tests b))
    (λ n d.
    let late : not (eqb n 23) ≡ true = first-number (λ m. not (eqb m 23)) (area_tests b) n refl d in
    let same : n ≡ 23 = some-injective (sym (first-here (area_tests b) (table_tests_of (judge c) (decode b)) n d) ∙ e) in
    absurd (false≢true (sym (not-true (eqb n 23) late) ∙ eq-eqb n 23 same)))
    (λ d. (area-facts b [] d).area_sound)

-- step 1 on the bytes of a sound area
raised-area : (b : List ℕ) → Bytes b → sound b ≡ true → (shown : Option (List ℕ)) → encode (raise_shown shown (decode b)) ≡ floors_raised (if_any shown) b
raised-area b bytes h none = (sound-decode b bytes h).bytes
raised-area b bytes h (some tack) =
    raised_byte (decode b) (sound-fits b bytes h) tack
    ∙ ap (λ (a : List ℕ). cond (key_recorded (public_key tack) (decode b)) (set a (floor_place (decode b) tack) (max (floor_for (decode b) tack) (min_generation tack))) a)
    (sound-decode b bytes h).bytes

-- 23 is no number of the other calls
not-expired : (call : Call) (b : List ℕ) (n : ℕ) → refusal call b ≡ some n → all (λ m. not (eqb m 23)) (refusals_of call) ≡ true → eqb n 23 ≡ false
not-expired call b n e listed = not-true (eqb n 23) (one_of (λ m. not (eqb m 23)) (refusals_of call) n listed (refusal-listed call b n e))

pub refused-by : (call : Call) (b : List ℕ) (n : ℕ) → refusal call b ≡ some n → (expired_in_one call n ≡ true → Bytes b)
    → refused_area call n b ≡ cond (expired_in_one call n) (floors_raised (tacks_of_call call) b) b
refused-by (judge c) b n e bytes =
    by_test (eqb n 23)
    (λ d. rw d (raised-area b (bytes d) (expired-sound c b (e ∙ ap some (eqb-true n 23 d))) (tack_shown c)))
    (λ d. rw d)
refused-by (judge_two c) b n e bytes = refl
refused-by (delete name) b n e bytes = rw (not-expired (delete name) b n e refl)
refused-by (inspect second name clock) b n e bytes = rw (not-expired (inspect second name clock) b n e refl)
refused-by (start two) b n e bytes = rw (not-expired (start two) b n e refl)

-- byte by byte
one-raised : (tack b : List ℕ) (i : ℕ) → is_floor_of (decode b) i tack ≡ false → get_or (floor_raised tack b) i 0 ≡ get_or b i 0
one-raised tack b i = go (key_recorded (public_key tack) (decode b))
  where
    place : ℕ
    place = floor_place (decode b) tack

    floor : ℕ
    floor = max (floor_for (decode b) tack) (min_generation tack)

    go : (recorded : Bool) → (recorded && eqb i place) ≡ false → get_or (cond recorded (set b place floor) b) i 0 ≡ get_or b i 0
    go true e = get_or-set_other b place i floor 0 (λ d. false≢true (sym e ∙ eq-eqb i place d))
    go false e = refl

pub one_byte_lem : (call : Call) (n : ℕ) (b : List ℕ) (i : ℕ) → expired_in_one call n ≡ true → any (is_floor_of (decode b) i) (tacks_of_call call) ≡ false
    → get_or (floors_raised (tacks_of_call call) b) i 0 ≡ get_or b i 0
one_byte_lem (judge c) n b i e d = go (tack_shown c) d
  where
    go : (shown : Option (List ℕ)) → any (is_floor_of (decode b) i) (if_any shown) ≡ false → get_or (floors_raised (if_any shown) b) i 0 ≡ get_or b i 0
    go none d = refl
    go (some tack) d = one-raised tack b i (sym (or-false (is_floor_of (decode b) i tack)) ∙ d)
one_byte_lem (judge_two c) n b i e d = absurd (false≢true e)
one_byte_lem (delete name) n b i e d = refl
one_byte_lem (inspect second name clock) n b i e d = refl
one_byte_lem (start two) n b i e d = refl
