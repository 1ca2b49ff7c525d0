-- The area after each store: it holds the table with that record.
use mathlib.Core.Path.{◌≡◌, refl, sym, ◌∙◌, ap}
use mathlib.Core.Bool.{true, false, true≢false, false≢true}
use mathlib.Core.List.{List, [], ◌∷◌, ◌++◌}
use mathlib.Core.Option.{Option, none, some}
use Prim.Native.Nat.{ℕ, ◌+◌, ◌*◌, ◌-◌, ◌%◌, ◌≤◌, ◌<◌}
use native.Mathlib.Nat.{mod-eq_of_lt}
use native.Mathlib.Omega.{arith}
use lib.ListN.{length, get_or, set, replicate}
use borrow.Author.Tests.{eq-eqb}
use Rattle.octets.specs.Octets.{part, put, big_endian}
use Rattle.octets.proofs.Parts.{put-in-part, set-inside, put-length}
use Rattle.octets.proofs.Numbers.{big_endian-length}
use Rattle.octets.proofs.Equal.{same_refl}
use Rattle.pin_model.specs.Table.{KeyRecord, NameRecord, Table, key_is, key_recorded, settled_at, key_record, name_record}
use Rattle.pin_model.specs.Layout.{place_of, key_at, encode_key, encode_name, encode, name_slot}
use Rattle.pin_model.specs.Fits.{holds, four_bytes, name_fits, Fits}
use Rattle.pin_model.proofs.Places.{free_or, any_at}
use Rattle.pin_model.proofs.KeyPlaces.{place-once}
use Rattle.pin_model.proofs.Fits.{NameFits, name-fits, fits-name, name-fits-at}
use Rattle.pin_model.proofs.NameBytes.{name-length}
use Rattle.pin_model.proofs.Encoded.{encode-length, encode-name-slot}
use Rattle.pin_model.proofs.Written.{write-latest}
use Rattle.pin_model.proofs.Kept.{KeyWritten, NameWritten, fits-latest, floor-written, new-key-written, name-written}
use Rattle.pin_model.proofs.FloorByte.{floor-set}
use Rattle.pin_records.specs.Holds.{Distinct, Holds, with_key, with_name}
use Rattle.pin_records.specs.Find.{is_free}
use Rattle.pin_records.specs.Store.{with_floor, with_end, Fresh}
use Rattle.pin_records.proofs.DistinctNames.{distinct-same, distinct-added}

new-end : (keys : List (Option KeyRecord)) (r : NameRecord) (end : ℕ)
    → set (put (encode_name keys (some r)) 8 (big_endian 4 end)) 3 1 ≡ encode_name keys (with_end end (some r))
unfolding put encode_name big_endian
new-end keys r end = refl

-- the pieces of a new name's slot
abbrev pub new_name : ℕ → List ℕ → ℕ → List ℕ
new_name k name clock =
    ((((1 ∷ (k ∷ (length name ∷ (0 ∷ [])))) ++ big_endian 4 clock) ++ replicate 8 0) ++ name) ++ replicate (256 - length name) 0

new-name : (keys : List (Option KeyRecord)) (k clock : ℕ) (name key : List ℕ) → place_of key keys ≡ k
    → new_name k name clock ≡ encode_name keys (some (name_record name key clock none))
unfolding encode_name big_endian
new-name keys k clock name key e = rw e refl

held : {d : List ℕ} {u : Table} → Fits u → Distinct u.two u.names → d ≡ encode u → Holds d u
held {d} {u} fits distinct bytes = record { bytes = bytes; long = ap length bytes ∙ encode-length u fits; fits = fits; distinct = distinct }

module _ {b : List ℕ} {t : Table} (h : Holds b t) where
  -- what stands in a used slot
  name-there : (n : ℕ) (r : NameRecord) → n < 128 → get_or t.names n none ≡ some r → part b (4616 + 272 * n) 272 ≡ encode_name t.keys (some r)
  unfolding name_slot
  name-there n r l e = ap (λ (a : List ℕ). name_slot a n) h.bytes ∙ encode-name-slot t h.fits n l ∙ ap (encode_name t.keys) e

  -- a slot put into the area
  key-put : {d : List ℕ} {k : ℕ} {x : Option KeyRecord} → KeyWritten t k x → d ≡ put b (8 + 72 * k) (encode_key x) → Holds d (with_key t k x)
  key-put {d} {k} {x} w e = held w.fits h.distinct (e ∙ ap (λ (a : List ℕ). put a (8 + 72 * k) (encode_key x)) h.bytes ∙ w.area)

  name-put : {d : List ℕ} {n : ℕ} {x : Option NameRecord} → NameWritten t n x → Distinct t.two (set t.names n x)
      → d ≡ put b (4616 + 272 * n) (encode_name t.keys x) → Holds d (with_name t n x)
  name-put {d} {n} {x} w distinct e =
      held w.fits distinct (e ∙ ap (λ (a : List ℕ). put a (4616 + 272 * n) (encode_name t.keys x)) h.bytes ∙ w.area)

  -- the stores
  pub latest-stored : {d : List ℕ} (v : ℕ) → v < four_bytes → d ≡ put b 0 (big_endian 4 v) → Holds d (settled_at v t)
  latest-stored {d} v l e =
      held (fits-latest t h.fits v l) h.distinct (e ∙ ap (λ (a : List ℕ). put a 0 (big_endian 4 v)) h.bytes ∙ write-latest t v)

  pub floor-stored : (k floor : ℕ) → k < 64 → is_free (get_or t.keys k none) ≡ false
      → Holds (set b (8 + 72 * k + 1) floor) (with_key t k (with_floor floor (get_or t.keys k none)))
  floor-stored k floor l = go (get_or t.keys k none) refl
    where
      go : (y : Option KeyRecord) → get_or t.keys k none ≡ y → is_free y ≡ false
          → Holds (set b (8 + 72 * k + 1) floor) (with_key t k (with_floor floor y))
      go none e u = absurd (true≢false u)
      go (some x) e u =
          held (floor-written t h.fits k x floor l e).fits h.distinct
          (ap (λ (a : List ℕ). set a (8 + 72 * k + 1) floor) h.bytes ∙ floor-set t h.fits k x floor l e)

  pub key-stored : {d : List ℕ} (k floor : ℕ) (key : List ℕ) → k < 64 → is_free (get_or t.keys k none) ≡ true → length key ≡ 64
      → key_recorded key t ≡ false → d ≡ put b (8 + 72 * k) (1 ∷ (floor ∷ (replicate 6 0 ++ key)))
      → Holds d (with_key t k (some (key_record key floor)))
  unfolding encode_key
  key-stored {d} k floor key l free size fresh q = go (get_or t.keys k none) refl free
    where
      go : (y : Option KeyRecord) → get_or t.keys k none ≡ y → is_free y ≡ true → Holds d (with_key t k (some (key_record key floor)))
      go none e u = key-put (new-key-written t h.fits k (key_record key floor) l e (eq-eqb (length key) 64 size) fresh) q
      go (some x) e u = absurd (false≢true u)

  pub end-stored : {d : List ℕ} (n end : ℕ) → n < 128 → is_free (get_or t.names n none) ≡ false → end < four_bytes
      → d ≡ put b (4616 + 272 * n + 8) (big_endian 4 end)
      → Holds (set d (4616 + 272 * n + 3) 1) (with_name t n (with_end end (get_or t.names n none)))
  end-stored {d} n end l used-slot small q = go (get_or t.names n none) refl used-slot
    where
      go : (y : Option NameRecord) → get_or t.names n none ≡ y → is_free y ≡ false → Holds (set d (4616 + 272 * n + 3) 1) (with_name t n (with_end end y))
      go none e u = absurd (true≢false u)
      go (some r) e u =
          let at : ℕ = 4616 + 272 * n in
          let s : List ℕ = encode_name t.keys (some r) in
          let vs : List ℕ = big_endian 4 end in
          let x : NameRecord = name_record r.name r.key r.initial (some end) in
          let o : name_fits t.keys r ≡ true = ap (free_or (name_fits t.keys)) (sym e) ∙ name-fits-at t h.fits n in
          let f : NameFits t.keys r = name-fits t.keys r o in
          let four : length vs ≡ 4 = big_endian-length 4 end in
          let wide : length s ≡ 272 = name-length t.keys (some r) o in
          let as_wide : length (put s 8 vs) ≡ length s = put-length s 8 vs (omega arith) in
          name-put
          (name-written t h.fits n (some x) l
          (fits-name t.keys x (record { short = f.short; recorded = f.recorded; initial_fits = f.initial_fits; end_fits = small })))
          (distinct-same h.distinct n (rw h.fits.name_slots l) r x e refl refl)
          (ap (λ (a : List ℕ). set a (at + 3) 1) (q ∙ put-in-part b s at 272 8 vs (name-there n r l e) (omega (arith, h.long)) (omega arith))
          ∙ set-inside b at (put s 8 vs) 3 1 (omega (arith, h.long)) (omega arith)
          ∙ ap (put b at) (new-end t.keys r end))

  pub name-stored : {d : List ℕ} (n k clock : ℕ) (name : List ℕ) → n < 128 → k < 64 → is_free (get_or t.keys k none) ≡ false → length name ≤ 253
      → Fresh t.two name (key_at (get_or t.keys k none)) n t.names → clock < four_bytes → d ≡ put b (4616 + 272 * n) (new_name k name clock)
      → Holds d (with_name t n (some (name_record name (key_at (get_or t.keys k none)) clock none)))
  name-stored {d} n k clock name l m used-slot short fresh small q = go (get_or t.keys k none) refl used-slot fresh
    where
      go : (y : Option KeyRecord) → get_or t.keys k none ≡ y → is_free y ≡ false → Fresh t.two name (key_at y) n t.names
          → Holds d (with_name t n (some (name_record name (key_at y) clock none)))
      go none e u f = absurd (true≢false u)
      go (some x) e u f =
          let r : NameRecord = name_record name x.key clock none in
          let its : holds (key_is x.key) (get_or t.keys k none) ≡ true = ap (holds (key_is x.key)) e ∙ same_refl x.key in
          let place : place_of x.key t.keys ≡ k = place-once x.key t.keys k its (h.fits.key_once x.key) in
          name-put
          (name-written t h.fits n (some r) l
          (fits-name t.keys r (record { short = short; recorded = any_at (key_is x.key) t.keys k its; initial_fits = small; end_fits = omega arith })))
          (distinct-added h.distinct n (rw h.fits.name_slots l) r f)
          (q ∙ ap (put b (4616 + 272 * n)) (new-name t.keys k clock name x.key place))
