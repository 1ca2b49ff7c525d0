-- An area whose slots are cleared: one name, one key, and every key that no name is left on.
use mathlib.Core.Path.{◌≡◌, refl, sym, ◌∙◌, ap, subst}
use mathlib.Core.Bool.{Bool, true, false, not, true≢false}
use mathlib.Core.List.{List}
use mathlib.Core.Option.{Option, none, some}
use Prim.Native.Nat.{ℕ, ◌+◌, ◌*◌, ◌≤◌, ◌<◌}
use native.Mathlib.Omega.{arith}
use lib.ListN.{length, get_or, replicate}
use Rattle.octets.specs.Octets.{any, put}
use Rattle.pin_model.specs.Slots.{used}
use Rattle.pin_model.specs.Table.{KeyRecord, NameRecord, Table, holding, pinned_to}
use Rattle.pin_model.specs.Layout.{key_at, encode_key, encode_name, encode, decode}
use Rattle.pin_model.specs.Fits.{holds, Fits}
use Rattle.pin_model.proofs.Places.{any_at, any_none}
use Rattle.pin_model.proofs.Encoded.{encode-length}
use Rattle.pin_model.proofs.Kept.{KeyWritten, NameWritten, name-written, freed-key-written}
use Rattle.pin_records.specs.Holds.{Distinct, Holds, with_key, with_name, without_unnamed}
use Rattle.pin_records.specs.Find.{is_free}
use Rattle.pin_records.proofs.DistinctNames.{distinct-cleared}
use Rattle.pin_records.proofs.Placed.{Used, is-used}
use Rattle.pin_records.proofs.HeldSlots.{holds-decode}
use Rattle.pin_records.proofs.FreedSlots.{freed_to, freed-to-at, freed-to-goes, freed-to-stays, freed-to-all}

holds-written : (d : List ℕ) (u : Table) → d ≡ encode u → Fits u → Distinct u.two u.names → Holds d u
holds-written d u e f distinct = record { bytes = e; long = ap length e ∙ encode-length u f; fits = f; distinct = distinct }

module _ {b d : List ℕ} {t : Table} (h : Holds b t) where
  pub name-cleared : (n : ℕ) → n < 128 → d ≡ put b (4616 + 272 * n) (replicate 272 0) → Holds d (with_name t n none)
  unfolding encode_name
  name-cleared n l e =
      let w : NameWritten t n none = name-written t h.fits n none l refl in
      holds-written d (with_name t n none) (e ∙ ap (λ (a : List ℕ). put a (4616 + 272 * n) (replicate 272 0)) h.bytes ∙ w.area) w.fits
      (distinct-cleared h.distinct n (rw h.fits.name_slots l))

  pub key-cleared : (k : ℕ) → k < 64 → is_free (get_or t.keys k none) ≡ false → any (pinned_to (key_at (get_or t.keys k none))) (used t.names) ≡ false
      → d ≡ put b (8 + 72 * k) (replicate 72 0) → Holds d (with_key t k none)
  unfolding encode_key
  key-cleared k l u unpinned e =
      let x : Used (get_or t.keys k none) = is-used (get_or t.keys k none) u in
      let w : KeyWritten t k none =
      freed-key-written t h.fits k x.what l x.there
      (ap (λ (y : Option KeyRecord). any (pinned_to (key_at y)) (used t.names)) (sym x.there) ∙ unpinned) in
      holds-written d (with_key t k none) (e ∙ ap (λ (a : List ℕ). put a (8 + 72 * k) (replicate 72 0)) h.bytes ∙ w.area) w.fits h.distinct

-- no name is left on the key
abbrev unnamed : List (Option NameRecord) → KeyRecord → Bool
unnamed names x = not (any (pinned_to x.key) (used names))

-- the loop over the keys: those below k are done
abbrev pub stage : Table → ℕ → Table
stage t k = holding t (freed_to (unnamed t.names) k t.keys) t.names

module _ (t : Table) {b : List ℕ} (k : ℕ) (h : Holds b (stage t k)) where
  back : decode b ≡ stage t k
  back = holds-decode h

  slot : get_or (decode b).keys k none ≡ get_or t.keys k none
  slot = ap (λ (u : Table). get_or u.keys k none) back ∙ freed-to-at (unnamed t.names) k t.keys

  -- whether a name is left on the key, as it was at the start
  left : any (pinned_to (key_at (get_or (decode b).keys k none))) (used (decode b).names) ≡ any (pinned_to (key_at (get_or t.keys k none))) (used t.names)
  left =
      ap (λ (x : Option KeyRecord). any (pinned_to (key_at x)) (used (decode b).names)) slot
      ∙ ap (λ (u : Table). any (pinned_to (key_at (get_or t.keys k none))) (used u.names)) back

  stays : holds (unnamed t.names) (get_or t.keys k none) ≡ false → Holds b (stage t (k + 1))
  stays e =
      subst (λ (l : List (Option KeyRecord)). Holds b (holding t l t.names)) (freed-to-stays (unnamed t.names) k t.keys e) h

  pub stage-free : is_free (get_or (decode b).keys k none) ≡ true → Holds b (stage t (k + 1))
  stage-free e = stays (go (get_or t.keys k none) (ap is_free (sym slot) ∙ e))
    where
      go : (x : Option KeyRecord) → is_free x ≡ true → holds (unnamed t.names) x ≡ false
      go none e = refl
      go (some a) e = absurd (true≢false (sym e))

  pub stage-named : (n : ℕ) → holds (pinned_to (key_at (get_or (decode b).keys k none))) (get_or (decode b).names n none) ≡ true → Holds b (stage t (k + 1))
  stage-named n e =
      stays (go (get_or t.keys k none) (sym left ∙ any_at (pinned_to (key_at (get_or (decode b).keys k none))) (decode b).names n e))
    where
      go : (x : Option KeyRecord) → any (pinned_to (key_at x)) (used t.names) ≡ true → holds (unnamed t.names) x ≡ false
      go none e = refl
      go (some a) e = ap not e

  pub stage-unnamed : ((n : ℕ) → n < 128 → holds (pinned_to (key_at (get_or (decode b).keys k none))) (get_or (decode b).names n none) ≡ false)
      → any (pinned_to (key_at (get_or (decode b).keys k none))) (used (decode b).names) ≡ false
  stage-unnamed f =
      any_none (pinned_to (key_at (get_or (decode b).keys k none))) (decode b).names (λ n l.
      f n (omega (arith, ap (λ (u : Table). length u.names) back, h.fits.name_slots)))

  pub stage-cleared : {d : List ℕ} → is_free (get_or (decode b).keys k none) ≡ false
      → ((n : ℕ) → n < 128 → holds (pinned_to (key_at (get_or (decode b).keys k none))) (get_or (decode b).names n none) ≡ false)
      → Holds d (with_key (decode b) k none) → Holds d (stage t (k + 1))
  stage-cleared {d} u f g =
      subst (λ (l : List (Option KeyRecord)). Holds d (holding t l t.names))
      (freed-to-goes (unnamed t.names) k t.keys (go (get_or t.keys k none) (ap is_free (sym slot) ∙ u) (sym left ∙ stage-unnamed f)))
      (subst (λ (v : Table). Holds d (with_key v k none)) back g)
    where
      go : (x : Option KeyRecord) → is_free x ≡ false → any (pinned_to (key_at x)) (used t.names) ≡ false → holds (unnamed t.names) x ≡ true
      go none u e = absurd (true≢false u)
      go (some a) u e = ap not e

pub stage-end : (t : Table) {b : List ℕ} (k : ℕ) → Holds b (stage t k) → length t.keys ≡ 64 → 64 ≤ k → Holds b (without_unnamed t)
stage-end t {b} k h slots l =
    subst (λ (l : List (Option KeyRecord)). Holds b (holding t l t.names)) (freed-to-all (unnamed t.names) k t.keys (omega arith)) h
