-- Soundness of a table of records, by document 01, 'Sound means', and document 02, Q-3: an area is sound exactly when it is the encoding of such
-- a table. Cited by that theorem and by functions between the open ones and the bytes: a reader of the open contracts can skip this file.
use Rattle.std.specs.Prelude.{Bool, true, ◌&&◌, List, ℕ, ◌+◌, eqb, leb, length}
use Rattle.std.proofs.Math.Option.{Option, none, some}
use Rattle.octets.specs.Octets.{all, any}
use Rattle.host_name.specs.Name.{well_formed}
use Rattle.pin_model.specs.Slots.{count, used, apart}
use Rattle.pin_model.specs.Table.{thirty_days, clock_limit, NameRecord, Table, key_is, name_is, pinned_to, pin_is, key_recorded, records_of_a_name}

-- of the records: the layout's own rules are in Sound.antt
abbrev pub sound_end : ℕ → ℕ → Option ℕ → Bool
sound_end latest initial none = true
sound_end latest initial (some end) = leb initial end && leb end (latest + thirty_days)

abbrev pub sound_name : ℕ → NameRecord → Bool
sound_name latest r = well_formed r.name && (leb r.initial latest && sound_end latest r.initial r.end)

-- no name has more records than it may have
abbrev pub names_few : Bool → List NameRecord → Bool
names_few two names = all (λ r. leb (count (name_is r.name) names) (records_of_a_name two)) names

abbrev pub sound_table : Table → Bool
sound_table t =
    leb t.latest clock_limit
    && (eqb (length t.keys) 64 && (eqb (length t.names) 128
    && (apart (λ k j. key_is k.key j) (used t.keys)
    && ((names_few t.two (used t.names) && apart (λ r s. pin_is r.name r.key s) (used t.names))
    && (all (λ r. key_recorded r.key t) (used t.names)
    && (all (λ k. any (pinned_to k.key) (used t.names)) (used t.keys)
    && all (sound_name t.latest) (used t.names)))))))
