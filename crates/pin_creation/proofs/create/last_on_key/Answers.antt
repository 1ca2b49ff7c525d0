-- Every slot is the record's own, or its record is pinned to another key.
use mathlib.Core.Path.{◌≡◌, refl, ap, ◌∙◌}
use mathlib.Core.Bool.{false, not, ◌||◌}
use mathlib.Core.Option.{none}
use lib.Dec.{eqb}
use lib.ListN.{get_or}
use Rattle.std.proofs.Common.{rules}
use Rattle.std.proofs.iter.Serving.{serving}
use Rattle.pin_model.specs.Layout.{decode}
use Rattle.pin_model.specs.Fits.{holds}
use Rattle.pin_table.proofs.Ranges.{all-below, below}
use Rattle.pin_records.specs.Find.{is_free}
use Rattle.pin_creation.proofs.RoomFound.{pin_at, on_key, alone}
use Rattle.pin_creation.proofs.create.last_on_key.Goals as goal

pub all-requires-clause-callable : goal.all-requires-clause-callable
all-requires-clause-callable c =
    let u : is_free (get_or (decode c.args.area.now).keys c.key_of-k.result none) ≡ false =
    (pin_at c.requires.0 c.args.n _ c.requires.1 c.key_of-k.ensures.1).in_use in
    grind serving

pub returns : goal.returns
returns c =
    let t = decode c.args.area.now in
    let k = c.key_of-k.result in
    all-below (λ m. eqb m c.args.n || not (holds (on_key t k) (get_or t.names m none))) 128 _ _ _ c.all.ensures.ran (below 128 refl) (λ x b q k. search rules)
    ∙ alone c.requires.0 c.args.n k c.requires.1 c.key_of-k.ensures.1
