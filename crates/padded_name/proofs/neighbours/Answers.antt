-- The tests are those of the definition.
use Rattle.padded_name.specs.Neighbours.{neighbours}
use Rattle.padded_name.proofs.neighbours.Goals as goal

pub returns : goal.returns
unfolding neighbours
returns c = rw (c.name_byte.ensures, c.max.ensures)
