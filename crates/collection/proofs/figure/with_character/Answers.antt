use Rattle.collection.specs.Figures.{joined}
use Rattle.collection.proofs.figure.with_character.Goals as goal

pub returns : goal.returns
unfolding joined
returns c = rw (c.lesser_width.ensures, c.max.ensures)
