use Rattle.profile.specs.Profile.{height_inside}
use Rattle.profile.proofs.rules.height_inside.Goals as goal

pub returns : goal.returns
unfolding height_inside
returns c = rw (c.cell_height.ensures, c.height.ensures)
