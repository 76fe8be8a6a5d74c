use Rattle.profile.specs.Profile.{left_inside}
use Rattle.profile.proofs.rules.left_inside.Goals as goal

pub returns : goal.returns
unfolding left_inside
returns c = rw (c.is_negative.ensures, c.left_offset.ensures)
