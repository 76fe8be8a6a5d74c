use Rattle.profile.specs.Profile.{advances_by_pitch}
use Rattle.profile.proofs.rules.advances_by_pitch.Goals as goal

pub returns : goal.returns
unfolding advances_by_pitch
returns c = rw (c.pitch.ensures, c.delta_x.ensures)
