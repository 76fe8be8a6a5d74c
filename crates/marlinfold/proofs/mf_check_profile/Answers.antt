use mathlib.Core.Path.{ap}
use Rattle.marlinfold.specs.Calls.{of_check}
use Rattle.marlinfold.proofs.mf_check_profile.Goals as goal

pub returns : goal.returns
returns c = ap (of_check _) c.check_profile.ensures
