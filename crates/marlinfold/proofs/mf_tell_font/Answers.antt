use mathlib.Core.Path.{ap}
use Rattle.marlinfold.specs.Calls.{of_telling}
use Rattle.marlinfold.proofs.mf_tell_font.Goals as goal

pub returns : goal.returns
returns c = ap (of_telling _) c.tell_font.ensures
