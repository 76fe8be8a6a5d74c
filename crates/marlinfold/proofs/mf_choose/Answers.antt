use Rattle.marlinfold.proofs.Outcomes.{chosen_by_lem}
use Rattle.marlinfold.proofs.mf_choose.Goals as goal

pub returns : goal.returns
returns c = chosen_by_lem c.font_chosen.ensures.0 c.font_chosen.ensures.1 (rw c.request_by-r.ensures at c.choose.ensures)
