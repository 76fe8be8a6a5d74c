use Rattle.marlinfold.proofs.Outcomes.{added_by}
use Rattle.marlinfold.proofs.mf_add_figures.Goals as goal

pub returns : goal.returns
returns c = added_by _ c.add_figures.ensures.value c.add_figures.ensures.figures_after
