use mathlib.Core.Path.{◌∙◌}
use Rattle.marlinfold.proofs.Outcomes.{turned_by}
use Rattle.marlinfold.proofs.mf_turn_picture.Goals as goal

pub returns : goal.returns
returns c = turned_by _ (c.answer.ensures ∙ c.turn_picture.ensures.value) c.turn_picture.ensures.out_after
