use Rattle.choice.specs.Fields.{compared_height}
use Rattle.choice.proofs.compared_height.Goals as goal

pub returns : goal.returns
unfolding compared_height
returns c = (λ p n. c.compared.ensures.0, c.compared.ensures.1)
