use Rattle.choice.specs.Fields.{compared_pitch}
use Rattle.choice.proofs.compared_pitch.Goals as goal

pub returns : goal.returns
unfolding compared_pitch
returns c = (λ p n. c.compared.ensures.0, c.compared.ensures.1)
