use Rattle.choice.specs.Steps.{in_mode}
use Rattle.choice.proofs.in_mode.Goals as goal

pub returns : goal.returns
unfolding in_mode
returns c = λ p n. rw (c.is_fine.ensures p n)
