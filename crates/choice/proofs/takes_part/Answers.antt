use Rattle.choice.specs.Steps.{has_set, takes_part}
use Rattle.choice.proofs.takes_part.Goals as goal

pub returns : goal.returns
unfolding takes_part has_set
returns c = λ p n. rw (c.kept_word-set.ensures.0, c.in_mode.ensures p n)
