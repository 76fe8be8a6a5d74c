use Rattle.choice.specs.Fields.{is_fine}
use Rattle.choice.proofs.is_fine.Goals as goal

pub returns : goal.returns
unfolding is_fine
returns c = λ p n. rw c.kept_word.ensures.0
