use Rattle.blocks.specs.Character.{fix_first, kept_first}
use Rattle.blocks.proofs.character.keep_first.Goals as goal

pub returns : goal.returns
unfolding fix_first kept_first
returns c = cc
