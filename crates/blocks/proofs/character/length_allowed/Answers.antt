use mathlib.Core.Path.{refl}
use Rattle.blocks.specs.Character.{character_length}
use Rattle.blocks.proofs.character.length_allowed.Goals as goal

pub returns : goal.returns
unfolding character_length
returns c = refl
