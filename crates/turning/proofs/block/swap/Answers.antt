use Rattle.turning.specs.Block.{swapped}
use mathlib.Core.Path.{refl}
use Rattle.turning.proofs.block.swap.Goals as goal

pub returns : goal.returns
unfolding swapped
returns c = refl
