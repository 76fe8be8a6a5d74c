use Rattle.turning.proofs.SwapLaws.{transposed}
use Rattle.turning.proofs.block.transpose.Goals as goal

pub returns : goal.returns
returns c = λ i j l m. rw (c.swap.ensures, c.swap-twos.ensures, c.swap-ones.ensures) (transposed c.args.block i j l m)
