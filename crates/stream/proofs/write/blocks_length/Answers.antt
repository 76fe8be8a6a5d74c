use Rattle.stream.proofs.Writes.{one_length, two_length}
use native.Mathlib.Omega.{arith}
use Rattle.stream.proofs.write.blocks_length.Goals as goal

pub returns-then-n-le-BLOCK_LIMIT : goal.returns-then-n-le-BLOCK_LIMIT
returns-then-n-le-BLOCK_LIMIT c = (λ b e. one_length b c.args.n _ e c.if-n-le-BLOCK_LIMIT.true c.command_length.ensures.0, omega (arith, c.command_length.ensures.1))

pub returns : goal.returns
returns c = (λ b e. two_length b c.args.n _ _ e c.if-n-le-BLOCK_LIMIT.false c.command_length-2.ensures.0 c.command_length-3.ensures.0, omega (arith, c.command_length-2.ensures.1, c.command_length-3.ensures.1))
