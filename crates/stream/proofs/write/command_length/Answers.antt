use Rattle.stream.proofs.Decimals.{decimal_short}
use native.Mathlib.Omega.{arith}
use Rattle.stream.proofs.write.command_length.Goals as goal

pub overflow_add-result : goal.overflow_add-result
overflow_add-result c = omega (arith, c.digit_count.ensures, decimal_short 4 c.args.n c.requires)

pub returns : goal.returns
returns c = (omega (arith, c.digit_count.ensures), omega (arith, c.digit_count.ensures, decimal_short 4 c.args.n c.requires))
