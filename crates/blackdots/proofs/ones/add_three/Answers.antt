use Rattle.std.proofs.Common.{arith}
use Rattle.blackdots.proofs.Adding.{three_ones}
use Rattle.blackdots.proofs.ones.add_three.Goals as goal

pub returns : goal.returns
returns c = three_ones 64 c.args.a c.args.b c.args.c (omega arith) (omega arith) (omega arith)
