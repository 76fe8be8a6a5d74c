use Rattle.std.proofs.Common.{arith}
use Rattle.blackdots.specs.Counting.{ones_of_two}
use Rattle.blackdots.proofs.ones.add_pairs.Goals as goal

pub returns : goal.returns
unfolding ones_of_two
returns c = omega (arith, c.add_three-two.ensures, c.add_three-one.ensures)
