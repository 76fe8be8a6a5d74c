use Rattle.std.proofs.Common.{arith}
use Rattle.blackdots.specs.Counting.{ones_of_two}
use lib.Count.{ones-le}
use Rattle.blackdots.proofs.ones.count_more.Goals as goal

pub returns : goal.returns
unfolding ones_of_two
returns c =
    let x = c.args.x in
    (omega (arith, c.from.ensures, c.from-2.ensures), omega (arith, ones-le 64 x.first (omega arith), ones-le 64 x.second (omega arith)))
