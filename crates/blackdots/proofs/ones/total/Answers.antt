use Rattle.std.proofs.Common.{arith}
use Rattle.blackdots.specs.Counting.{ones_said}
use Rattle.blackdots.proofs.ones.total.Goals as goal

pub returns : goal.returns
unfolding ones_said
returns c =
    let f = c.count_pair-3.ensures in
    let t = c.count_pair-2.ensures in
    let o = c.count_pair.ensures in
    (omega (arith, o.0, t.0, f.0), omega (arith, o.1, t.1, f.1))
