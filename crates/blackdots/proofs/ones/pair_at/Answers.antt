use Rattle.std.proofs.Common.{arith}
use Rattle.blackdots.proofs.ByteOnes.{ones_split}
use Rattle.blackdots.specs.Counting.{ones_of_two}
use Rattle.blackdots.proofs.ones.pair_at.Goals as goal

pub returns : goal.returns
unfolding ones_of_two
returns c =
    let a = c.args in
    omega (arith, c.word_at-2.ensures, c.word_at.ensures, ones_split 8 8 a.at a.bytes.now)
