use Rattle.std.proofs.Common.{arith}
use Rattle.blackdots.proofs.ByteOnes.{ones_split}
use Rattle.blackdots.proofs.ones.add_bytes.Goals as goal

pub returns : goal.returns
returns c =
    let a = c.args in
    omega (arith, c.add_pairs.ensures, c.pair_at-2.ensures, c.pair_at.ensures, ones_split 16 16 a.at a.bytes.now)
