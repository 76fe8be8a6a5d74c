use Rattle.std.proofs.Common.{◌≡◌, take, drop, arith, ap}
use lib.Seq.{take_all}
use Rattle.blackdots.proofs.ByteOnes.{block_ones}
use Rattle.blackdots.specs.Black.{ones_of}
use Rattle.blackdots.specs.Counting.{ones_said}
use Rattle.blackdots.proofs.ones.add_block.Goals as goal

pub returns : goal.returns
unfolding ones_said
returns c =
    let b = c.args.block.now in
    let all : ones_of (take 128 (drop 0 b)) ≡ ones_of b = ap ones_of (take_all 128 b (omega arith)) in (
      omega (arith, c.count_more.ensures.0, c.add_pairs-last.ensures, c.add_pairs-rest.ensures, c.add_pairs-half.ensures, c.add_bytes-fourth.ensures, c.add_bytes-third.ensures, c.add_bytes-second.ensures, c.add_bytes-first.ensures, block_ones 0 b, all),
      omega (arith, c.count_more.ensures.0, c.count_more.ensures.1),
    )
