use Rattle.std.proofs.Common.{arith}
use Rattle.turning.proofs.BlockLaws.{turned_all}
use Rattle.turning.proofs.block.quarter_turn.Goals as goal

pub returns : goal.returns
returns c = let p = c.args.picture in turned_all c.args.up p.width p.height p.bytes.now c.loop-at.out c.loop-at.at p.high.0 (omega arith) (omega arith) c.loop-at.invariant
