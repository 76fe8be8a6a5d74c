use Rattle.std.proofs.Common.{arith}
use Rattle.turning.proofs.BlockLaws.{columns_next}
use Rattle.turning.proofs.block.Column.turn.Goals as goal

pub loop-place-preserved : goal.loop-place-preserved
loop-place-preserved c =
    let k = c.args.self in
    let p = k.picture in
    λ t. columns_next k.up p.width p.height p.bytes.now k.at p.fit c.loop-place.place c.gather_block.result c.transpose-block.result c.loop-place.out c.scatter_block.new.out (omega arith)
    c.gather_block.ensures c.transpose-block.ensures c.scatter_block.ensures (c.loop-place.invariant t)
