use Rattle.turning.specs.Columns.{BlockPut}
use Rattle.turning.proofs.block.Column.scatter.Given as goal

abbrev pub invariant-loop-i : goal.invariant-loop-i
invariant-loop-i l = BlockPut l.self l.block l.place l.i l.initial.out l.out
