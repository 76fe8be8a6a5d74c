use Rattle.std.proofs.Common.{◌*◌}
use Rattle.pictures.specs.Size.{row_size}
use Rattle.turning.specs.Block.{TurnedUpTo}
use Rattle.turning.proofs.block.quarter_turn.Given as goal

abbrev pub invariant-loop-at : goal.invariant-loop-at
invariant-loop-at l = TurnedUpTo l.up l.picture.width l.picture.height (row_size l.picture.height) l.picture.bytes.now (l.at * 8) l.out
