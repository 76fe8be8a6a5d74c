use Rattle.std.proofs.Common.{length}
use Rattle.blackdots.proofs.ByteOnes.{RowsCounted}
use Rattle.blackdots.proofs.beyond.beyond_by_rows.Given as goal

abbrev pub invariant-loop-rest : goal.invariant-loop-rest
invariant-loop-rest l = RowsCounted l.n l.mask l.rows l.rest l.k

abbrev pub decreases-loop-rest : goal.decreases-loop-rest
decreases-loop-rest l = length l.rest
