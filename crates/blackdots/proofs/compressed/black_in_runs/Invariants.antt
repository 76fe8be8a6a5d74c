use Rattle.std.proofs.Common.{length}
use Rattle.blackdots.proofs.RunDots.{Rows}
use Rattle.blackdots.proofs.compressed.black_in_runs.Given as goal

abbrev pub invariant-loop-repeats : goal.invariant-loop-repeats
invariant-loop-repeats l = Rows l.width l.height l.bytes l.rest l.top l.n

abbrev pub decreases-loop-repeats : goal.decreases-loop-repeats
decreases-loop-repeats l = length l.rest
