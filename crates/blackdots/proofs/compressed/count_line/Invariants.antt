use Rattle.std.proofs.Common.{length}
use Rattle.blackdots.specs.Counting.{CountedTo}
use Rattle.blackdots.proofs.compressed.count_line.Given as goal

abbrev pub invariant-loop-white : goal.invariant-loop-white
invariant-loop-white l = CountedTo l.width l.runs l.rest l.left l.black

abbrev pub decreases-loop-white : goal.decreases-loop-white
decreases-loop-white l = length l.rest
