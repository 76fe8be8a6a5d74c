use Rattle.std.proofs.Common.{length}
use Rattle.blackdots.specs.Counting.{CountedTo}
use Rattle.blackdots.proofs.compressed.pass_eights.Given as goal

abbrev pub invariant-loop-eight : goal.invariant-loop-eight
invariant-loop-eight l = CountedTo l.width l.runs l.rest l.left l.black

abbrev pub decreases-loop-eight : goal.decreases-loop-eight
decreases-loop-eight l = length l.rest
