use Rattle.std.proofs.Common.{◌≡◌, ◌+◌, ◌≤◌, length}
use Rattle.blackdots.specs.Black.{ones_of}
use Rattle.blackdots.specs.Counting.{ones_said}
use Rattle.blackdots.proofs.ones.ones_in_blocks.Given as goal

abbrev pub invariant-loop-before : goal.invariant-loop-before
invariant-loop-before l = (l.t.eights.first + l.t.eights.second + length l.rest ≤ length l.bytes) × (ones_said l.t + ones_of l.rest ≡ ones_of l.bytes)

abbrev pub decreases-loop-before : goal.decreases-loop-before
decreases-loop-before l = length l.rest
