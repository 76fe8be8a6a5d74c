use Rattle.std.proofs.Common.{◌≡◌, ◌+◌, ◌*◌, ◌≤◌, length}
use Rattle.blackdots.specs.Black.{ones_of}
use Rattle.blackdots.proofs.ones.ones_by_words.Given as goal

abbrev pub invariant-loop-eight : goal.invariant-loop-eight
invariant-loop-eight l = (l.n + 8 * length l.rest ≤ 8 * length l.bytes) × (l.n + ones_of l.rest ≡ ones_of l.bytes)

abbrev pub decreases-loop-eight : goal.decreases-loop-eight
decreases-loop-eight l = length l.rest
