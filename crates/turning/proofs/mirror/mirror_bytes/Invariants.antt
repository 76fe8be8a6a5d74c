use Rattle.std.proofs.Common.{◌≡◌, ◌-◌, ◌≤◌, length, take, drop, map, reverse}
use Rattle.turning.specs.Mirror.{mirror}
use Rattle.turning.proofs.mirror.mirror_bytes.Given as goal

abbrev pub invariant-loop-before : goal.invariant-loop-before
invariant-loop-before l = (l.rest ≡ take (length l.rest) l.bytes) × (length l.rest ≤ length l.bytes)
    × (take (length l.bytes - length l.rest) l.out ≡ map mirror (reverse (drop (length l.rest) l.bytes)))

abbrev pub decreases-loop-before : goal.decreases-loop-before
decreases-loop-before l = length l.rest
