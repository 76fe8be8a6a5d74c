use Rattle.std.proofs.Common.{◌≡◌, ℕ, ◌-◌, ◌<◌, get_or}
use Rattle.turning.specs.Mirror.{mirror}
use Rattle.turning.proofs.mirror.mirror_eight.Given as goal

abbrev pub invariant-loop-k : goal.invariant-loop-k
invariant-loop-k l = (k : ℕ) → k < l.k → get_or l.out k 0 ≡ mirror (get_or l.bytes (7 - k) 0)
