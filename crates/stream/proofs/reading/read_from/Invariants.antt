use lib.ListN.{length}
use Prim.Native.Nat.{◌-◌}
use mathlib.Core.Path.{◌≡◌}
use Rattle.stream.specs.Underway.{read_on, Underway}
use Rattle.stream.proofs.reading.read_from.Given as goal

abbrev pub invariant-loop-after : goal.invariant-loop-after
invariant-loop-after l = Underway (length l.stream) l.s l.x × (read_on l.stream l.s l.x ≡ read_on l.stream l.initial.s l.initial.x) × (length l.s ≡ length l.initial.s)

abbrev pub decreases-loop-after : goal.decreases-loop-after
decreases-loop-after l = length l.stream - l.x.at
