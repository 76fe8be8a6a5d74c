use Prim.Native.Nat.{◌-◌, ◌≤◌}
use mathlib.Core.Path.{◌≡◌}
use lib.ListN.{length}
use Rattle.salvage.specs.Places.{none_start}
use Rattle.salvage.proofs.search.none_start.Given as goal

abbrev pub invariant-loop-i : goal.invariant-loop-i
invariant-loop-i l = (l.i - 3 ≤ length l.s - 3) × (l.none ≡ none_start (l.i - 3) l.s)
