use Prim.Native.Nat.{◌+◌, ◌*◌}
use mathlib.Core.Path.{◌≡◌}
use Rattle.salvage.specs.Salvage.{restart_from}
use Rattle.salvage.proofs.search.next_restart.Given as goal

abbrev pub invariant-loop-k : goal.invariant-loop-k
invariant-loop-k l = restart_from l.stream (l.at + l.k * 64) ≡ restart_from l.stream l.at
