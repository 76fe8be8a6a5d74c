use mathlib.Core.Path.{◌≡◌}
use Rattle.salvage.specs.Salvage.{restart_from}
use Rattle.salvage.proofs.search.first_in.Given as goal

abbrev pub invariant-loop-i : goal.invariant-loop-i
invariant-loop-i l = restart_from l.stream l.i ≡ restart_from l.stream l.from
