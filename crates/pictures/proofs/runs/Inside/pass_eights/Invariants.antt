use Rattle.std.proofs.Common.{◌-◌}
use Rattle.pictures.specs.Passing.{PassesRuns}
use Rattle.pictures.proofs.runs.Inside.pass_eights.Given as goal

abbrev pub invariant-loop-i : goal.invariant-loop-i
invariant-loop-i l = PassesRuns l.src l.initial.i l.i

abbrev pub decreases-loop-i : goal.decreases-loop-i
decreases-loop-i l = l.last - l.i.at
