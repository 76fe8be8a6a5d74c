use Rattle.pictures.specs.Passing.{Passes, stopped_in}
use Rattle.std.proofs.Common.{◌-◌, ◌≤◌, length}
use Rattle.pictures.proofs.runs.Reader.pass_from.Given as goal

abbrev pub invariant-loop-stop : goal.invariant-loop-stop
invariant-loop-stop l = (l.row ≤ 65535) × (l.repeat ≤ 255) × (l.i.left ≤ l.width) × Passes l.width l.height l.src l.initial.i.at (stopped_in l.width l.initial.row l.initial.repeat l.initial.i).reader (stopped_in l.width l.row l.repeat l.i)

abbrev pub decreases-loop-stop : goal.decreases-loop-stop
decreases-loop-stop l = length l.src - l.i.at
