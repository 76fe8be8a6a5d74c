use Rattle.std.proofs.Common.{◌≡◌, length}
use Rattle.pictures.specs.Rows.{runs_row}
use Rattle.pictures.proofs.compressed.seek.Given as goal

abbrev pub invariant-loop-repeat : goal.invariant-loop-repeat
invariant-loop-repeat l = runs_row l.width l.rest l.above ≡ runs_row l.width l.bytes l.row

abbrev pub decreases-loop-repeat : goal.decreases-loop-repeat
decreases-loop-repeat l = length l.rest
