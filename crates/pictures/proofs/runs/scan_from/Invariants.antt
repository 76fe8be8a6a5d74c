use Rattle.pictures.specs.Runs.{scan_from}
use Rattle.std.proofs.Common.{◌≡◌, ◌+◌, ◌-◌, ◌≤◌, length, drop}
use Rattle.pictures.proofs.runs.scan_from.Given as goal

abbrev pub invariant-loop-i : goal.invariant-loop-i
invariant-loop-i l = (l.i ≤ length l.src) × (scan_from l.width l.height (l.used + l.i) l.s (drop l.i l.src) ≡ scan_from l.width l.height l.used l.initial.s l.src)

abbrev pub decreases-loop-i : goal.decreases-loop-i
decreases-loop-i l = length l.src - l.i
