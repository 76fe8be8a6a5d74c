use Rattle.std.proofs.Common.{◌≡◌, ◌-◌, ◌*◌, ◌<◌, ◌≤◌, ◌++◌, length, take, drop}
use Rattle.pictures.specs.Drawing.{repeated}
use Rattle.pictures.proofs.compressed.repeat_row.Given as goal

abbrev pub invariant-loop-done : goal.invariant-loop-done
invariant-loop-done l = (0 < l.done) × (l.done ≤ l.times) × (length l.out ≡ length l.initial.out) × (l.out ≡ repeated l.done (take l.n l.initial.out) ++ drop (l.done * l.n) l.initial.out)

abbrev pub decreases-loop-done : goal.decreases-loop-done
decreases-loop-done l = l.times - l.done
