use Rattle.std.proofs.Common.{◌≡◌, ℕ, ◌+◌, ◌*◌, ◌<◌, ◌≤◌, length, take}
use Rattle.pictures.specs.Size.{runs_class, row_size}
use Rattle.pictures.specs.Rows.{picture, runs_row}
use Rattle.pictures.proofs.compressed.draw_runs.Given as goal

abbrev pub invariant-loop-repeat : goal.invariant-loop-repeat
invariant-loop-repeat l = (l.top ≤ l.height) × (length l.out ≡ length l.initial.out) × (take (l.top * row_size l.width) l.out ≡ picture runs_class l.width l.bytes l.top)
    × (l.top < l.height → (j : ℕ) → runs_row l.width l.rest j ≡ runs_row l.width l.bytes (l.top + j))

abbrev pub decreases-loop-repeat : goal.decreases-loop-repeat
decreases-loop-repeat l = length l.rest
