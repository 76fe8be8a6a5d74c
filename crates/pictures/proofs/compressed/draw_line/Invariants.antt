use Rattle.std.proofs.Common.{◌≡◌, ◌≤◌, Bool, List, length, drop}
use Rattle.pictures.specs.Dots.{pack}
use Rattle.pictures.specs.Drawing.{read_line, line_from}
use Rattle.pictures.proofs.compressed.draw_line.Given as goal

abbrev pub invariant-loop-i : goal.invariant-loop-i
invariant-loop-i l = ((length l.out ≡ length l.initial.out) × (l.filled ≤ 65535))
    × ((ds : List Bool) × (length ds ≡ l.filled) × (l.out ≡ pack (length l.out) ds) × (read_line l.width ds l.black l.i (drop l.i l.runs) ≡ line_from l.width l.runs 0))
