use Rattle.std.proofs.Common.{◌≡◌, ◌+◌, Bool, List, length, drop}
use Rattle.pictures.specs.Drawing.{read_line, line_from}
use Rattle.pictures.proofs.compressed.skip_line.Given as goal

abbrev pub invariant-loop-i : goal.invariant-loop-i
invariant-loop-i l = (ds : List Bool) × (c : Bool) × (length ds + l.left ≡ l.width) × (read_line l.width ds c l.i (drop l.i l.runs) ≡ line_from l.width l.runs 0)
