use Rattle.std.proofs.Common.{◌≡◌, ◌*◌, take}
use Rattle.pictures.specs.Size.{row_size}
use Rattle.turning.specs.Turn.{turned}
use Rattle.turning.proofs.mirror.mirror_rows.Given as goal

abbrev pub invariant-loop-row : goal.invariant-loop-row
invariant-loop-row l = take (l.row * row_size l.picture.width) l.out ≡ take (l.row * row_size l.picture.width) (turned 2 l.picture.width l.picture.height l.picture.bytes.now)
