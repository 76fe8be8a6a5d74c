use Rattle.std.proofs.Common.{◌≡◌, ℕ, ◌*◌, ◌<◌, List, ◌++◌, length, get_or, drop}
use Rattle.pictures.specs.Size.{bitmap_class, row_size, picture_size}
use Rattle.pictures.specs.Rows.{picture}
use Rattle.pictures.specs.Drawing.{padded}
use Rattle.pictures.proofs.bitmap.clip_rows.Given as goal

abbrev pub invariant-loop-row : goal.invariant-loop-row
invariant-loop-row l = (length l.out ≡ length l.initial.out)
    × ((d : List ℕ) → ((i : ℕ) → get_or d i 0 < 256) → l.initial.out ≡ padded (picture_size l.width l.fn.height) d → l.out ≡ picture bitmap_class l.width d l.row ++ drop (l.row * row_size l.width) l.initial.out)
