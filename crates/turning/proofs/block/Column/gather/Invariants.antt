use Rattle.std.proofs.Common.{◌≡◌, ℕ, ◌+◌, ◌≤◌, ◌<◌, length, get_or}
use Rattle.pictures.specs.Size.{row_size}
use Rattle.turning.specs.Block.{column_byte}
use Rattle.turning.proofs.block.Column.gather.Given as goal

abbrev pub invariant-loop-i : goal.invariant-loop-i
invariant-loop-i l = ((j : ℕ) → j < l.i → get_or l.bytes j 0 ≡ column_byte l.self.picture.bytes.now (row_size l.self.picture.width) l.self.picture.height l.self.up l.self.at (l.first + j))
    × ((j : ℕ) → l.i ≤ j → get_or l.bytes j 0 ≡ 0) × (length l.bytes ≡ 8)
