-- For the code alone: a column of bytes, and what comes of it in the turned picture.
use Rattle.std.specs.Prelude.{ℕ, ◌+◌, ◌*◌, ◌≡◌, List, length}
use Rattle.pictures.specs.Size.{row_size, picture_size}
use Rattle.turning.specs.Block.{join_bytes, column_byte, Put, TurnedUpTo}
use Rattle.turning.specs.declared.block.Column.{Column}

-- two of the same picture, at the same place, for the same turn
abbrev pub SameColumn : Column → Column → Type 0
SameColumn k l = (k.picture ≡ l.picture) × (k.at ≡ l.at) × (k.up ≡ l.up)

-- the block of eight of its bytes, from a row on
abbrev pub column_block : Column → ℕ → ℕ
column_block k first = join_bytes 8 (λ (i : ℕ). column_byte k.picture.bytes.now (row_size k.picture.width) k.picture.height k.up k.at (first + i))

-- bytes that are as many as the turned picture's
abbrev pub FitsTurned : Column → List ℕ → Type 0
FitsTurned k out = length out ≡ picture_size k.picture.height k.picture.width

-- so many bytes of a block stand at a place of the rows that come of it
abbrev pub BlockPut : Column → ℕ → ℕ → ℕ → List ℕ → List ℕ → Type 0
BlockPut k block place count before out = Put block (row_size k.picture.height) k.picture.width k.up place (k.at * 8) count before out

-- the output has what comes of the picture's first `done` columns of dots
abbrev pub Done : Column → ℕ → List ℕ → Type 0
Done k done out = TurnedUpTo k.up k.picture.width k.picture.height (row_size k.picture.height) k.picture.bytes.now done out
