-- For the code alone: a line's numbers four by four, and the lines by the figures as they stand in bytes.
use Rattle.std.specs.Prelude.{ℕ, zero, suc, List, [], ◌++◌, slice_index}
use Rattle.text.specs.Column.{space, column}
use Rattle.collection.specs.Figures.{figure_at}
use Rattle.figures.specs.Table.{code_line}

abbrev pub four_columns : List ℕ → ℕ → List ℕ
four_columns n after = column (slice_index n 0) space ++ (column (slice_index n 1) space ++ (column (slice_index n 2) space ++ column (slice_index n 3) after))

unfoldable pub lines_in : List ℕ → ℕ → List ℕ
lines_in b zero = []
lines_in b (suc c) = lines_in b c ++ code_line c (figure_at b c)
