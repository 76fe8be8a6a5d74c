-- Document 01, "Rows": the rows that the picture data of a character draws, and their bytes.
use Rattle.std.specs.Prelude.{ℕ, zero, suc, ◌*◌, Bool, false, cond, not, List, [], ◌∷◌, ◌++◌, length, take, drop, replicate, ◌==◌, slice_index_or}
use Rattle.pictures.specs.Size.{bitmap_class, row_size}
use Rattle.pictures.specs.Dots.{pack, unpack}
use Rattle.pictures.specs.Runs.{fill_row, on_fill}

-- "Class 1: rows from the top, highest bit leftmost; missing bytes are white": the dots of row t of the data d, w dots wide
unfoldable pub bitmap_row : ℕ → List ℕ → ℕ → List Bool
bitmap_row w d t = take w (unpack (drop (t * row_size w) d))

-- where class 2 data is read: the next byte is a repeat count, or a run, black or not, of a row that has these repeats and these dots so far
pub data RowPlace : Type 0 where
  at_count : RowPlace
  in_row : ℕ → List Bool → Bool → RowPlace

-- "Class 2: a repeat count, then white and black runs in turn, white first, each one byte, until they sum to the width; the row is drawn once
-- and then as often again as the count says." The rows of the data, from the top, each a list of its dots. "A row unfinished at the end of
-- data isn't drawn", nor is anything from a run past the width on.
unfoldable pub rows_from : ℕ → RowPlace → List ℕ → List (List Bool)
rows_from w p [] = []
rows_from w at_count (b ∷ xs) = rows_from w (in_row b [] false) xs
rows_from w (in_row r ds c) (b ∷ xs) =
    on_fill (fill_row w (length ds) b) []
    (replicate (suc r) (ds ++ replicate b c) ++ rows_from w at_count xs)
    (λ _. rows_from w (in_row r (ds ++ replicate b c) (not c)) xs)

-- how many rows the data draws
abbrev pub rows_drawn : ℕ → List ℕ → ℕ
rows_drawn w d = length (rows_from w at_count d)

-- the dots of row t. "Rows not drawn are white": they have no dots.
unfoldable pub runs_row : ℕ → List ℕ → ℕ → List Bool
runs_row w d t = slice_index_or (rows_from w at_count d) t []

-- the dots of row t of data of class k
unfoldable pub row_dots : ℕ → ℕ → List ℕ → ℕ → List Bool
row_dots k w d t = cond (k == bitmap_class) (bitmap_row w d t) (runs_row w d t)

-- the bytes of row t. "Bits beyond the width are drawn 0": a row has no dots there, and missing dots are white.
unfoldable pub row_bytes : ℕ → ℕ → List ℕ → ℕ → List ℕ
row_bytes k w d t = pack (row_size w) (row_dots k w d t)

-- the bytes of the first h rows, from the top
unfoldable pub picture : ℕ → ℕ → List ℕ → ℕ → List ℕ
picture k w d zero = []
picture k w d (suc h) = picture k w d h ++ row_bytes k w d h
