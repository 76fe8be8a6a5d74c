-- For the code alone: how it draws, and what its inner functions promise each other. No public contract names anything of this file.
use Rattle.std.specs.Prelude.{ℕ, zero, suc, ◌+◌, ◌-◌, ◌*◌, ◌%◌, Bool, false, not, List, [], ◌∷◌, ◌++◌, length, drop, replicate, Option, Some, None}
use Rattle.pictures.specs.Dots.{pack}
use Rattle.pictures.specs.Runs.{fill_row, on_fill}

-- a byte x with the value of black dots added that were white in it
abbrev pub darker : ℕ → ℕ → ℕ
darker x v = (x + v) % 256

-- how many bits of the last byte of a row lie beyond the width
abbrev pub padding_bits : ℕ → ℕ
padding_bits w = 8 - ((w + 7) % 8 + 1)

-- n white bytes
abbrev pub white : ℕ → List ℕ
white n = replicate n 0

-- the first n bytes of d, and white ones for those that are missing
unfoldable pub padded : ℕ → List ℕ → List ℕ
padded zero d = []
padded (suc n) [] = 0 ∷ padded n []
padded (suc n) (x ∷ d) = x ∷ padded n d

-- m copies of xs
unfoldable pub repeated : ℕ → List ℕ → List ℕ
repeated zero xs = []
repeated (suc m) xs = repeated m xs ++ xs

-- a row that was read: its dots, and the place after it; or it is not whole
pub data Read : Type 0 where
  no_row : Read
  whole : List Bool → ℕ → Read

-- the rest of a row w dots wide from place n on, with the dots ds before it
unfoldable pub read_line : ℕ → List Bool → Bool → ℕ → List ℕ → Read
read_line w ds c n [] = no_row
read_line w ds c n (b ∷ xs) =
    on_fill (fill_row w (length ds) b) no_row
    (whole (ds ++ replicate b c) (n + 1))
    (λ _. read_line w (ds ++ replicate b c) (not c) (n + 1) xs)

-- the row whose runs start at place n of the data
unfoldable pub line_from : ℕ → List ℕ → ℕ → Read
line_from w d n = read_line w [] false n (drop n d)

abbrev pub dots_of : Read → List Bool
dots_of no_row = []
dots_of (whole ds k) = ds

-- the place after the row, if it is whole
abbrev pub line_of : Read → Option ℕ
line_of no_row = None
line_of (whole ds k) = Some k

-- what is drawn of a row of n bytes and its repeats, m times in all, in a part of the output; where the row is not whole the part is white
abbrev pub drawn_of : ℕ → ℕ → Read → List ℕ → List ℕ
drawn_of n m no_row out = white (length out)
drawn_of n m (whole ds k) out = repeated m (pack n ds) ++ drop (m * n) out
