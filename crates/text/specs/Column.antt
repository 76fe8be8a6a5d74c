-- A number in a line, with the byte after it.
use Rattle.std.specs.Prelude.{ℕ, List, [], ◌∷◌, ◌++◌}
use Rattle.stream.specs.Digits.{decimal_of}

-- ' ' and the end of a line
abbrev pub space : ℕ
space = 32

abbrev pub newline : ℕ
newline = 10

-- room for any number below 2^64: 20 digits, and the byte after them
abbrev pub number_room : ℕ
number_room = 21

unfoldable pub column : ℕ → ℕ → List ℕ
column n after = decimal_of n ++ (after ∷ [])
