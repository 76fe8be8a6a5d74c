-- Document 01, the sizes of a picture: the classes of its data, how far its sides go, and its bytes.
use Rattle.std.specs.Prelude.{ℕ, ◌+◌, ◌*◌, ◌/◌, Bool, ◌&&◌, nat_le}

-- "class (3) 1 or 2"
abbrev pub bitmap_class : ℕ
bitmap_class = 1

abbrev pub runs_class : ℕ
runs_class = 2

-- low up to high, both allowed
abbrev pub within : ℕ → ℕ → ℕ → Bool
within low high n = nat_le low n && nat_le n high

-- "width (10) and height (12) 1..16,384"
abbrev pub side_limit : ℕ
side_limit = 16384

-- "height rows of width/8 rounded up bytes"
abbrev pub row_size : ℕ → ℕ
row_size w = (w + 7) / 8

abbrev pub picture_size : ℕ → ℕ → ℕ
picture_size w h = h * row_size w

-- a picture, and a character's kept data, have at most so many bytes
abbrev pub data_limit : ℕ
data_limit = 32768
