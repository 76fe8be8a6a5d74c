-- For the code alone: how the half turn is made of mirrored bytes.
use Rattle.std.specs.Prelude.{ℕ, ◌+◌, ◌*◌, ◌-◌, ◌/◌, ◌%◌, ◌^◌, List, cond, ltb, length, get_or}
use Rattle.turning.specs.Mirror.{mirror}

-- eight of the sixteen dots of two bytes, from a place of the left one on; `scale` is two to the power of that place
unfoldable pub joined_dots : ℕ → ℕ → ℕ → ℕ
joined_dots left right scale = (left * 256 + right) * scale / 256 % 256

-- byte q of a row that is mirrored whole, padding and all; white after it
unfoldable pub mirrored_at : List ℕ → ℕ → ℕ
mirrored_at row q = cond (ltb q (length row)) (mirror (get_or row (length row - 1 - q) 0)) 0

-- byte q of a row that is mirrored, and moved left by its padding
unfoldable pub half_byte : List ℕ → ℕ → ℕ → ℕ
half_byte row padding q = joined_dots (mirrored_at row q) (mirrored_at row (q + 1)) (2 ^ padding)
