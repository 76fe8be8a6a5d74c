-- Bytes put over those of a buffer, whose other bytes stay.
use Rattle.std.specs.Prelude.{ℕ, ◌+◌, List, ◌++◌, length, take, drop}

-- s with the bytes b at `at`
unfoldable pub with_bytes : List ℕ → ℕ → List ℕ → List ℕ
with_bytes s at b = take at s ++ (b ++ drop (at + length b) s)
