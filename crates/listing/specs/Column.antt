-- A byte in two's complement in a line, with the byte after it.
use Rattle.std.specs.Prelude.{ℕ, ◌-◌, List, ◌∷◌, cond, ltb}
use Rattle.text.specs.Column.{column}

-- from 128 on it is negative, and '-' stands before it
unfoldable pub signed_column : ℕ → ℕ → List ℕ
signed_column b after = cond (ltb b 128) (column b after) (45 ∷ column (256 - b) after)
