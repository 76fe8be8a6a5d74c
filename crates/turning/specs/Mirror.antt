-- W-203: "a written-out table of the 256 bytes mirrored, whose rule anyone can check": the rule.
use Rattle.std.specs.Prelude.{ℕ, suc, ◌≡◌, List, [], ◌∷◌, reverse, Bool, true, ◌&&◌, T, eqb, length}
use Rattle.pictures.specs.Dots.{bits, dots_in}

-- a byte with its dots in reverse
unfoldable pub mirror : ℕ → ℕ
mirror b = bits 8 (reverse (dots_in 8 b))

-- each entry of a table, from place b on, is its place mirrored
abbrev pub mirrors_from : ℕ → List ℕ → Bool
mirrors_from b [] = true
mirrors_from b (x ∷ table) = eqb x (mirror b) && mirrors_from (suc b) table

-- the rule of the table of the 256 bytes mirrored: a test that is computed over the whole of it
unfoldable pub Mirrors : List ℕ → Type 0
Mirrors table = (length table ≡ 256) × T (mirrors_from 0 table)
