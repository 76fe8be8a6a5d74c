-- W-210: "the total of black dots", those of the drawn picture.
use Rattle.std.specs.Prelude.{ℕ, ◌+◌, List, [], ◌∷◌, Bool}
use Rattle.std.specs.Int.Count.{ones}
use Rattle.pictures.specs.Dots.{bit, unpack}
use Rattle.pictures.specs.Rows.{picture}

-- how many of these dots are black
unfoldable pub black_in : List Bool → ℕ
black_in [] = 0
black_in (d ∷ ds) = bit d + black_in ds

-- how many dots are black of the picture that data d of class k draws, w dots wide and h rows high: "bits beyond the width are drawn 0", and what is
-- missing is white
unfoldable pub black_dots : ℕ → ℕ → ℕ → List ℕ → ℕ
black_dots k w h d = black_in (unpack (picture k w d h))

-- the same of a picture's bytes: their bits that are 1 (the law `ones_drawn`)
unfoldable pub ones_of : List ℕ → ℕ
ones_of [] = 0
ones_of (b ∷ bs) = ones b + ones_of bs
