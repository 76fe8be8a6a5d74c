-- Document 01, "The calls, and what they answer", "Drawing checks ..": a row, or the whole picture, of a kept character.
use Rattle.std.specs.Prelude.{ℕ, List, leb, ltb, length}
use Rattle.blocks.specs.Character.{class, width, height}
use Rattle.pictures.specs.Size.{row_size, picture_size}
use Rattle.pictures.specs.Rows.{row_bytes, picture}
use Rattle.form.specs.Checks.{checked, on_character}
use Rattle.store.specs.Answer.{After, no_run, refuse}
use Rattle.store.specs.Calls.{kept_of, data_of, onto}

-- an output that must hold n bytes, else 12; its later bytes stay
abbrev pub drawn_onto : List ℕ → ℕ → List ℕ → After
drawn_onto out n b = checked (refuse out) (leb n (length out)) 12 (record { answer = 0; bad = no_run; bytes = onto b out })

-- a row of the character with this descriptor and data; a row not below the height is 2
unfoldable pub row_of : List ℕ → List ℕ → ℕ → List ℕ → After
row_of h d row out = checked (refuse out) (ltb row (height h)) 2 (drawn_onto out (row_size (width h)) (row_bytes (class h) (width h) d row))

unfoldable pub picture_of : List ℕ → List ℕ → List ℕ → After
picture_of h d out = drawn_onto out (picture_size (width h) (height h)) (picture (class h) (width h) d (height h))

-- 1, 2, 6, 7, then 2 for the row, then 12
unfoldable pub drawing_row : ℕ → ℕ → ℕ → List ℕ → List ℕ → After
drawing_row n c row s out = on_character (refuse out) n c s (λ st r. row_of (kept_of r) (data_of r) row out)

-- 1, 2, 6, 7, 12
unfoldable pub drawing_picture : ℕ → ℕ → List ℕ → List ℕ → After
drawing_picture n c s out = on_character (refuse out) n c s (λ st r. picture_of (kept_of r) (data_of r) out)
