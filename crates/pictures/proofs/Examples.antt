-- Worked examples, which hold of the definitions by computing: source document 001's compressed character and source document 004's portrait
-- 'y'. Assumes nothing.
use Rattle.std.proofs.Common.{◌≡◌, ℕ, Some, Ok, List, [], ◌∷◌, ◌++◌, length, replicate, refl}
use Rattle.pictures.specs.Dots.{bits, pack, dots_in, unpack}
use Rattle.pictures.specs.Runs.{fill_row, end_row, step_run, scan_from, start}
use Rattle.pictures.specs.Rows.{bitmap_row, rows_from, runs_row, row_dots, row_bytes, picture}
use Rattle.pictures.specs.Picture.{judge}
use Rattle.pictures.specs.declared.runs.Scanned.TheVariants.{Complete}

-- source document 001's compressed character, 20 dots wide and 20 rows high
unfoldable pub compressed : List ℕ
compressed = 2 ∷ 0 ∷ 20 ∷ 0 ∷ 0 ∷ 2 ∷ 6 ∷ 4 ∷ 6 ∷ 2 ∷ 0 ∷ 0 ∷ 1 ∷ 7 ∷ 4 ∷ 7 ∷ 1 ∷ 12 ∷ 8 ∷ 4 ∷ 8 ∷ 1 ∷ 5 ∷ 10 ∷ 5 ∷ []

pub compressed_scan : scan_from 20 20 0 start compressed ≡ Ok (Complete 25)
unfolding compressed scan_from step_run end_row fill_row
compressed_scan = refl

abbrev pub stack : List (List ℕ) → List ℕ
stack [] = []
stack (row ∷ rows) = row ++ stack rows

-- its rows: three, one, one, thirteen and two that are the same
unfoldable pub compressed_rows : List (List ℕ)
compressed_rows =
    replicate 3 (255 ∷ 255 ∷ 240 ∷ []) ++
    (192 ∷ 240 ∷ 48 ∷ []) ∷ (128 ∷ 240 ∷ 16 ∷ []) ∷ (replicate 13 (0 ∷ 240 ∷ 0 ∷ []) ++ replicate 2 (7 ∷ 254 ∷ 0 ∷ []))

pub compressed_picture : picture 2 20 compressed 20 ≡ stack compressed_rows
unfolding compressed compressed_rows picture row_bytes row_dots runs_row rows_from pack bits fill_row
compressed_picture = refl

pub compressed_size : length (stack compressed_rows) ≡ 60
unfolding compressed_rows
compressed_size = refl

-- source document 004's portrait 'y', 27 dots wide and 32 rows high, as its decimal column has it
unfoldable pub portrait : List ℕ
portrait =
    127 ∷ 192 ∷ 63 ∷ 224 ∷
    255 ∷ 224 ∷ 127 ∷ 240 ∷
    255 ∷ 224 ∷ 127 ∷ 240 ∷
    127 ∷ 192 ∷ 63 ∷ 224 ∷
    30 ∷ 0 ∷ 7 ∷ 128 ∷
    31 ∷ 0 ∷ 15 ∷ 128 ∷
    15 ∷ 0 ∷ 15 ∷ 0 ∷
    15 ∷ 128 ∷ 31 ∷ 0 ∷
    7 ∷ 128 ∷ 30 ∷ 0 ∷
    7 ∷ 192 ∷ 62 ∷ 0 ∷
    3 ∷ 192 ∷ 60 ∷ 0 ∷
    3 ∷ 224 ∷ 124 ∷ 0 ∷
    1 ∷ 224 ∷ 120 ∷ 0 ∷
    1 ∷ 240 ∷ 248 ∷ 0 ∷
    0 ∷ 240 ∷ 240 ∷ 0 ∷
    0 ∷ 249 ∷ 240 ∷ 0 ∷
    0 ∷ 121 ∷ 224 ∷ 0 ∷
    0 ∷ 127 ∷ 224 ∷ 0 ∷
    0 ∷ 63 ∷ 192 ∷ 0 ∷
    0 ∷ 63 ∷ 192 ∷ 0 ∷
    0 ∷ 31 ∷ 128 ∷ 0 ∷
    0 ∷ 31 ∷ 128 ∷ 0 ∷
    0 ∷ 15 ∷ 0 ∷ 0 ∷
    0 ∷ 31 ∷ 0 ∷ 0 ∷
    0 ∷ 30 ∷ 0 ∷ 0 ∷
    0 ∷ 62 ∷ 0 ∷ 0 ∷
    0 ∷ 60 ∷ 0 ∷ 0 ∷
    0 ∷ 124 ∷ 0 ∷ 0 ∷
    31 ∷ 255 ∷ 0 ∷ 0 ∷
    63 ∷ 255 ∷ 128 ∷ 0 ∷
    63 ∷ 255 ∷ 128 ∷ 0 ∷
    31 ∷ 255 ∷ 0 ∷ 0 ∷ []

-- as it is drawn: its second and third row have the first bit beyond the width set, which is drawn 0
unfoldable pub portrait_drawn : List ℕ
portrait_drawn =
    127 ∷ 192 ∷ 63 ∷ 224 ∷
    255 ∷ 224 ∷ 127 ∷ 224 ∷
    255 ∷ 224 ∷ 127 ∷ 224 ∷
    127 ∷ 192 ∷ 63 ∷ 224 ∷
    30 ∷ 0 ∷ 7 ∷ 128 ∷
    31 ∷ 0 ∷ 15 ∷ 128 ∷
    15 ∷ 0 ∷ 15 ∷ 0 ∷
    15 ∷ 128 ∷ 31 ∷ 0 ∷
    7 ∷ 128 ∷ 30 ∷ 0 ∷
    7 ∷ 192 ∷ 62 ∷ 0 ∷
    3 ∷ 192 ∷ 60 ∷ 0 ∷
    3 ∷ 224 ∷ 124 ∷ 0 ∷
    1 ∷ 224 ∷ 120 ∷ 0 ∷
    1 ∷ 240 ∷ 248 ∷ 0 ∷
    0 ∷ 240 ∷ 240 ∷ 0 ∷
    0 ∷ 249 ∷ 240 ∷ 0 ∷
    0 ∷ 121 ∷ 224 ∷ 0 ∷
    0 ∷ 127 ∷ 224 ∷ 0 ∷
    0 ∷ 63 ∷ 192 ∷ 0 ∷
    0 ∷ 63 ∷ 192 ∷ 0 ∷
    0 ∷ 31 ∷ 128 ∷ 0 ∷
    0 ∷ 31 ∷ 128 ∷ 0 ∷
    0 ∷ 15 ∷ 0 ∷ 0 ∷
    0 ∷ 31 ∷ 0 ∷ 0 ∷
    0 ∷ 30 ∷ 0 ∷ 0 ∷
    0 ∷ 62 ∷ 0 ∷ 0 ∷
    0 ∷ 60 ∷ 0 ∷ 0 ∷
    0 ∷ 124 ∷ 0 ∷ 0 ∷
    31 ∷ 255 ∷ 0 ∷ 0 ∷
    63 ∷ 255 ∷ 128 ∷ 0 ∷
    63 ∷ 255 ∷ 128 ∷ 0 ∷
    31 ∷ 255 ∷ 0 ∷ 0 ∷ []

pub portrait_picture : picture 1 27 portrait 32 ≡ portrait_drawn
unfolding portrait portrait_drawn picture row_bytes row_dots bitmap_row unpack dots_in pack bits
portrait_picture = refl

pub portrait_complete : judge 1 27 32 portrait ≡ Ok (Some 128)
unfolding portrait judge
portrait_complete = refl
