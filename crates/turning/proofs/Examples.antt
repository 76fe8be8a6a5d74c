-- Worked examples, which hold of the definitions by computing. Assumes nothing.
use Prim.Native.Nat.{ℕ}
use mathlib.Core.Path.{◌≡◌, refl}
use mathlib.Core.List.{List, [], ◌∷◌}
use Rattle.pictures.specs.Dots.{bits, pack, dots_in, unpack}
use Rattle.pictures.specs.Rows.{bitmap_row}
use Rattle.turning.specs.Turn.{each, picture_rows, column_of, columns, turn_rows, pack_rows, turned, turnable, turning_picture, unturned}

-- two rows of ten dots, with black padding, which is not looked at:
--     #..#.....#
--     .##.......
unfoldable pub two : List ℕ
two = 144 ∷ 127 ∷ 96 ∷ 63 ∷ []

-- a quarter: ten rows of two dots
pub two_quarter : turned 1 10 2 two ≡ 64 ∷ 128 ∷ 128 ∷ 64 ∷ 0 ∷ 0 ∷ 0 ∷ 0 ∷ 0 ∷ 64 ∷ []
unfolding two turned turn_rows pack_rows columns column_of picture_rows each bitmap_row pack unpack bits dots_in
two_quarter = refl

pub two_half : turned 2 10 2 two ≡ 1 ∷ 128 ∷ 130 ∷ 64 ∷ []
unfolding two turned turn_rows pack_rows picture_rows each bitmap_row pack unpack bits dots_in
two_half = refl

pub two_three_quarters : turned 3 10 2 two ≡ 128 ∷ 0 ∷ 0 ∷ 0 ∷ 0 ∷ 0 ∷ 128 ∷ 64 ∷ 64 ∷ 128 ∷ []
unfolding two turned turn_rows pack_rows columns column_of picture_rows each bitmap_row pack unpack bits dots_in
two_three_quarters = refl

-- bytes behind the result stay
pub kept_behind : turning_picture 2 10 2 two (1 ∷ 2 ∷ 3 ∷ 4 ∷ 5 ∷ []) ≡ record { answer = 0; bytes = 1 ∷ 128 ∷ 130 ∷ 64 ∷ 5 ∷ [] }
unfolding two turning_picture turnable turned turn_rows pack_rows picture_rows each bitmap_row pack unpack bits dots_in
kept_behind = refl

-- a picture with too few bytes is 2 even when the output is short too
pub short_picture : turning_picture 2 10 3 two [] ≡ unturned [] 2
unfolding two turning_picture turnable
short_picture = refl

pub short_output : turning_picture 1 10 2 two two ≡ unturned two 12
unfolding two turning_picture turnable
short_output = refl
