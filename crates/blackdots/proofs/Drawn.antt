-- The black dots of a picture, by its bytes and at most. Assumes nothing.
use Prim.Native.Nat.{ℕ, zero, suc, ◌*◌, ◌≤◌}
use mathlib.Core.Path.{◌≡◌, refl}
use mathlib.Core.List.{List, [], ◌∷◌}
use mathlib.Core.Bool.{Bool}
use native.Mathlib.Omega.{arith}
use lib.ListN.{length, drop, length-append}
use Rattle.pictures.specs.Size.{row_size, picture_size}
use Rattle.pictures.specs.Dots.{bits, pack, dots_in, unpack}
use Rattle.pictures.specs.Rows.{row_dots, row_bytes, picture}
use Rattle.pictures.proofs.Pictures.{length_picture}
use Rattle.blackdots.specs.Black.{black_in, black_dots, ones_of}
use Rattle.blackdots.proofs.ByteOnes.{ones_append}
use Rattle.blackdots.proofs.BitmapDots.{length_dots, black_append, unpack_append, black_most, bits_below, black_byte}

ones_packed : (n : ℕ) (ds : List Bool) → ones_of (pack n ds) ≡ black_in (unpack (pack n ds))
unfolding pack unpack ones_of black_in
ones_packed zero ds = refl
ones_packed (suc n) ds =
    omega (arith, black_append (dots_in 8 (bits 8 ds)) (unpack (pack n (drop 8 ds))), black_byte (bits 8 ds) (bits_below 8 ds), ones_packed n (drop 8 ds))

-- they are the ones of its bytes
pub ones_drawn : (k w h : ℕ) (d : List ℕ) → ones_of (picture k w d h) ≡ black_dots k w h d
unfolding black_dots picture row_bytes ones_of unpack black_in
ones_drawn k w zero d = refl
ones_drawn k w (suc h) d =
    omega (arith, ones_append (picture k w d h) (row_bytes k w d h), unpack_append (picture k w d h) (row_bytes k w d h), ones_drawn k w h d, ones_packed (row_size w) (row_dots k w d h))

length_unpack : (s : List ℕ) → length (unpack s) ≡ 8 * length s
unfolding unpack
length_unpack [] = refl
length_unpack (b ∷ s) = omega (arith, length-append (dots_in 8 b) (unpack s), length_dots 8 b, length_unpack s)

-- at most as many as its bytes have bits
pub most_dots_lem : (k w h : ℕ) (d : List ℕ) → black_dots k w h d ≤ 8 * picture_size w h
unfolding black_dots
most_dots_lem k w h d = omega (arith, black_most (unpack (picture k w d h)), length_unpack (picture k w d h), length_picture k w d h)
