-- Black dots by the ones of bytes. Assumes nothing.
use Prim.Native.Nat.{ℕ, zero, suc, ◌+◌, ◌*◌, ◌-◌, ◌/◌, ◌%◌, ◌^◌, ◌<◌, ◌≤◌}
use mathlib.Core.Path.{◌≡◌, refl, sym, ap, ◌∙◌}
use mathlib.Core.List.{List, [], ◌∷◌, ◌++◌}
use mathlib.Core.Bool.{Bool, true, false}
use native.Mathlib.Nat.{sub-zero, suc-sub-suc, zero-mul, zero-add, suc-mul, mod-lt, mod-eq_of_lt, mod-one, zero-mod}
use native.Mathlib.Omega.{arith}
use borrow.Author.Tests.{eqb-true, eqb-false}
use lib.Dec.{eqb}
use lib.ListN.{length, drop, take, get_or, length-drop, length-take}
use lib.Seq.{take-nil, take-append-le, take-append-add, get_or-drop, take_all}
use lib.Pow.{pow_pos, mod-pow-add}
use lib.Count.{ones, ones_cat}
use Rattle.pictures.specs.Size.{row_size}
use Rattle.pictures.specs.Dots.{bit, bits, pack, dots_in, unpack}
use Rattle.pictures.specs.Rows.{bitmap_row, row_dots, row_bytes, picture}
use Rattle.blackdots.specs.Black.{black_in, black_dots, ones_of}
use Rattle.blackdots.specs.Counting.{overhang}
use Rattle.blackdots.proofs.ByteOnes.{ones_front}

-- ── the dots of a number
pub length_dots : (k x : ℕ) → length (dots_in k x) ≡ k
unfolding dots_in
length_dots zero x = refl
length_dots (suc k) x = ap suc (length_dots k x)

bit_of : (y : ℕ) (t : Bool) → eqb y 1 ≡ t → y < 2 → bit t ≡ y
bit_of y true e l = sym (eqb-true y 1 e)
bit_of y false e l = omega (arith, eqb-false y 1 e)

ones_none : ones 0 ≡ 0
unfolding ones
ones_none = refl

ones_bit : (d : Bool) → ones (bit d) ≡ bit d
unfolding ones
ones_bit true = refl
ones_bit false = refl

-- one more bit of a number
ones_more : (k x : ℕ) → bit (eqb (x / 2 ^ k % 2) 1) + ones (x % 2 ^ k) ≡ ones (x % 2 ^ suc k)
ones_more k x =
    let e : 1 + k ≡ suc k = omega arith in
    let b : bit (eqb (x / 2 ^ k % 2) 1) ≡ x / 2 ^ k % 2 = bit_of (x / 2 ^ k % 2) (eqb (x / 2 ^ k % 2) 1) refl (omega arith) in
    let m : x % 2 ^ suc k ≡ bit (eqb (x / 2 ^ k % 2) 1) * 2 ^ k + x % 2 ^ k = rw (b, ← e) (mod-pow-add x 1 k) in
    sym (ap ones m ∙ ones_cat k (bit (eqb (x / 2 ^ k % 2) 1)) (x % 2 ^ k) (mod-lt x (pow_pos k)) ∙ ap (λ (z : ℕ). z + ones (x % 2 ^ k)) (ones_bit (eqb (x / 2 ^ k % 2) 1)))

-- the first r of its k bits and the others
black_front : (r k x : ℕ) → r ≤ k → black_in (take r (dots_in k x)) + ones (x % 2 ^ (k - r)) ≡ ones (x % 2 ^ k)
unfolding black_in dots_in
black_front zero k x l = rw (sub-zero, zero-add)
black_front (suc r) zero x l = absurd (omega arith)
black_front (suc r) (suc k) x l = rw suc-sub-suc (omega (arith, black_front r k x (omega arith), ones_more k x))

-- ── lists of dots
pub black_append : (xs ys : List Bool) → black_in (xs ++ ys) ≡ black_in xs + black_in ys
unfolding black_in
black_append [] ys = rw zero-add
black_append (x ∷ xs) ys = omega (arith, black_append xs ys)

pub unpack_append : (xs ys : List ℕ) → black_in (unpack (xs ++ ys)) ≡ black_in (unpack xs) + black_in (unpack ys)
unfolding unpack black_in
unpack_append [] ys = rw zero-add
unpack_append (x ∷ xs) ys = omega (arith, black_append (dots_in 8 x) (unpack (xs ++ ys)), black_append (dots_in 8 x) (unpack xs), unpack_append xs ys)

black_parts : (k : ℕ) (ds : List Bool) → black_in ds ≡ black_in (take k ds) + black_in (drop k ds)
unfolding black_in
black_parts zero ds = rw zero-add
black_parts (suc k) [] = refl
black_parts (suc k) (d ∷ ds) = omega (arith, black_parts k ds)

pub black_most : (ds : List Bool) → black_in ds ≤ length ds
unfolding black_in
black_most [] = omega arith
black_most (true ∷ ds) = omega (arith, black_most ds)
black_most (false ∷ ds) = omega (arith, black_most ds)

-- ── packed dots have the dots' black ones
pub bits_below : (k : ℕ) (ds : List Bool) → bits k ds < 2 ^ k
unfolding bits
bits_below zero ds = omega arith
bits_below (suc k) [] = pow_pos (suc k)
bits_below (suc k) (true ∷ ds) = omega (arith, bits_below k ds)
bits_below (suc k) (false ∷ ds) = omega (arith, bits_below k ds)

ones_bits : (k : ℕ) (ds : List Bool) → ones (bits k ds) ≡ black_in (take k ds)
unfolding bits black_in
ones_bits zero ds = ones_none
ones_bits (suc k) [] = ones_none
ones_bits (suc k) (d ∷ ds) = ones_cat k (bit d) (bits k ds) (bits_below k ds) ∙ omega (arith, ones_bit d, ones_bits k ds)

pub black_byte : (x : ℕ) → x < 256 → black_in (dots_in 8 x) ≡ ones x
black_byte x l =
    let t : take 8 (dots_in 8 x) ≡ dots_in 8 x = take_all 8 (dots_in 8 x) (rw (length_dots 8 x) (omega arith)) in
    let e : black_in (take 8 (dots_in 8 x)) + ones (x % 2 ^ 0) ≡ ones (x % 2 ^ 8) = black_front 8 8 x (omega arith) in
    let z : ones (x % 2 ^ 0) ≡ 0 = ap ones (mod-one x) ∙ ones_none in
    let m : ones (x % 2 ^ 8) ≡ ones x = ap ones (mod-eq_of_lt l) in
    omega (arith, ap black_in (sym t), e, z, m)

pub black_packed : (n : ℕ) (ds : List Bool) → length ds ≤ n * 8 → black_in (unpack (pack n ds)) ≡ black_in ds
unfolding pack unpack black_in
black_packed zero [] l = refl
black_packed zero (d ∷ ds) l = absurd (omega arith)
black_packed (suc n) ds l =
    omega (arith, black_append (dots_in 8 (bits 8 ds)) (unpack (pack n (drop 8 ds))), black_byte (bits 8 ds) (bits_below 8 ds), ones_bits 8 ds, black_packed n (drop 8 ds) (simp length-drop (omega arith)), black_parts 8 ds)

-- ── a row of m + 1 bytes, of which r bits of the last lie within the width
black_row : (m r : ℕ) (s : List ℕ) → r ≤ 8 → ((i : ℕ) → get_or s i 0 < 256)
    → black_in (take (m * 8 + r) (unpack s)) + ones (get_or s m 0 % 2 ^ (8 - r)) ≡ ones_of (take (suc m) s)
unfolding unpack black_in ones_of
black_row m r [] l h = rw (take-nil (m * 8 + r), zero-mod (2 ^ (8 - r))) (omega (arith, ones_none))
black_row zero r (b ∷ s) l h =
    let z : 0 * 8 + r ≡ r = omega arith in
    let t : take r (dots_in 8 b ++ unpack s) ≡ take r (dots_in 8 b) = take-append-le r (dots_in 8 b) (unpack s) (rw (length_dots 8 b) l) in
    rw (z, t) (omega (arith, black_front r 8 b l, ap ones (mod-eq_of_lt (h 0))))
black_row (suc m) r (b ∷ s) l h =
    let z : suc m * 8 + r ≡ 8 + (m * 8 + r) = omega arith in
    let t : take (8 + (m * 8 + r)) (dots_in 8 b ++ unpack s) ≡ dots_in 8 b ++ take (m * 8 + r) (unpack s) = rw (length_dots 8 b) at (take-append-add (dots_in 8 b) (unpack s) (m * 8 + r)) in
    rw (z, t) (omega (arith, black_append (dots_in 8 b) (take (m * 8 + r) (unpack s)), black_byte b (h 0), black_row m r s l (λ i. h (suc i))))

-- ── rows of n bytes, w bits of them within the width
module _ (w : ℕ) (d : List ℕ) (pos : 0 < w) (h : (i : ℕ) → get_or d i 0 < 256) where
  black_line : (t pad : ℕ) → pad ≡ row_size w * 8 - w
      → black_in (unpack (row_bytes 1 w d t)) + ones (get_or d (t * row_size w + (row_size w - 1)) 0 % 2 ^ pad) ≡ ones_of (take (row_size w) (drop (t * row_size w) d))
  unfolding row_bytes row_dots bitmap_row
  black_line t pad e =
      let n : ℕ = row_size w in
      let m : ℕ = n - 1 in
      let r : ℕ = w - m * 8 in
      let s : List ℕ = drop (t * n) d in
      let len : length (take w (unpack s)) ≤ n * 8 = simp length-take (omega arith) in
      let p : black_in (unpack (pack n (take w (unpack s)))) ≡ black_in (take w (unpack s)) = black_packed n (take w (unpack s)) len in
      let q : black_in (take (m * 8 + r) (unpack s)) + ones (get_or s m 0 % 2 ^ (8 - r)) ≡ ones_of (take (suc m) s) = black_row m r s (omega arith) (λ i. rw (get_or-drop (t * n) d i 0) (h (t * n + i))) in
      let zw : m * 8 + r ≡ w = omega arith in
      let zp : 8 - r ≡ pad = omega arith in
      let zn : suc m ≡ n = omega arith in
      let g : get_or s m 0 ≡ get_or d (t * n + m) 0 = get_or-drop (t * n) d m 0 in
      let q' : black_in (take w (unpack s)) + ones (get_or d (t * n + m) 0 % 2 ^ pad) ≡ ones_of (take n s) = rw (zw, zp, zn, g) at q in
      omega (arith, p, q')

  black_lines : (pad : ℕ) → pad ≡ row_size w * 8 - w → (t : ℕ) → black_dots 1 w t d + overhang (row_size w) pad d t ≡ ones_of (take (t * row_size w) d)
  unfolding black_dots picture overhang black_in unpack ones_of
  black_lines pad e zero = rw zero-mul
  black_lines pad e (suc t) =
      rw suc-mul
      (omega (arith, unpack_append (picture 1 w d t) (row_bytes 1 w d t), black_line t pad e, black_lines pad e t, ones_front (t * row_size w) (row_size w) d))

  -- all ones of the data, but for those beyond the width
  pub black_bitmap : (pad t : ℕ) → pad ≡ row_size w * 8 - w → length d ≤ t * row_size w → black_dots 1 w t d + overhang (row_size w) pad d t ≡ ones_of d
  black_bitmap pad t e l = black_lines pad e t ∙ ap ones_of (take_all (t * row_size w) d l)
