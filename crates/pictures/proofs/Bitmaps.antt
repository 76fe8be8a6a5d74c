-- Laws of class 1 data: its bytes are those of the rows, but for the bits beyond the width. Assumes nothing.
use Rattle.std.proofs.Common.{◌≡◌, ℕ, zero, suc, ◌+◌, ◌-◌, ◌*◌, ◌/◌, ◌%◌, ◌^◌, ◌<◌, ◌≤◌, Bool, true, false, eqb, List, [], ◌∷◌, ◌++◌, length, get_or, take, drop, set, sym, refl, ap, ◌∙◌, append_assoc, mul-le-mul_right, leb, leb-true, leb-false, length-take-le, drop_of_length-le, mod-lt, mod-eq_of_lt, mul_assoc, suc-mul, add-mul, one-mul, zero-add, zero-mul, add-one, arith, length-drop, get_or-drop, take-take, drop-drop, take_at, get_or-append-add, drop_at, pow_pos, pow-add, eqb-true}
use native.Mathlib.Nat.{sub-zero, zero-sub, suc-sub-suc, zero-div, div-eq_of_lt, mul-add-div_right}
use borrow.Author.Tests.{eqb-false}
use borrow.Rule.Slice.PartMut.{put_mid}
use lib.ListN.{get_or-append}
use lib.Seq.{take-nil, drop-nil, take-append-le, take-append-add, set-append_left, set-get_or}
use lib.Bits.{bit_and, and_high}
use lib.Pow.{mod-pow-add, shr_mod}
use Rattle.pictures.specs.Size.{row_size, picture_size}
use Rattle.pictures.specs.Dots.{bit, bits, pack, dots_in, unpack}
use Rattle.pictures.specs.Rows.{bitmap_row, row_dots, row_bytes, picture}
use Rattle.pictures.specs.Drawing.{white, padded}
use Rattle.pictures.proofs.Packing.{bits_append, pack_none}
use Rattle.pictures.proofs.Pictures.{length_picture, tail_lent, tail_back}

-- a byte without its k lowest bits
abbrev pub clipped : ℕ → ℕ → ℕ
clipped k x = x / 2 ^ k * 2 ^ k

-- ---- the dots of a byte
length_dots : (k x : ℕ) → length (dots_in k x) ≡ k
unfolding dots_in
length_dots zero x = refl
length_dots (suc k) x = ap suc (length_dots k x)

bit_of : (y : ℕ) (t : Bool) → eqb y 1 ≡ t → y < 2 → bit t ≡ y
bit_of y true e l = sym (eqb-true y 1 e)
bit_of y false e l = omega (arith, eqb-false y 1 e)

-- one more bit of a number
bit_more : (k x : ℕ) → bit (eqb (x / 2 ^ k % 2) 1) * 2 ^ k + x % 2 ^ k ≡ x % 2 ^ suc k
bit_more k x =
    let e : 1 + k ≡ suc k = omega arith in
    let b : bit (eqb (x / 2 ^ k % 2) 1) ≡ x / 2 ^ k % 2 = bit_of (x / 2 ^ k % 2) (eqb (x / 2 ^ k % 2) 1) refl (omega arith) in
    rw (b, ← e) (sym (mod-pow-add x 1 k))

-- the first m of k bits
bits_front : (k m x : ℕ) → m ≤ k → bits k (take m (dots_in k x)) ≡ clipped (k - m) (x % 2 ^ k)
unfolding bits dots_in
bits_front zero m x l = rw zero-sub (omega arith)
bits_front (suc k) zero x l =
    let e : x % 2 ^ suc k / 2 ^ suc k ≡ 0 = div-eq_of_lt (mod-lt x (pow_pos (suc k))) in
    rw (sub-zero, e) (sym (zero-mul (2 ^ suc k)))
bits_front (suc k) (suc m) x l =
    let p : ℕ = k - m in
    let y : ℕ = x % 2 ^ k in
    let b : ℕ = bit (eqb (x / 2 ^ k % 2) 1) in
    let z : k ≡ m + p = omega arith in
    let s₁ : b * 2 ^ k ≡ b * 2 ^ m * 2 ^ p = ap (λ (n : ℕ). b * 2 ^ n) z ∙ ap (λ (n : ℕ). b * n) (pow-add 2 m p) ∙ sym (mul_assoc b (2 ^ m) (2 ^ p)) in
    let s₂ : x % 2 ^ suc k ≡ b * 2 ^ m * 2 ^ p + y = sym (bit_more k x) ∙ ap (λ (n : ℕ). n + y) s₁ in
    let s₃ : (b * 2 ^ m * 2 ^ p + y) / 2 ^ p * 2 ^ p ≡ b * 2 ^ m * 2 ^ p + y / 2 ^ p * 2 ^ p =
    ap (λ (n : ℕ). n * 2 ^ p) (mul-add-div_right (pow_pos p) (b * 2 ^ m) y) ∙ add-mul (b * 2 ^ m) (y / 2 ^ p) (2 ^ p) in
    rw suc-sub-suc
    (ap (λ (n : ℕ). b * 2 ^ k + n) (bits_front k m x (omega arith)) ∙ ap (λ (n : ℕ). n + y / 2 ^ p * 2 ^ p) s₁ ∙ sym s₃
    ∙ ap (λ (n : ℕ). n / 2 ^ p * 2 ^ p) (sym s₂))

byte_front : (x pad : ℕ) (ds : List Bool) → x < 256 → pad < 8 → bits 8 (take (8 - pad) (dots_in 8 x ++ ds)) ≡ clipped pad x
byte_front x pad ds h l =
    let m : 8 - pad ≤ length (dots_in 8 x) = rw (length_dots 8 x) (omega arith) in
    let z : 8 - (8 - pad) ≡ pad = omega arith in
    let e : x % 2 ^ 8 ≡ x = mod-eq_of_lt h in
    rw (take-append-le (8 - pad) (dots_in 8 x) ds m) (rw (z, e) at (bits_front 8 (8 - pad) x (omega arith)))

clipped_none : (x : ℕ) → clipped 0 x ≡ x
clipped_none x = omega arith

take_past : (x n : ℕ) (ds : List Bool) → take (8 + n) (dots_in 8 x ++ ds) ≡ dots_in 8 x ++ take n ds
take_past x n ds = rw (length_dots 8 x) at (take-append-add (dots_in 8 x) ds n)

drop_past : (x : ℕ) (ds : List Bool) → drop 8 (dots_in 8 x ++ ds) ≡ ds
drop_past x ds = drop_at (dots_in 8 x) ds 8 (length_dots 8 x)

byte_whole : (x : ℕ) (ds : List Bool) → x < 256 → bits 8 (dots_in 8 x ++ ds) ≡ x
byte_whole x ds h =
    let m : 8 ≤ length (dots_in 8 x) = rw (length_dots 8 x) (omega arith) in
    bits_append 8 (dots_in 8 x) ds m ∙ sym (bits_append 8 (dots_in 8 x) [] m) ∙ ap (bits 8) (sym (take_past x 0 [])) ∙ byte_front x 0 [] h (omega arith)
    ∙ clipped_none x

-- a mask of the high bits
pub masked : (x pad : ℕ) → x < 256 → pad < 8 → bit_and x (256 - 2 ^ pad) ≡ clipped pad x
masked x pad h l =
    let z : 8 - pad + pad ≡ 8 = omega arith in
    let e : bit_and x (2 ^ 8 - 2 ^ pad) ≡ x / 2 ^ pad % 2 ^ (8 - pad) * 2 ^ pad = rw z at (and_high x (8 - pad) pad) in
    let s : x < 2 ^ (8 - pad + pad) = rw z h in
    e ∙ ap (λ (n : ℕ). n * 2 ^ pad) (shr_mod (8 - pad) pad s)

-- ---- rows
pub padded_none : (n : ℕ) → white n ≡ padded n []
unfolding padded
padded_none zero = refl
padded_none (suc n) = ap (λ (t : List ℕ). 0 ∷ t) (padded_none n)

get_d_white : (n m : ℕ) → get_or (white n) m 0 ≡ 0
get_d_white zero m = refl
get_d_white (suc n) zero = refl
get_d_white (suc n) (suc m) = get_d_white n m

-- a row that is missing
clip_white : (n m pad k : ℕ) → set (padded n []) m (clipped pad (get_or (padded n []) m 0)) ≡ pack n (take k [])
clip_white n m pad k =
    let z : get_or (padded n []) m 0 ≡ 0 = rw (← (padded_none n)) (get_d_white n m) in
    let e : clipped pad (get_or (padded n []) m 0) ≡ get_or (padded n []) m 0 = rw (z, zero-div) (zero-mul (2 ^ pad)) in
    ap (set (padded n []) m) e ∙ set-get_or (padded n []) m 0 ∙ sym (padded_none n) ∙ rw take-nil (sym (pack_none n))

-- the last byte of a row that is copied, without its padding
clip_row : (n pad : ℕ) (d : List ℕ) → pad < 8 → ((i : ℕ) → get_or d i 0 < 256)
    → set (padded (suc n) d) n (clipped pad (get_or (padded (suc n) d) n 0)) ≡ pack (suc n) (take (suc n * 8 - pad) (unpack d))
unfolding padded pack unpack
clip_row n pad [] l h = clip_white (suc n) n pad (suc n * 8 - pad)
clip_row zero pad (b ∷ bs) l h = rw (byte_front b pad (unpack bs) (h 0) l)
clip_row (suc n) pad (b ∷ bs) l h =
    let z : suc (suc n) * 8 - pad ≡ 8 + (suc n * 8 - pad) = omega arith in
    rw (z, take_past b (suc n * 8 - pad) (unpack bs), byte_whole b (take (suc n * 8 - pad) (unpack bs)) (h 0), drop_past)
    (ap (λ (t : List ℕ). b ∷ t) (clip_row n pad bs l (λ i. h (suc i))))

clip_as : (n m w pad : ℕ) (d : List ℕ) → n ≡ suc m → w + pad ≡ n * 8 → pad < 8 → ((i : ℕ) → get_or d i 0 < 256)
    → set (padded n d) m (clipped pad (get_or (padded n d) m 0)) ≡ pack n (take w (unpack d))
clip_as n m w pad d e q l h = let z : w ≡ suc m * 8 - pad = omega arith in rw (e, z) (clip_row m pad d l h)

bytes_drop : (k : ℕ) (d : List ℕ) → ((i : ℕ) → get_or d i 0 < 256) → (i : ℕ) → get_or (drop k d) i 0 < 256
bytes_drop k d h i = rw (get_or-drop k d i 0) (h (k + i))

-- ---- bytes copied, with white ones for those that are missing
pub length_padded : (n : ℕ) (d : List ℕ) → length (padded n d) ≡ n
unfolding padded
length_padded zero d = refl
length_padded (suc n) [] = ap suc (length_padded n [])
length_padded (suc n) (x ∷ d) = ap suc (length_padded n d)

padded_add : (a b : ℕ) (d : List ℕ) → padded (a + b) d ≡ padded a d ++ padded b (drop a d)
unfolding padded
padded_add zero b d = rw zero-add
padded_add (suc a) b [] = let e : suc a + b ≡ suc (a + b) = omega arith in rw e (ap (λ (t : List ℕ). 0 ∷ t) (padded_add a b [] ∙ rw drop-nil))
padded_add (suc a) b (x ∷ d) = let e : suc a + b ≡ suc (a + b) = omega arith in rw e (ap (λ (t : List ℕ). x ∷ t) (padded_add a b d))

pub padded_long : (n : ℕ) (d : List ℕ) → n ≤ length d → take n d ≡ padded n d
unfolding padded
padded_long zero d l = refl
padded_long (suc n) [] l = absurd (omega arith)
padded_long (suc n) (x ∷ d) l = ap (λ (t : List ℕ). x ∷ t) (padded_long n d (omega arith))

pub padded_short : (n m : ℕ) (d : List ℕ) → length d + m ≡ n → d ++ white m ≡ padded n d
unfolding padded
padded_short n m [] e = let z : m ≡ n = omega arith in rw z (padded_none n)
padded_short zero m (x ∷ d) e = absurd (omega arith)
padded_short (suc n) m (x ∷ d) e = ap (λ (t : List ℕ). x ∷ t) (padded_short n m d (omega arith))

white_after : (m : ℕ) (d : List ℕ) → (0 < m → length d ≡ 0) → white m ≡ padded m d
unfolding padded
white_after zero d h = refl
white_after (suc m) [] h = padded_none (suc m)
white_after (suc m) (x ∷ d) h = absurd (omega (arith, h (omega arith)))

-- the first n bytes of the output are those of the data, and the others white
pub copied : (n m : ℕ) (d out xs ys : List ℕ) → xs ≡ take n d → n ≤ length d → n ≤ length out → (n < length out → length d ≤ n)
    → ys ≡ white m → m ≡ length (take (length (xs ++ drop n out) - n) (drop n (xs ++ drop n out)))
    → put_mid n (length (xs ++ drop n out) - n) (xs ++ drop n out) ys ≡ padded (length out) d
copied n m d out xs ys e l g h y q =
    let k : length xs ≡ n = ap length e ∙ length-take-le n d l in
    let r : m ≡ length (drop n out) = q ∙ ap length (tail_lent n (xs ++ drop n out)) ∙ ap length (drop_at xs (drop n out) n k) in
    let s : length out ≡ n + m = omega (arith, length-drop n out) in
    tail_back n (xs ++ drop n out) ys
    ∙ rw (take_at xs (drop n out) n k, y, e, padded_long n d l, white_after m (drop n d) (λ z. omega (arith, length-drop n d, h (omega arith))), ← (padded_add n m d), s)

-- a place behind the data's end is as good as its end
pub drop_within : (n k : ℕ) (d : List ℕ) → (k ≤ length d → n ≡ k) → (length d ≤ k → n ≡ length d) → drop n d ≡ drop k d
drop_within n k d f g = go (leb k (length d)) refl
  where
    go : (t : Bool) → leb k (length d) ≡ t → drop n d ≡ drop k d
    go true e = ap (λ (i : ℕ). drop i d) (f (leb-true k (length d) e))
    go false e =
        let l : length d ≤ k = omega (arith, leb-false k (length d) e) in
        rw (drop_of_length-le d {i = n} (omega (arith, g l)), drop_of_length-le d {i = k} l)

set_append_add : (xs ys : List ℕ) (j v : ℕ) → set (xs ++ ys) (length xs + j) v ≡ xs ++ set ys j v
set_append_add [] ys j v = rw zero-add
set_append_add (x ∷ xs) ys j v =
    let e : suc (length xs) + j ≡ suc (length xs + j) = omega arith in
    rw e (ap (λ (t : List ℕ). x ∷ t) (set_append_add xs ys j v))

picture_suc : (w : ℕ) (d : List ℕ) (t : ℕ) (rest : List ℕ) → picture 1 w d t ++ row_bytes 1 w d t ++ rest ≡ picture 1 w d (t + 1) ++ rest
unfolding picture
picture_suc w d t rest = rw add-one

-- ---- the picture
module _ (w : ℕ) (d : List ℕ) (pos : 0 < w) (h : (i : ℕ) → get_or d i 0 < 256) where
  row_bytes_lem : (t m pad : ℕ) → row_size w ≡ suc m → w + pad ≡ row_size w * 8
      → set (padded (row_size w) (drop (t * row_size w) d)) m (clipped pad (get_or (padded (row_size w) (drop (t * row_size w) d)) m 0)) ≡ row_bytes 1 w d t
  unfolding row_bytes row_dots bitmap_row
  row_bytes_lem t m pad e q = clip_as (row_size w) m w pad (drop (t * row_size w) d) e q (omega arith) (bytes_drop (t * row_size w) d h)

  -- one row, from the place where it starts
  pub row_clipped : (t m pad : ℕ) (out : List ℕ) → out ≡ padded (row_size w) (drop (t * row_size w) d) → m ≡ row_size w - 1 → pad ≡ row_size w * 8 - w
      → set out m (clipped pad (get_or out m 0)) ≡ pack (row_size w) (bitmap_row w d t)
  unfolding row_bytes row_dots
  row_clipped t m pad out p e q = rw p (row_bytes_lem t m pad (omega arith) (omega arith))

  -- one more row of a copy of the data
  pub clip_next : (t m pad n : ℕ) (out out₀ : List ℕ) → (t + 1) * row_size w ≤ n → out₀ ≡ padded n d → out ≡ picture 1 w d t ++ drop (t * row_size w) out₀
      → m ≡ t * row_size w + row_size w - 1 → pad ≡ row_size w * 8 - w
      → set out m (clipped pad (get_or out m 0)) ≡ picture 1 w d (t + 1) ++ drop ((t + 1) * row_size w) out₀
  clip_next t m pad n out out₀ l p q e z =
      let s : ℕ = row_size w in
      let o : ℕ = t * s in
      let step : (t + 1) * s ≡ o + s = add-mul t 1 s ∙ rw one-mul in
      let r : ℕ = n - (o + s) in
      let front : List ℕ = picture 1 w d t in
      let len : length front ≡ o = length_picture 1 w d t in
      let here : List ℕ = padded s (drop o d) in
      let rest : List ℕ = padded r (drop (o + s) d) in
      let all : n ≡ o + (s + r) = omega arith in
      let split : out₀ ≡ padded o d ++ (here ++ rest) =
      p ∙ ap (λ (m : ℕ). padded m d) all ∙ padded_add o (s + r) d
      ∙ ap (λ (t : List ℕ). padded o d ++ t) (padded_add s r (drop o d) ∙ ap (λ (t : List ℕ). padded s (drop o d) ++ padded r t) (drop-drop s o d)) in
      let behind : drop o out₀ ≡ here ++ rest = ap (drop o) split ∙ drop_at (padded o d) (here ++ rest) o (length_padded o d) in
      let below : drop (o + s) out₀ ≡ rest = sym (drop-drop s o out₀) ∙ ap (drop s) behind ∙ drop_at here rest s (length_padded s (drop o d)) in
      let whole : out ≡ front ++ (here ++ rest) = q ∙ rw behind in
      let place : m ≡ length front + (s - 1) = omega arith in
      let inside : s - 1 < length here = rw (length_padded s (drop o d)) (omega arith) in
      let value : get_or (front ++ (here ++ rest)) (length front + (s - 1)) 0 ≡ get_or here (s - 1) 0 =
      get_or-append-add front (here ++ rest) (s - 1) 0 ∙ get_or-append here rest 0 (s - 1) inside in
      let row : set here (s - 1) (clipped pad (get_or here (s - 1) 0)) ≡ row_bytes 1 w d t = row_bytes_lem t (s - 1) pad (omega arith) (omega arith) in
      rw (
        whole,
        place,
        value,
        set_append_add front (here ++ rest) (s - 1) (clipped pad (get_or here (s - 1) 0)),
        set-append_left here rest (s - 1) (clipped pad (get_or here (s - 1) 0)) inside,
        row,
        step,
        below,
      )
      (sym (append_assoc front (row_bytes 1 w d t) rest) ∙ picture_suc w d t rest)

  -- where the width fills its bytes there is nothing to clip
  row_whole : (t : ℕ) → w % 8 ≡ 0 → padded (row_size w) (drop (t * row_size w) d) ≡ row_bytes 1 w d t
  row_whole t z =
      let s : List ℕ = padded (row_size w) (drop (t * row_size w) d) in
      sym (set-get_or s (row_size w - 1) 0) ∙ ap (set s (row_size w - 1)) (sym (clipped_none (get_or s (row_size w - 1) 0)))
      ∙ row_bytes_lem t (row_size w - 1) 0 (omega arith) (omega arith)

  pub picture_whole : (t : ℕ) → w % 8 ≡ 0 → padded (t * row_size w) d ≡ picture 1 w d t
  unfolding picture padded
  picture_whole zero z = rw zero-mul
  picture_whole (suc t) z = rw (suc-mul, padded_add (t * row_size w) (row_size w) d, picture_whole t z, row_whole t z)

-- ---- a row has its dots from its own bytes
unpack_take : (m : ℕ) (d : List ℕ) → unpack (take m d) ≡ take (m * 8) (unpack d)
unfolding unpack
unpack_take zero d = refl
unpack_take (suc m) [] = sym (take-nil (suc m * 8))
unpack_take (suc m) (b ∷ d) =
    let z : suc m * 8 ≡ 8 + m * 8 = omega arith in
    rw z (ap (λ (t : List Bool). dots_in 8 b ++ t) (unpack_take m d) ∙ sym (take_past b (m * 8) (unpack d)))

drop_take : (a n : ℕ) (d : List ℕ) → drop a (take n d) ≡ take (n - a) (drop a d)
drop_take zero n d = rw sub-zero
drop_take (suc a) zero d = rw zero-sub
drop_take (suc a) (suc n) [] = sym (take-nil (suc n - suc a))
drop_take (suc a) (suc n) (x ∷ d) = rw suc-sub-suc (drop_take a n d)

pub bitmap_take : (w h : ℕ) (d : List ℕ) (t : ℕ) → t < h → bitmap_row w (take (picture_size w h) d) t ≡ bitmap_row w d t
unfolding bitmap_row
bitmap_take w h d t l =
    let o : ℕ = t * row_size w in
    let n : ℕ = picture_size w h - o in
    let g : t + 1 ≤ h = omega arith in
    let m : row_size w ≤ n = omega (arith, mul-le-mul_right (row_size w) g, add-mul t 1 (row_size w), one-mul (row_size w)) in
    rw (drop_take o (picture_size w h) d, unpack_take n (drop o d)) (take-take w (n * 8) (unpack (drop o d)) (omega arith))
