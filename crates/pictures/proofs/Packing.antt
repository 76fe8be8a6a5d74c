-- Laws of `pack`: what a run of black dots does to the bytes of a row. Assumes nothing.
use Rattle.std.proofs.Common.{◌≡◌, ℕ, zero, suc, ◌+◌, ◌-◌, ◌*◌, ◌/◌, ◌%◌, ◌^◌, ◌<◌, ◌≤◌, Bool, true, false, List, [], ◌∷◌, ◌++◌, length, get_or, drop, set, replicate, sym, refl, ap, ◌∙◌, zero-add, arith, length-append, length-drop, drop_of_length-le, append_assoc, append-nil, take_all, drop-drop, pow_pos, pow_mono, pow-add}
use native.Mathlib.Nat.{sub-zero, zero-sub, suc-sub-suc}
use borrow.Rule.Slice.PartMut.{put_mid}
use lib.ListN.{length-replicate, replicate-append-replicate}
use lib.Seq.{drop-append-le, paste, paste-zero}
use lib.Pow.{shl-shr}
use Rattle.std.proofs.lemmas.List.Edits.{fill_from_more}
use Rattle.pictures.specs.Dots.{bit, bits, pack}
use Rattle.pictures.specs.Drawing.{darker, white}

-- dots past the first k do not count
pub bits_append : (k : ℕ) (ds es : List Bool) → k ≤ length ds → bits k (ds ++ es) ≡ bits k ds
unfolding bits
bits_append zero ds es h = refl
bits_append (suc k) [] es h = absurd (omega arith)
bits_append (suc k) (d ∷ ds) es h = ap (λ (x : ℕ). bit d * 2 ^ k + x) (bits_append k ds es (omega arith))

pub bits_none : (k : ℕ) → bits k [] ≡ 0
unfolding bits
bits_none zero = refl
bits_none (suc k) = refl

-- the room that is left below the dots of a number
bits_room : (k : ℕ) (ds : List Bool) → length ds ≤ k → bits k ds + 2 ^ (k - length ds) ≤ 2 ^ k
unfolding bits
bits_room zero ds h = rw zero-sub (omega arith)
bits_room (suc k) [] h = rw sub-zero (omega arith)
bits_room (suc k) (true ∷ ds) h = rw suc-sub-suc (omega (arith, bits_room k ds (omega arith)))
bits_room (suc k) (false ∷ ds) h = rw suc-sub-suc (omega (arith, bits_room k ds (omega arith)))

-- a number of m black dots
bits_black : (k m : ℕ) → m ≤ k → bits k (replicate m true) + 2 ^ (k - m) ≡ 2 ^ k
unfolding bits
bits_black zero m h = rw zero-sub
bits_black (suc k) zero h = rw sub-zero (omega arith)
bits_black (suc k) (suc m) h = rw suc-sub-suc (omega (arith, bits_black k m (omega arith)))

-- m black dots after the dots of a number
bits_more : (k : ℕ) (ds : List Bool) (m : ℕ) → length ds + m ≤ k → bits k (ds ++ replicate m true) + 2 ^ (k - length ds - m) ≡ bits k ds + 2 ^ (k - length ds)
unfolding bits
bits_more k [] m h = rw (sub-zero, bits_none) (bits_black k m (omega arith) ∙ omega arith)
bits_more zero (d ∷ ds) m h = absurd (omega arith)
bits_more (suc k) (d ∷ ds) m h = rw suc-sub-suc (omega (arith, bits_more k ds m (omega arith)))

byte_black : (ds : List Bool) (r m : ℕ) → length ds ≡ r → r + m ≤ 8 → bits 8 (ds ++ replicate m true) ≡ darker (bits 8 ds) (2 ^ (8 - r) - 2 ^ (8 - (r + m)))
byte_black ds r m e h =
    let all : length ds + m ≤ 8 = omega arith in
    let less : 8 - r - m ≡ 8 - (r + m) = omega arith in
    let sum : bits 8 (ds ++ replicate m true) + 2 ^ (8 - (r + m)) ≡ bits 8 ds + 2 ^ (8 - r) = rw (e, less) at (bits_more 8 ds m all) in
    let len : length (ds ++ replicate m true) ≤ 8 = simp (length-append, length-replicate) (omega arith) in
    omega (arith, bits_room 8 (ds ++ replicate m true) len, pow_pos (8 - length (ds ++ replicate m true)), pow_mono {i = 8 - (r + m)} {j = 8 - r} (omega arith))

-- m black dots from place r of byte q on, all in that byte
pub pack_black : (n q : ℕ) (ds : List Bool) (r m v : ℕ) → length ds ≡ q * 8 + r → r + m ≤ 8 → q < n → v ≡ 2 ^ (8 - r) - 2 ^ (8 - (r + m))
    → set (pack n ds) q (darker (get_or (pack n ds) q 0) v) ≡ pack n (ds ++ replicate m true)
unfolding pack
pack_black zero q ds r m v e h l z = absurd (omega arith)
pack_black (suc n) zero ds r m v e h l z =
    let head : bits 8 (ds ++ replicate m true) ≡ darker (bits 8 ds) (2 ^ (8 - r) - 2 ^ (8 - (r + m))) = byte_black ds r m (omega arith) h in
    let left : drop 8 ds ≡ [] = drop_of_length-le ds {i = 8} (omega arith) in
    let right : drop 8 (ds ++ replicate m true) ≡ [] = drop_of_length-le (ds ++ replicate m true) {i = 8} (simp (length-append, length-replicate) (omega arith)) in
    rw (z, head, left, right)
pack_black (suc n) (suc q) ds r m v e h l z =
    let long : 8 ≤ length ds = omega arith in
    rw (
      bits_append 8 ds (replicate m true) long,
      drop-append-le 8 ds (replicate m true) long,
      ← (pack_black n q (drop 8 ds) r m v (simp length-drop (omega arith)) h (omega arith) z),
    )

-- a whole byte behind the dots
white_byte : (n q : ℕ) (ds : List Bool) → length ds ≤ q * 8 → get_or (pack n ds) q 0 ≡ 0
unfolding pack
white_byte zero q ds e = refl
white_byte (suc n) zero [] e = bits_none 8
white_byte (suc n) zero (d ∷ ds) e = absurd (omega arith)
white_byte (suc n) (suc q) ds e = white_byte n q (drop 8 ds) (simp length-drop (omega arith))

pub pack_byte : (n q : ℕ) (ds : List Bool) → length ds ≡ q * 8 → q < n → set (pack n ds) q 255 ≡ pack n (ds ++ replicate 8 true)
pack_byte n q ds e l =
    rw (white_byte n q ds (omega arith)) at (pack_black n q ds 0 8 255 (omega arith) (omega arith) l refl)

pub length_pack : (n : ℕ) (ds : List Bool) → length (pack n ds) ≡ n
unfolding pack
length_pack zero ds = refl
length_pack (suc n) ds = ap suc (length_pack n (drop 8 ds))

black_bytes : (n m q : ℕ) (ds : List Bool) → length ds ≡ q * 8 → q + m ≤ n → paste (pack n ds) q (replicate m 255) m ≡ pack n (ds ++ replicate (m * 8) true)
black_bytes n zero q ds e l = sym (paste-zero (pack n ds) q []) ∙ rw append-nil
black_bytes n (suc m) q ds e l =
    let len : length (ds ++ replicate (m * 8) true) ≡ (q + m) * 8 = simp (length-append, length-replicate) (omega arith) in
    let z : m * 8 + 8 ≡ suc m * 8 = omega arith in
    let i : m + 1 ≡ suc m = omega arith in
    let more : pack n ((ds ++ replicate (m * 8) true) ++ replicate 8 true) ≡ pack n (ds ++ replicate (suc m * 8) true) = rw (append_assoc, replicate-append-replicate, z) in
    rw i at (sym (fill_from_more (pack n ds) q m 255 (omega (arith, length_pack n ds))))
    ∙ ap (λ (t : List ℕ). set t (q + m) 255) (black_bytes n m q ds e (omega arith))
    ∙ pack_byte n (q + m) (ds ++ replicate (m * 8) true) len (omega arith) ∙ more

-- whole bytes made black, which follow the dots of a row
pub bytes_black : (n m q : ℕ) (ds : List Bool) (row ys : List ℕ) → row ≡ pack n ds → ys ≡ replicate m 255 → length ds ≡ q * 8 → q + m ≤ n
    → put_mid q m row ys ≡ pack n (ds ++ replicate (m * 8) true)
bytes_black n m q ds row ys p y e l =
    rw (p, y) (rw (take_all {A = ℕ} m (replicate m 255) (omega (arith, length-replicate {A = ℕ} m 255)), ← (drop-drop m q (pack n ds)), append_assoc) at (black_bytes n m q ds e l))

-- no dots are white bytes
pub pack_none : (n : ℕ) → pack n [] ≡ white n
unfolding pack
pack_none zero = refl
pack_none (suc n) = rw (bits_none, pack_none n)

pub size : (n : ℕ) (ds : List Bool) (row : List ℕ) → row ≡ pack n ds → length row ≡ n
size n ds row p = ap length p ∙ length_pack n ds

-- white dots at the end do not count
bits_white : (k m : ℕ) → bits k (replicate m false) ≡ 0
unfolding bits
bits_white zero m = refl
bits_white (suc k) zero = refl
bits_white (suc k) (suc m) = omega (arith, bits_white k m)

bits_whiter : (k : ℕ) (ds : List Bool) (m : ℕ) → bits k (ds ++ replicate m false) ≡ bits k ds
unfolding bits
bits_whiter zero ds m = refl
bits_whiter (suc k) [] m = bits_white (suc k) m
bits_whiter (suc k) (d ∷ ds) m = ap (λ (x : ℕ). bit d * 2 ^ k + x) (bits_whiter k ds m)

drop_white : (k m : ℕ) → drop k (replicate m false) ≡ replicate (m - k) false
drop_white zero m = rw sub-zero
drop_white (suc k) zero = rw zero-sub
drop_white (suc k) (suc m) = rw suc-sub-suc (drop_white k m)

drop_whiter : (k : ℕ) (ds : List Bool) (m : ℕ) → drop k (ds ++ replicate m false) ≡ drop k ds ++ replicate (m - (k - length ds)) false
drop_whiter zero ds m = rw (zero-sub, sub-zero)
drop_whiter (suc k) [] m = rw sub-zero (drop_white (suc k) m)
drop_whiter (suc k) (d ∷ ds) m = rw suc-sub-suc (drop_whiter k ds m)

pub pack_white : (n : ℕ) (ds : List Bool) (m : ℕ) → pack n (ds ++ replicate m false) ≡ pack n ds
unfolding pack
pack_white zero ds m = refl
pack_white (suc n) ds m = rw (bits_whiter 8 ds m, drop_whiter 8 ds m, pack_white n (drop 8 ds) (m - (8 - length ds)))

-- a byte's value shifted right
pub shifted : (r : ℕ) → r ≤ 8 → 256 / 2 ^ r ≡ 2 ^ (8 - r)
shifted r h =
    let parts : 8 ≡ 8 - r + r = omega arith in
    let e : 2 ^ 8 ≡ 2 ^ (8 - r) * 2 ^ r = ap (λ (x : ℕ). 2 ^ x) parts ∙ pow-add 2 (8 - r) r in
    ap (λ (x : ℕ). x / 2 ^ r) e ∙ shl-shr (2 ^ (8 - r)) r

-- a cleared row, where no dots are drawn
pub white_row_lem : {m n : ℕ} {ds : List Bool} {row : List ℕ} → row ≡ white m → m ≡ n → [] ≡ ds → row ≡ pack n ds
white_row_lem {n = n} p q r = p ∙ rw (q, ← r) (sym (pack_none n))

pub same_pack : {n n' : ℕ} {ds es : List Bool} → n ≡ n' → ds ≡ es → pack n ds ≡ pack n' es
same_pack p q = rw (p, q)

-- ---- a run, in a row of n bytes that holds the dots ds
module _ (n : ℕ) (ds : List Bool) (from m : ℕ) (row : List ℕ) (p : row ≡ pack n ds) (l : length ds ≡ from) where
  -- it lies in one byte
  pub run_within : (v : ℕ) → from / 8 ≡ (from + m) / 8 → from + m ≤ 8 * n → 0 < m
      → v ≡ (2 ^ (8 - from % 8) - 1) - (2 ^ (8 - (from + m) % 8) - 1)
      → set row (from / 8) (darker (get_or row (from / 8) 0) v) ≡ pack n (ds ++ replicate m true)
  run_within v q h z e =
      let r : 8 - (from % 8 + m) ≡ 8 - (from + m) % 8 = omega arith in
      let w : v ≡ 2 ^ (8 - from % 8) - 2 ^ (8 - (from % 8 + m)) = rw r (omega (arith, e, pow_pos (8 - (from + m) % 8))) in
      rw p (pack_black n (from / 8) ds (from % 8) m v (omega arith) (omega arith) (omega arith) w)

  -- it goes on behind the byte that it starts in
  pub run_first : (v : ℕ) → from / 8 < n → v ≡ 2 ^ (8 - from % 8) - 1
      → set row (from / 8) (darker (get_or row (from / 8) 0) v) ≡ pack n (ds ++ replicate (8 - from % 8) true)
  run_first v h e =
      let r : 8 - (from % 8 + (8 - from % 8)) ≡ 0 = omega arith in
      rw p (pack_black n (from / 8) ds (from % 8) (8 - from % 8) v (omega arith) (omega arith) h (rw r e))

-- it ends in a byte that it starts
pub run_last : (n : ℕ) (ds : List Bool) (q m : ℕ) (row : List ℕ) → row ≡ pack n ds → length ds ≡ q * 8 → (v : ℕ) → m ≤ 8 → q < n
    → v ≡ 255 - (2 ^ (8 - m) - 1) → set row q (darker (get_or row q 0) v) ≡ pack n (ds ++ replicate m true)
run_last n ds q m row p l v u h e =
    let w : v ≡ 2 ^ 8 - 2 ^ (8 - (0 + m)) = rw zero-add (omega (arith, pow_pos (8 - m))) in
    rw p (pack_black n q ds 0 m v (omega arith) (omega arith) h w)
