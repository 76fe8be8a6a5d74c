-- Laws of the half turn: a row mirrored byte by byte, and moved by its padding. Assumes nothing.
use Rattle.std.proofs.Common.{ℕ, zero, suc, ◌+◌, ◌*◌, ◌-◌, ◌^◌, ◌/◌, ◌<◌, ◌≤◌, ◌%◌, ◌≡◌, refl, sym, ap, ◌∙◌, List, [], ◌++◌, reverse, map, Bool, true, false, ltb, length, drop, take, get_or, arith, w64}
use Rattle.std.specs.Int.{from_be_bytes, to_be_bytes, to_le_bytes}
use Rattle.std.proofs.lemmas.Nat.{be_bytes_8}
use Rattle.std.proofs.lemmas.Slice.{take-put_mid}
use Rattle.std.proofs.lemmas.List.{get_or-map, get_or-reverse, length-map, length-reverse, reverse-append, map-append, take-append-drop, take-take, drop-take}
use Rattle.std.proofs.Math.Seq.{take-add, drop-drop}
use borrow.Rule.Slice.PartMut.{put_mid}
use mathlib.Core.List.{append-nil}
use native.Mathlib.Nat.{mod-lt, le_refl, add-mul, mul-le-mul, div-lt_iff_lt-mul, div-add-mod', mod-eq_of_lt}
use lib.Seq.{take_all, get_or-drop, get_or-take, ext_get_or}
use borrow.Author.Tests.{ltb-true, ltb-false, lt-ltb, le-ltb}
use lib.ListN.{length-drop, length-take, drop_of_length-le}
use lib.Pow.{high, pow_mono, shl-shr}
use Rattle.pictures.specs.Dots.{dots_in}
use Rattle.pictures.specs.Size.{row_size, picture_size}
use Rattle.turning.specs.Turn.{each, picture_rows, turned}
use Rattle.turning.specs.Mirror.{mirror}
use Rattle.turning.specs.MirrorBytes.{joined_dots, mirrored_at, half_byte}
use Rattle.turning.proofs.DotLaws.{dot_in, dot_bits, bits_lt, dot_above, dot_none, dot_shr, dot_low, byte_is}
use Rattle.turning.proofs.PictureLaws.{dot, each_at, each_past, drawn_at, length_drawn, dot_at_lem, row_fits}
use Rattle.turning.proofs.Places.{turned_places}

-- ---- a byte
reversed_at : (b i : ℕ) → i < 8 → get_or (reverse (dots_in 8 b)) i false ≡ dot_in i b
unfolding dots_in
reversed_at b zero l = refl
reversed_at b (suc zero) l = refl
reversed_at b (suc (suc zero)) l = refl
reversed_at b (suc (suc (suc zero))) l = refl
reversed_at b (suc (suc (suc (suc zero)))) l = refl
reversed_at b (suc (suc (suc (suc (suc zero))))) l = refl
reversed_at b (suc (suc (suc (suc (suc (suc zero)))))) l = refl
reversed_at b (suc (suc (suc (suc (suc (suc (suc zero))))))) l = refl
reversed_at b (suc (suc (suc (suc (suc (suc (suc (suc i)))))))) l = absurd (omega arith)

pub mirror_lt : (b : ℕ) → mirror b < 256
unfolding mirror
mirror_lt b = bits_lt 8 (reverse (dots_in 8 b))

pub mirror_dot : (b i : ℕ) → i < 8 → dot_in (7 - i) (mirror b) ≡ dot_in i b
unfolding mirror
mirror_dot b i l = dot_bits 8 (reverse (dots_in 8 b)) i l ∙ reversed_at b i l

-- ---- two bytes
module _ (left right pad i : ℕ) (p : pad < 8) (l : i < 8) (r : right < 256) where
  joined_dot : dot_in (7 - i) (joined_dots left right (2 ^ pad)) ≡ dot_in (15 - (pad + i)) (left * 2 ^ 8 + right)
  unfolding joined_dots
  joined_dot =
      let x : ℕ = left * 2 ^ 8 + right in
      let e : i + (1 + (7 - i)) ≡ 8 = omega arith in
      let f : pad + (15 - (pad + i)) ≡ 8 + (7 - i) = omega arith in
      (rw e at (dot_low (7 - i) i (x * 2 ^ pad / 2 ^ 8))) ∙ dot_shr (7 - i) 8 (x * 2 ^ pad)
      ∙ sym (rw f at (dot_shr (15 - (pad + i)) pad (x * 2 ^ pad))) ∙ ap (dot_in (15 - (pad + i))) (shl-shr x pad)

  joined_left : pad + i < 8 → dot_in (7 - i) (joined_dots left right (2 ^ pad)) ≡ dot_in (7 - (pad + i)) left
  joined_left m =
      let e : 8 + (7 - (pad + i)) ≡ 15 - (pad + i) = omega arith in
      joined_dot ∙ sym (rw e at (dot_shr (7 - (pad + i)) 8 (left * 2 ^ 8 + right))) ∙ ap (dot_in (7 - (pad + i))) (high left 8 r)

  joined_right : 8 ≤ pad + i → dot_in (7 - i) (joined_dots left right (2 ^ pad)) ≡ dot_in (15 - (pad + i)) right
  joined_right m =
      let e : pad + i - 8 + (1 + (15 - (pad + i))) ≡ 8 = omega arith in
      joined_dot ∙ (rw e at (dot_above left (pad + i - 8) (15 - (pad + i)) right))

-- ---- a row
pub mirrored_in : (row : List ℕ) (q i : ℕ) → q < length row → i ≡ length row - 1 - q → mirrored_at row q ≡ mirror (get_or row i 0)
unfolding mirrored_at
mirrored_in row q i l e = rw (lt-ltb q (length row) l, e)

pub mirrored_out : (row : List ℕ) (q : ℕ) → length row ≤ q → mirrored_at row q ≡ 0
unfolding mirrored_at
mirrored_out row q l = rw (le-ltb q (length row) l)

pub mirrored_lt : (row : List ℕ) (q : ℕ) → mirrored_at row q < 256
unfolding mirrored_at
mirrored_lt row q = go (ltb q (length row)) refl
  where
    go : (b : Bool) → ltb q (length row) ≡ b → mirrored_at row q < 256
    go true e = rw e (mirror_lt (get_or row (length row - 1 - q) 0))
    go false e = rw e (omega arith)

-- the byte that is written
pub joined_as : (row : List ℕ) (padding q left right : ℕ) → left ≡ mirrored_at row q → right ≡ mirrored_at row (q + 1)
    → joined_dots left right (2 ^ padding) ≡ half_byte row padding q
unfolding half_byte
joined_as row padding q left right e f = rw (e, f)

pub last_as : (row : List ℕ) (padding q left : ℕ) → length row ≡ q + 1 → left ≡ mirrored_at row q → joined_dots left 0 (2 ^ padding) ≡ half_byte row padding q
unfolding half_byte
last_as row padding q left e f = rw (f, mirrored_out row (q + 1) (omega arith))

-- ---- bytes mirrored from the last
pub mirrored_list : (bs out : List ℕ) → length out ≡ length bs → ((k : ℕ) → k < length bs → get_or out k 0 ≡ mirror (get_or bs (length bs - 1 - k) 0)) → out ≡ map mirror (reverse bs)
mirrored_list bs out e h = ext_get_or 0 out (map mirror (reverse bs)) (simp (length-map, length-reverse) e) at
  where
    at : (k : ℕ) → k < length out → get_or out k 0 ≡ get_or (map mirror (reverse bs)) k 0
    at k l = h k (omega arith) ∙ sym (get_or-map mirror (reverse bs) k 0 0 (simp length-reverse (omega arith)) ∙ ap mirror (get_or-reverse bs k 0 (omega arith)))

-- the bytes of a number, the other way round
pub eight_reversed : (bs : List ℕ) (x k i : ℕ) → length bs ≡ 8 → ((i : ℕ) → get_or bs i 0 < 256) → x ≡ from_be_bytes w64 bs → k < 8 → i ≡ 7 - k
    → get_or (to_le_bytes w64 x) k 0 ≡ get_or bs i 0
eight_reversed bs x k i n h e l f = back k l ∙ ap (λ (b : List ℕ). get_or b (7 - k) 0) (be_bytes_8 bs x n h e) ∙ rw f
  where
    back : (k : ℕ) → k < 8 → get_or (to_le_bytes w64 x) k 0 ≡ get_or (to_be_bytes w64 x) (7 - k) 0
    back zero l = refl
    back (suc zero) l = refl
    back (suc (suc zero)) l = refl
    back (suc (suc (suc zero))) l = refl
    back (suc (suc (suc (suc zero)))) l = refl
    back (suc (suc (suc (suc (suc zero))))) l = refl
    back (suc (suc (suc (suc (suc (suc zero)))))) l = refl
    back (suc (suc (suc (suc (suc (suc (suc zero))))))) l = refl
    back (suc (suc (suc (suc (suc (suc (suc (suc k)))))))) l = absurd (omega arith)

-- the last eight of the bytes that are left are mirrored after those behind them
pub eight_next : (bs rest before eight out ys : List ℕ) (to : ℕ) → rest ≡ take (length rest) bs → length rest ≤ length bs → length before + 8 ≡ length rest
    → before ≡ take (length rest - 8) rest → eight ≡ drop (length rest - 8) rest → length out ≡ length bs → to ≡ length bs - length rest
    → take (length bs - length rest) out ≡ map mirror (reverse (drop (length rest) bs)) → ys ≡ map mirror (reverse eight) → length ys ≡ 8
    → (before ≡ take (length before) bs) × (take (length bs - length before) (put_mid to (to + 8 - to) out ys) ≡ map mirror (reverse (drop (length before) bs)))
eight_next bs rest before eight out ys to a b c d e f g h i j = (first, take-put_mid to (to + 8 - to) out ys (length bs - length before) (omega arith) (omega arith) ∙ both)
  where
    less : length rest - 8 ≡ length before
    less = omega arith

    first : before ≡ take (length before) bs
    first = d ∙ rw less (ap (take (length before)) a ∙ take-take (length before) (length rest) bs (omega arith))

    last : eight ≡ take 8 (drop (length before) bs)
    last = e ∙ rw less (ap (drop (length before)) (a ∙ ap (λ (n : ℕ). take n bs) (sym c)) ∙ drop-take (length before) 8 bs)

    split : drop (length before) bs ≡ eight ++ drop (length rest) bs
    split = sym (take-append-drop 8 (drop (length before) bs)) ∙ ap (λ (x : List ℕ). x ++ drop 8 (drop (length before) bs)) (sym last) ∙ ap (λ (x : List ℕ). eight ++ x) (drop-drop 8 (length before) bs ∙ ap (λ (n : ℕ). drop n bs) c)

    both : take to out ++ ys ≡ map mirror (reverse (drop (length before) bs))
    both = rw (g, h, i) (sym (ap (λ (x : List ℕ). map mirror (reverse x)) split ∙ ap (map mirror) (reverse-append eight (drop (length rest) bs)) ∙ map-append mirror (reverse (drop (length rest) bs)) (reverse eight)))

-- all that is left is mirrored
pub run_last : (bs rest out ys : List ℕ) (to : ℕ) → rest ≡ take (length rest) bs → length rest ≤ length bs → length out ≡ length bs → to ≡ length bs - length rest
    → take (length bs - length rest) out ≡ map mirror (reverse (drop (length rest) bs)) → ys ≡ map mirror (reverse rest) → put_mid to (length out - to) out ys ≡ map mirror (reverse bs)
run_last bs rest out ys to a b f g h i = tail ∙ both
  where
    none : drop (length out - to) (drop to out) ≡ []
    none = drop_of_length-le (drop to out) (simp length-drop (omega arith))

    tail : put_mid to (length out - to) out ys ≡ take to out ++ ys
    tail = ap (λ (x : List ℕ). take to out ++ (ys ++ x)) none ∙ ap (λ (x : List ℕ). take to out ++ x) (append-nil ys)

    both : take to out ++ ys ≡ map mirror (reverse bs)
    both =
        rw (g, h, i)
        (sym (map-append mirror (reverse (drop (length rest) bs)) (reverse rest)) ∙ ap (map mirror) (sym (reverse-append rest (drop (length rest) bs)))
        ∙ ap (λ (x : List ℕ). map mirror (reverse (x ++ drop (length rest) bs))) a ∙ ap (λ (x : List ℕ). map mirror (reverse x)) (take-append-drop (length rest) bs))

-- ---- the turned picture: the dots of a row's bytes
abbrev half_row : ℕ → ℕ → List ℕ → ℕ → ℕ → Bool
half_row w h s r c = dot (picture_rows w h s) (h - 1 - r) (w - 1 - c)

-- a row's bytes, of a picture of n bytes to a row
pub record RowOf (s : List ℕ) (n from : ℕ) (row : List ℕ) : Type 0 where
  pub long : length row ≡ n
  pub bytes : (i : ℕ) → i < n → get_or row i 0 ≡ get_or s (from + i) 0

pub row_of : (s : List ℕ) (n from k : ℕ) → k ≡ n → from + n ≤ length s → RowOf s n from (take k (drop from s))
row_of s n from k e l = rw e (record { long = simp (length-take, length-drop) (omega arith); bytes = λ i m. get_or-take n (drop from s) i 0 m ∙ get_or-drop from s i 0 })

module _ (w h : ℕ) (s : List ℕ) (n pad : ℕ) (size : n ≡ row_size w) (full : n * 8 ≡ w + pad) (p : pad < 8) (r : ℕ) (below : r < h) (row : List ℕ) (of : RowOf s n ((h - 1 - r) * n) row) where
  -- dot i of byte q of the mirrored row, which is a dot of the picture
  inner_dot : (q i c : ℕ) → q < n → i < 8 → c < w → c + pad ≡ q * 8 + i
      → dot_in (7 - i) (mirrored_at row q) ≡ dot (picture_rows w h s) (h - 1 - r) (w - 1 - c)
  inner_dot q i c l m k e =
      let x : (n - 1 - q) * 8 + (7 - i) < w = omega arith in
      let z : w - 1 - c ≡ (n - 1 - q) * 8 + (7 - i) = omega arith in
      let y : 7 - (7 - i) ≡ i = omega arith in
      ap (dot_in (7 - i)) (mirrored_in row q (n - 1 - q) (omega (arith, of.long)) (omega (arith, of.long)) ∙ ap mirror (of.bytes (n - 1 - q) (omega arith))) ∙ mirror_dot (get_or s ((h - 1 - r) * n + (n - 1 - q)) 0) i m
      ∙ sym (rw (z, size) (rw y at (dot_at_lem w h s (h - 1 - r) (row_size w - 1 - q) (7 - i) (omega arith) (rw size at x) (omega arith))))

  half_lt : (q : ℕ) → half_byte row pad q < 256
  unfolding half_byte joined_dots
  half_lt q = mod-lt ((mirrored_at row q * 256 + mirrored_at row (q + 1)) * 2 ^ pad / 256) (omega arith)

  half_dot : (q i : ℕ) → q < n → i < 8 → dot_in (7 - i) (half_byte row pad q) ≡ get_or (each w (half_row w h s r)) (q * 8 + i) false
  unfolding half_byte
  half_dot q i l m = go (ltb (pad + i) 8) refl (ltb (q * 8 + i) w) refl
    where
      go : (a : Bool) → ltb (pad + i) 8 ≡ a → (b : Bool) → ltb (q * 8 + i) w ≡ b → dot_in (7 - i) (joined_dots (mirrored_at row q) (mirrored_at row (q + 1)) (2 ^ pad)) ≡ get_or (each w (half_row w h s r)) (q * 8 + i) false
      go true e true f =
          let x : pad + i < 8 = ltb-true (pad + i) 8 e in
          let y : q * 8 + i < w = ltb-true (q * 8 + i) w f in
          joined_left (mirrored_at row q) (mirrored_at row (q + 1)) pad i p m (mirrored_lt row (q + 1)) x ∙ inner_dot q (pad + i) (q * 8 + i) l x y (omega arith) ∙ sym (each_at false w (half_row w h s r) (q * 8 + i) y)
      go false e true f =
          let x : 8 ≤ pad + i = ltb-false (pad + i) 8 e in
          let y : q * 8 + i < w = ltb-true (q * 8 + i) w f in
          let z : 15 - (pad + i) ≡ 7 - (pad + i - 8) = omega arith in
          joined_right (mirrored_at row q) (mirrored_at row (q + 1)) pad i p m (mirrored_lt row (q + 1)) x ∙ rw z (inner_dot (q + 1) (pad + i - 8) (q * 8 + i) (omega arith) (omega arith) y (omega arith)) ∙ sym (each_at false w (half_row w h s r) (q * 8 + i) y)
      go true e false f =
          let x : pad + i < 8 = ltb-true (pad + i) 8 e in
          let y : w ≤ q * 8 + i = ltb-false (q * 8 + i) w f in
          absurd (omega arith)
      go false e false f =
          let x : 8 ≤ pad + i = ltb-false (pad + i) 8 e in
          let y : w ≤ q * 8 + i = ltb-false (q * 8 + i) w f in
          joined_right (mirrored_at row q) (mirrored_at row (q + 1)) pad i p m (mirrored_lt row (q + 1)) x ∙ ap (dot_in (15 - (pad + i))) (mirrored_out row (q + 1) (omega (arith, of.long))) ∙ dot_none (15 - (pad + i)) ∙ sym (each_past false w (half_row w h s r) (q * 8 + i) y)

  -- byte q of row r of the turned picture
  pub half_byte_lem : picture_size w h ≤ length s → (q : ℕ) → q < n → get_or (turned 2 w h s) (r * n + q) 0 ≡ half_byte row pad q
  half_byte_lem enough q l =
      let k : q < row_size w = omega arith in
      ap (λ (m : ℕ). get_or (turned 2 w h s) (r * m + q) 0) size ∙ ap (λ (p : List ℕ). get_or p (r * row_size w + q) 0) (turned_places w h s enough 2) ∙ drawn_at (row_size w) w h (half_row w h s) r q below k
      ∙ sym (byte_is (half_byte row pad q) (each w (half_row w h s r)) q (half_lt q) (λ i m. half_dot q i l m))

pub length_half : (w h : ℕ) (s : List ℕ) → picture_size w h ≤ length s → length (turned 2 w h s) ≡ picture_size w h
length_half w h s enough = ap length (turned_places w h s enough 2) ∙ length_drawn (row_size w) w h (half_row w h s)

-- one more row is written
pub row_next : (all out ys : List ℕ) (a n b : ℕ) → b ≡ a + n → a + n ≤ length all → a + n ≤ length out → length ys ≡ n → take a out ≡ take a all
    → ((q : ℕ) → q < n → get_or ys q 0 ≡ get_or all (a + q) 0) → take b (put_mid a (a + n - a) out ys) ≡ take b all
row_next all out ys a n b e l m k f h =
    take-put_mid a (a + n - a) out ys b (omega arith) (omega arith) ∙ rw (f, e) (sym (take-add a n all ∙ ap (λ (x : List ℕ). take a all ++ x) (sym same)))
  where
    same : ys ≡ take n (drop a all)
    same = ext_get_or 0 ys (take n (drop a all)) (simp (length-take, length-drop) (omega arith)) (λ q o. h q (omega arith) ∙ sym (get_or-take n (drop a all) q 0 (omega arith) ∙ get_or-drop a all q 0))

pub half_all : (w h : ℕ) (s out : List ℕ) (r : ℕ) → picture_size w h ≤ length s → r ≡ h → length out ≡ picture_size w h
    → take (r * row_size w) out ≡ take (r * row_size w) (turned 2 w h s) → out ≡ turned 2 w h s
half_all w h s out r enough e l p =
    sym (take_all (h * row_size w) out (omega arith)) ∙ (rw e at p) ∙ take_all (h * row_size w) (turned 2 w h s) (rw (length_half w h s enough) (le_refl (h * row_size w)))

-- ---- a picture without padding: all its bytes mirrored, from the last
joined_none : (left right : ℕ) → left < 256 → right < 256 → joined_dots left right (2 ^ 0) ≡ left
unfolding joined_dots
joined_none left right l r = omega arith

half_none : (row : List ℕ) (q : ℕ) → half_byte row 0 q ≡ mirrored_at row q
unfolding half_byte
half_none row q = joined_none (mirrored_at row q) (mirrored_at row (q + 1)) (mirrored_lt row q) (mirrored_lt row (q + 1))

-- a byte's place from the end
from_end : (n h r q : ℕ) → r < h → q < n → (h - 1 - r) * n + (n - 1 - q) ≡ h * n - 1 - (r * n + q)
from_end n h r q l m =
    let e : (h - 1 - r) + (r + 1) ≡ h = omega arith in
    let z : (h - 1 - r) * n + (r + 1) * n ≡ h * n = sym (add-mul (h - 1 - r) (r + 1) n) ∙ ap (λ (x : ℕ). x * n) e in
    omega arith

pub mirrored_whole : (w h : ℕ) (s : List ℕ) → 0 < w → w % 8 ≡ 0 → length s ≡ picture_size w h → map mirror (reverse s) ≡ turned 2 w h s
mirrored_whole w h s p full size = sym (mirrored_list s (turned 2 w h s) (length_half w h s (omega arith) ∙ sym size) byte)
  where
    byte : (i : ℕ) → i < length s → get_or (turned 2 w h s) i 0 ≡ mirror (get_or s (length s - 1 - i) 0)
    byte i l =
        let n : ℕ = row_size w in
        let room : 0 < n = omega arith in
        let r : ℕ = i / n in
        let q : ℕ = i % n in
        let below : r < h = (div-lt_iff_lt-mul room).1 (omega arith) in
        let inside : q < n = mod-lt i room in
        let place : r * n + q ≡ i = div-add-mod' i n in
        let fits : (h - 1 - r) * n + n ≤ length s = omega (arith, row_fits n h (h - 1 - r) (omega arith)) in
        let row : List ℕ = take n (drop ((h - 1 - r) * n) s) in
        let of : RowOf s n ((h - 1 - r) * n) row = row_of s n ((h - 1 - r) * n) n refl fits in
        (rw place at (half_byte_lem w h s n 0 refl (omega arith) (omega arith) r below row of (omega arith) q inside))
        ∙ half_none row q
        ∙ mirrored_in row q (n - 1 - q) (omega (arith, of.long)) (omega (arith, of.long)) ∙ ap mirror (of.bytes (n - 1 - q) (omega arith))
        ∙ ap (λ (j : ℕ). mirror (get_or s j 0)) (from_end n h r q below inside ∙ ap (λ (j : ℕ). h * n - 1 - j) place ∙ ap (λ (z : ℕ). z - 1 - i) (sym size))

pub product_low : (left right scale : ℕ) → left < 256 → right < 256 → scale ≤ 128 → (left * 256 + right) * scale ≤ 65535 * 128
product_low left right scale l r e = let x : left * 256 + right ≤ 65535 = omega arith in mul-le-mul x e

-- the bits of two bytes moved up still fit
pub joined_at : (left right a b place : ℕ) → a ≡ left → b ≡ right → left < 256 → right < 256 → place < 8 → (a * 256 + b) * 2 ^ place % 4294967296 / 256 % 256 ≡ joined_dots left right (2 ^ place)
unfolding joined_dots
joined_at left right a b place e f l r p =
    let small : 2 ^ place ≤ 128 = pow_mono {i = place} {j = 7} (omega arith) in
    let fits : (left * 256 + right) * 2 ^ place < 4294967296 = omega (arith, product_low left right (2 ^ place) l r small) in
    rw (e, f, mod-eq_of_lt fits)
