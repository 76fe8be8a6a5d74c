-- Laws of the ones of bytes. Assumes nothing.
use Prim.Native.Nat.{ℕ, zero, suc, ◌+◌, ◌*◌, ◌-◌, ◌%◌, ◌^◌, ◌<◌, ◌≤◌}
use mathlib.Core.Path.{◌≡◌, refl, sym, ap, ◌∙◌}
use mathlib.Core.List.{List, [], ◌∷◌, ◌++◌}
use native.Mathlib.Nat.{zero-add, add-zero, zero-mul, add_comm, mul_comm, add-mul, zero-mod, mod-one, lt_of_le_of_lt, mul-le-mul_left, mul-le-mul_right}
use mathlib.Core.Bool.{Bool, true, false}
use lib.Dec.{leb}
use borrow.Author.Tests.{leb-true, leb-false}
use lib.Bits.{bit_and, and_mask, and_le_r, and_lt, and_block}
use native.Mathlib.Numerals.{add-one}
use native.Mathlib.Omega.{arith}
use lib.ListN.{length, take, drop, get_or, replicate, drop_of_length-le, length-drop}
use lib.Seq.{drop-cons, drop-drop, take-nil, take_all, get_or-drop, get_or-take}
use Rattle.std.proofs.Common.{w16, w32, w64, None}
use Rattle.std.specs.Int.{from_le_bytes}
use Rattle.std.specs.List.{slice_get}
use lib.Count.{ones, ones_cat, ones-le}
use Rattle.blackdots.specs.Black.{ones_of}
use Rattle.blackdots.specs.Counting.{overhang, ones_apart, ones_of_two, ones_said}

-- a list's ones are those of its front and of its rest
pub ones_parts : (j : ℕ) (s : List ℕ) → ones_of s ≡ ones_of (take j s) + ones_of (drop j s)
unfolding ones_of
ones_parts zero s = omega arith
ones_parts (suc j) [] = refl
ones_parts (suc j) (b ∷ s) = omega (arith, ones_parts j s)

pub ones_front : (j k : ℕ) (s : List ℕ) → ones_of (take (j + k) s) ≡ ones_of (take j s) + ones_of (take k (drop j s))
unfolding ones_of
ones_front zero k s = rw zero-add (omega arith)
ones_front (suc j) k [] = rw (take-nil (suc j + k), take-nil k)
ones_front (suc j) k (b ∷ s) = let e : suc j + k ≡ suc (j + k) = omega arith in rw e (omega (arith, ones_front j k s))

pub ones_append : (xs ys : List ℕ) → ones_of (xs ++ ys) ≡ ones_of xs + ones_of ys
unfolding ones_of
ones_append [] ys = rw zero-add
ones_append (x ∷ xs) ys = omega (arith, ones_append xs ys)

-- bytes that are 0 have none
pub ones_zeros : (n : ℕ) → ones_of (replicate n 0) ≡ 0
unfolding ones_of ones
ones_zeros zero = refl
ones_zeros (suc n) = rw zero-add (ones_zeros n)

pub ones_split : (j k at : ℕ) (b : List ℕ) → ones_of (take (j + k) (drop at b)) ≡ ones_of (take j (drop at b)) + ones_of (take k (drop (at + j) b))
ones_split j k at b = ones_front j k (drop at b) ∙ ap (λ (z : List ℕ). ones_of (take j (drop at b)) + ones_of (take k z)) (drop-drop j at b)

-- four parts of 32 bytes
pub block_ones : (at : ℕ) (b : List ℕ)
    → ones_of (take 128 (drop at b)) ≡ ones_of (take 32 (drop at b)) + ones_of (take 32 (drop (at + 32) b)) + ones_of (take 32 (drop (at + 64) b)) + ones_of (take 32 (drop (at + 96) b))
block_ones at b =
    let p : at + 64 + 32 ≡ at + 96 = omega arith in
    let e : ones_of (take 32 (drop (at + 64 + 32) b)) ≡ ones_of (take 32 (drop (at + 96) b)) = ap (λ (k : ℕ). ones_of (take 32 (drop k b))) p in
    omega (arith, ones_split 64 64 at b, ones_split 32 32 at b, ones_split 32 32 (at + 64) b, e)

-- k bytes and those after them
pub ones_back : (i k j : ℕ) (b : List ℕ) → i + k ≡ j → ones_of (drop i b) ≡ ones_of (take k (drop i b)) + ones_of (drop j b)
ones_back i k j b e =
    let r : ones_of (drop k (drop i b)) ≡ ones_of (drop j b) = ap ones_of (drop-drop k i b ∙ ap (λ (n : ℕ). drop n b) e) in
    omega (arith, ones_parts k (drop i b), r)

-- two numbers as one: the low one has m bits
high_first : (m x y : ℕ) → x + 2 ^ m * y ≡ y * 2 ^ m + x
high_first m x y = add_comm x (2 ^ m * y) ∙ ap (λ (z : ℕ). z + x) (mul_comm (2 ^ m) y)

ones_sum : (m x y : ℕ) → x < 2 ^ m → ones (x + 2 ^ m * y) ≡ ones y + ones x
ones_sum m x y l = ap ones (high_first m x y) ∙ ones_cat m y x l

pub ones_joined : (m k x y at : ℕ) (b : List ℕ) → ones x ≡ ones_of (take k (drop at b)) → ones y ≡ ones_of (take k (drop (at + k) b)) → x < 2 ^ m
    → ones (x + 2 ^ m * y) ≡ ones_of (take (k + k) (drop at b))
ones_joined m k x y at b ex ey l = omega (arith, ones_sum m x y l, ex, ey, ones_split k k at b)

-- a byte's own
pub ones_byte : (i : ℕ) (b : List ℕ) → i < length b → ones_of (take 1 (drop i b)) ≡ ones (get_or b i 0)
unfolding ones_of
ones_byte i b l = ap (λ (z : List ℕ). ones_of (take 1 z)) (drop-cons b i 0 l) ∙ omega arith

-- none left, and the last one
pub ones_past : (i : ℕ) (b : List ℕ) → length b ≤ i → ones_of (drop i b) ≡ 0
unfolding ones_of
ones_past i b l = ap ones_of (drop_of_length-le b {i = i} l)

pub ones_last : (i : ℕ) (b : List ℕ) → i < length b → length b ≤ i + 1 → ones_of (drop i b) ≡ ones (get_or b i 0)
ones_last i b h l = omega (arith, ones_back i 1 (i + 1) b refl, ones_byte i b h, ones_past (i + 1) b l)

-- ── eight, four and two bytes as one number, the first the lowest
module _ (b : List ℕ) (bytes : (i : ℕ) → get_or b i 0 < 256) where
  abbrev two_from : ℕ → ℕ
  two_from at = get_or b at 0 + 2 ^ 8 * get_or b (at + 1) 0

  abbrev four_from : ℕ → ℕ
  four_from at = two_from at + 2 ^ 16 * two_from (at + 2)

  two_lt : (at : ℕ) → two_from at < 2 ^ 16
  two_lt at = omega (arith, bytes at, bytes (at + 1))

  two_ones : (at : ℕ) → at + 2 ≤ length b → ones (two_from at) ≡ ones_of (take 2 (drop at b))
  two_ones at l = ones_joined 8 1 (get_or b at 0) (get_or b (at + 1) 0) at b (sym (ones_byte at b (omega arith))) (sym (ones_byte (at + 1) b (omega arith))) (bytes at)

  four_ones : (at : ℕ) → at + 4 ≤ length b → ones (four_from at) ≡ ones_of (take 4 (drop at b))
  four_ones at l = ones_joined 16 2 (two_from at) (two_from (at + 2)) at b (two_ones at (omega arith)) (two_ones (at + 2) (omega arith)) (two_lt at)

  eight_ones : 8 ≤ length b → ones (four_from 0 + 2 ^ 32 * four_from 4) ≡ ones_of (take 8 (drop 0 b))
  eight_ones l = ones_joined 32 4 (four_from 0) (four_from 4) 0 b (four_ones 0 (omega arith)) (four_ones 4 (omega arith)) (omega (arith, two_lt 0, two_lt 2))

  pub word_ones : (x : ℕ) → length b ≡ 8 → x ≡ from_le_bytes w64 b → ones x ≡ ones_of b
  word_ones x l e =
      let v : x ≡ four_from 0 + 2 ^ 32 * four_from 4 = omega (arith, e) in
      ap ones v ∙ eight_ones (omega arith) ∙ ap ones_of (take_all 8 b (omega arith))

  -- those at the front
  pub four_first : (x : ℕ) (part : List ℕ) → part ≡ take 4 b → 4 ≤ length b → x ≡ from_le_bytes w32 part → ones x ≡ ones_of part
  four_first x part p l e =
      let v : x ≡ four_from 0 = omega (arith, e, same 0 (omega arith), same 1 (omega arith), same 2 (omega arith), same 3 (omega arith)) in
      ap ones v ∙ four_ones 0 l ∙ ap ones_of (sym p)
    where
      same : (i : ℕ) → i < 4 → get_or part i 0 ≡ get_or b i 0
      same i k = ap (λ (z : List ℕ). get_or z i 0) p ∙ get_or-take 4 b i 0 k

  pub two_first : (x : ℕ) (part : List ℕ) → part ≡ take 2 b → 2 ≤ length b → x ≡ from_le_bytes w16 part → ones x ≡ ones_of part
  two_first x part p l e =
      let v : x ≡ two_from 0 = omega (arith, e, same 0 (omega arith), same 1 (omega arith)) in
      ap ones v ∙ two_ones 0 l ∙ ap ones_of (sym p)
    where
      same : (i : ℕ) → i < 2 → get_or part i 0 ≡ get_or b i 0
      same i k = ap (λ (z : List ℕ). get_or z i 0) p ∙ get_or-take 2 b i 0 k

  pub bytes_after : (k : ℕ) (rest : List ℕ) → rest ≡ drop k b → (i : ℕ) → get_or rest i 0 < 256
  bytes_after k rest e i = rw (e, get_or-drop k b i 0) (bytes (k + i))

-- no byte has more than eight
pub ones_most : (b : List ℕ) → ((i : ℕ) → get_or b i 0 < 256) → ones_of b ≤ 8 * length b
unfolding ones_of
ones_most [] h = omega arith
ones_most (x ∷ b) h = omega (arith, ones-le 8 x (h 0), ones_most b (λ i. h (suc i)))

-- the bytes b as one number x of so many bits, but for fewer than n that are left
abbrev pub JoinedTo : ℕ → ℕ → List ℕ → ℕ → List ℕ → Type 0
JoinedTo bits n b x rest = (ones x + ones_of rest ≡ ones_of b) × (x < 2 ^ bits) × (length rest < n) × ((i : ℕ) → get_or rest i 0 < 256)

-- k bytes more, as a number y of m bits
pub join_more : (m k x y : ℕ) (b rest part after : List ℕ) → ones x + ones_of rest ≡ ones_of b → y < 2 ^ m → ones y ≡ ones_of part → part ≡ take k rest → after ≡ drop k rest
    → ones (x * 2 ^ m + y) + ones_of after ≡ ones_of b
join_more m k x y b rest part after e l o p q = omega (arith, e, o, ap ones_of p, ap ones_of q, ones_parts k rest, ones_cat m x y l)

-- where there is no first byte, there are no ones
pub none_left : (rest : List ℕ) → None ≡ slice_get rest 0 → ones_of rest ≡ 0
unfolding ones_of
none_left [] e = refl
none_left (y ∷ rest) e = absurd cc

-- before the first block
pub said_none : (b : List ℕ)
    → ones_said (record { eights = record { first = 0; second = 0 }; ones = record { first = 0; second = 0 }; twos = record { first = 0; second = 0 }; fours = record { first = 0; second = 0 } }) + ones_of b ≡ ones_of b
unfolding ones_said ones_of_two ones
said_none b = omega arith

-- ── the last bytes of rows
past : (b : List ℕ) (i : ℕ) → length b ≤ i → get_or b i 0 ≡ 0
past [] i l = refl
past (x ∷ b) zero l = absurd (omega arith)
past (x ∷ b) (suc i) l = past b i (omega arith)

ones_zero : (k : ℕ) → ones (0 % k) ≡ 0
unfolding ones
ones_zero k = rw zero-mod

pub overhang_start : (n pad : ℕ) (b : List ℕ) → 0 ≡ overhang n pad b 0
unfolding overhang
overhang_start n pad b = refl

-- rows from t on have no last byte
overhang_none : (n pad : ℕ) (b : List ℕ) (t j : ℕ) → length b ≤ t * n + (n - 1) → overhang n pad b (t + j) ≡ overhang n pad b t
unfolding overhang
overhang_none n pad b t zero l = rw add-zero
overhang_none n pad b t (suc j) l =
    let e : t + suc j ≡ suc (t + j) = omega arith in
    let g : get_or b ((t + j) * n + (n - 1)) 0 ≡ 0 = past b ((t + j) * n + (n - 1)) (omega (arith, add-mul t j n)) in
    rw (e, g) (omega (arith, ones_zero (2 ^ pad), overhang_none n pad b t j l))

pub overhang_rest : (n pad : ℕ) (b : List ℕ) (t h : ℕ) → length b ≤ t * n + (n - 1) → length b ≤ h * n → overhang n pad b t ≡ overhang n pad b h
overhang_rest n pad b t h l m = go (leb t h) refl
  where
    go : (x : Bool) → leb t h ≡ x → overhang n pad b t ≡ overhang n pad b h
    go true w =
        let g : t ≤ h = leb-true t h w in
        let e : h ≡ t + (h - t) = omega arith in
        sym (ap (overhang n pad b) e ∙ overhang_none n pad b t (h - t) l)
    go false w =
        let g : h < t = leb-false t h w in
        let e : t ≡ h + (t - h) = omega arith in
        ap (overhang n pad b) e ∙ overhang_none n pad b h (t - h) (omega arith)

pub overhang_next : (n pad mask k at t : ℕ) (b : List ℕ) → mask ≡ 2 ^ pad - 1 → at ≡ t * n + (n - 1) → k ≡ overhang n pad b t
    → k + ones (bit_and (get_or b at 0) mask) ≡ overhang n pad b (t + 1)
unfolding overhang
overhang_next n pad mask k at t b e p q =
    rw (add-one, e, and_mask (get_or b at 0) pad, p, q)

-- rows after the first t are rows of what is left
pub overhang_after : (n pad : ℕ) (b : List ℕ) (t h : ℕ) → overhang n pad b (t + h) ≡ overhang n pad b t + overhang n pad (drop (t * n) b) h
unfolding overhang
overhang_after n pad b t zero = rw add-zero (omega arith)
overhang_after n pad b t (suc h) =
    let e : t + suc h ≡ suc (t + h) = omega arith in
    let p : (t + h) * n + (n - 1) ≡ t * n + (h * n + (n - 1)) = omega (arith, add-mul t h n) in
    rw (e, p) (omega (arith, overhang_after n pad b t h, ap (λ (x : ℕ). ones (x % 2 ^ pad)) (get_or-drop (t * n) b (h * n + (n - 1)) 0)))

pub ones_masked : (x mask : ℕ) → mask < 256 → ones (bit_and x mask) ≤ 8
ones_masked x mask l = ones-le 8 (bit_and x mask) (lt_of_le_of_lt (and_le_r x mask) l)

-- where no bits lie beyond the width
pub overhang_zero : (n : ℕ) (b : List ℕ) (t : ℕ) → overhang n 0 b t ≡ 0
unfolding overhang ones
overhang_zero n b zero = refl
overhang_zero n b (suc t) = rw (mod-one (get_or b (t * n + (n - 1)) 0), overhang_zero n b t)

-- ── bytes that stand apart
apart_add : (n mask at j k : ℕ) (b : List ℕ) → ones_apart n mask b at (j + k) ≡ ones_apart n mask b at j + ones_apart n mask b (at + j * n) k
unfolding ones_apart
apart_add n mask at j zero b = rw add-zero (omega arith)
apart_add n mask at j (suc k) b =
    let e : j + suc k ≡ suc (j + k) = omega arith in
    let p : at + (j + k) * n ≡ at + j * n + k * n = omega (arith, add-mul j k n) in
    rw (e, p) (omega (arith, apart_add n mask at j k b))

-- two numbers of j bytes each as one, and the mask for each of them as one
pub masked_joined : (bits j n mask m x y at : ℕ) (b : List ℕ) → x < 2 ^ bits → m < 2 ^ bits → ones (bit_and x m) ≡ ones_apart n mask b at j
    → ones (bit_and y m) ≡ ones_apart n mask b (at + j * n) j → ones (bit_and (x + 2 ^ bits * y) (m * 2 ^ bits + m)) ≡ ones_apart n mask b at (j + j)
masked_joined bits j n mask m x y at b l k ex ey =
    let e : ones (bit_and (x + 2 ^ bits * y) (m * 2 ^ bits + m)) ≡ ones (bit_and y m) + ones (bit_and x m) =
    ap (λ (z : ℕ). ones (bit_and z (m * 2 ^ bits + m))) (high_first bits x y)
    ∙ ap ones (and_block bits y m x m l k) ∙ ones_cat bits (bit_and y m) (bit_and x m) (and_lt bits x m l k) in
    omega (arith, e, ex, ey, apart_add n mask at j j b)

pub apart_one : (n mask at : ℕ) (b : List ℕ) → ones (bit_and (get_or b at 0) mask) ≡ ones_apart n mask b at 1
unfolding ones_apart
apart_one n mask at b = let z : at + 0 * n ≡ at = omega (arith, zero-mul n) in rw z (omega arith)

-- k rows more, of which the first has its last byte at a place
pub apart_overhang : (n pad mask at t k : ℕ) (b : List ℕ) → mask ≡ 2 ^ pad - 1 → at ≡ t * n + (n - 1) → overhang n pad b (t + k) ≡ overhang n pad b t + ones_apart n mask b at k
unfolding ones_apart
apart_overhang n pad mask at t zero b e p = rw add-zero (omega arith)
apart_overhang n pad mask at t (suc k) b e p =
    let z : t + suc k ≡ t + k + 1 = omega arith in
    let q : at + k * n ≡ (t + k) * n + (n - 1) = omega (arith, p, add-mul t k n) in
    let i = apart_overhang n pad mask at t k b e p in
    rw z (omega (arith, i, overhang_next n pad mask (overhang n pad b (t + k)) (at + k * n) (t + k) b e q refl))

-- eight bytes n apart as one number, and the mask for each of them
module _ (n mask : ℕ) (b : List ℕ) (bytes : (i : ℕ) → get_or b i 0 < 256) (small : mask < 256) where
  abbrev two_apart : ℕ → ℕ
  two_apart at = get_or b at 0 + 2 ^ 8 * get_or b (at + 1 * n) 0

  abbrev four_apart : ℕ → ℕ
  four_apart at = two_apart at + 2 ^ 16 * two_apart (at + 2 * n)

  apart_lt : (at : ℕ) → two_apart at < 2 ^ 16
  apart_lt at = omega (arith, bytes at, bytes (at + 1 * n))

  two_masked : (at : ℕ) → ones (bit_and (two_apart at) (257 * mask)) ≡ ones_apart n mask b at 2
  two_masked at =
      let e : 257 * mask ≡ mask * 256 + mask = omega arith in
      rw e (masked_joined 8 1 n mask mask (get_or b at 0) (get_or b (at + 1 * n) 0) at b (bytes at) small (apart_one n mask at b) (apart_one n mask (at + 1 * n) b))

  four_masked : (at : ℕ) → ones (bit_and (four_apart at) (16843009 * mask)) ≡ ones_apart n mask b at 4
  four_masked at =
      let e : 16843009 * mask ≡ 257 * mask * 65536 + 257 * mask = omega arith in
      rw e (masked_joined 16 2 n mask (257 * mask) (two_apart at) (two_apart (at + 2 * n)) at b (apart_lt at) (omega arith) (two_masked at) (two_masked (at + 2 * n)))

  eight_masked_from : (at x : ℕ) → x ≡ four_apart at + 2 ^ 32 * four_apart (at + 4 * n) → ones (bit_and x (72340172838076673 * mask)) ≡ ones_apart n mask b at 8
  eight_masked_from at x v =
      let e : 72340172838076673 * mask ≡ 16843009 * mask * 4294967296 + 16843009 * mask = omega arith in
      rw (v, e) (masked_joined 32 4 n mask (16843009 * mask) (four_apart at) (four_apart (at + 4 * n)) at b (omega (arith, apart_lt at, apart_lt (at + 2 * n))) (omega arith) (four_masked at) (four_masked (at + 4 * n)))

  pub eight_masked_lem : (x : ℕ) → 0 < n
      → x ≡ from_le_bytes w64 (get_or b (n - 1) 0 ∷ get_or b (2 * n - 1) 0 ∷ get_or b (3 * n - 1) 0 ∷ get_or b (4 * n - 1) 0 ∷ get_or b (5 * n - 1) 0 ∷ get_or b (6 * n - 1) 0 ∷ get_or b (7 * n - 1) 0 ∷ get_or b (8 * n - 1) 0 ∷ [])
      → ones (bit_and x (72340172838076673 * mask)) ≡ ones_apart n mask b (n - 1) 8
  eight_masked_lem x l e =
      let at : ℕ = n - 1 in
      eight_masked_from at x
      (omega (
        arith,
        e,
        same (2 * n - 1) (at + 1 * n) (omega arith),
        same (3 * n - 1) (at + 2 * n) (omega arith),
        same (4 * n - 1) (at + 2 * n + 1 * n) (omega arith),
        same (5 * n - 1) (at + 4 * n) (omega arith),
        same (6 * n - 1) (at + 4 * n + 1 * n) (omega arith),
        same (7 * n - 1) (at + 4 * n + 2 * n) (omega arith),
        same (8 * n - 1) (at + 4 * n + 2 * n + 1 * n) (omega arith),
      ))
    where
      same : (i j : ℕ) → i ≡ j → get_or b i 0 ≡ get_or b j 0
      same i j e = ap (λ (k : ℕ). get_or b k 0) e

-- ── the loops over rows
-- what a loop over rows keeps: the first t of them are counted, and `rest` is left
pub record RowsCounted (n mask : ℕ) (rows rest : List ℕ) (k : ℕ) : Type 0 where
  pub t : ℕ
  pub left : rest ≡ drop (t * n) rows
  pub most : k ≤ 8 * t
  pub few : t + length rest ≤ length rows
  pub counted : (pad : ℕ) → mask ≡ 2 ^ pad - 1 → k ≡ overhang n pad rows t

module _ (n mask : ℕ) (rows : List ℕ) (pos : 0 < n) where
  pub rows_start : RowsCounted n mask rows rows 0
  rows_start = record { t = 0; left = ap (λ (i : ℕ). drop i rows) (sym (zero-mul n)); most = omega arith; few = omega arith; counted = λ pad e. overhang_start n pad rows }

  -- j rows more, whose last bytes have so many ones
  pub rows_more : (rest after : List ℕ) (k more j : ℕ) → (c : RowsCounted n mask rows rest k) → 0 < j → j * n ≤ length rest → after ≡ drop (j * n) rest → more ≤ 8 * j
      → more ≡ ones_apart n mask rows (c.t * n + (n - 1)) j → RowsCounted n mask rows after (k + more)
  rows_more rest after k more j c p l e m a = record {
    t = c.t + j;
    left = e ∙ ap (drop (j * n)) c.left ∙ drop-drop (j * n) (c.t * n) rows ∙ ap (λ (i : ℕ). drop i rows) (sym (add-mul c.t j n));
    most = omega (arith, c.most);
    few = omega (arith, c.few, ap length e, length-drop (j * n) rest, le-mul j);
    counted = λ pad f. omega (arith, c.counted pad f, a, apart_overhang n pad mask (c.t * n + (n - 1)) c.t j rows f refl);
  }
    where
      le-mul : (j : ℕ) → j ≤ j * n
      le-mul j = omega (arith, mul-le-mul_left j pos)

  pub rows_end : (rest : List ℕ) (k : ℕ) → RowsCounted n mask rows rest k → length rest < n → (h pad : ℕ) → mask ≡ 2 ^ pad - 1 → length rows ≤ h * n → k ≡ overhang n pad rows h
  rows_end rest k c l h pad e m = c.counted pad e ∙ overhang_rest n pad rows c.t h (omega (arith, ap length c.left, length-drop (c.t * n) rows)) m

  pub rows_joined : (rest : List ℕ) (k more : ℕ) → RowsCounted n mask rows rest k
      → ((h pad : ℕ) → mask ≡ 2 ^ pad - 1 → length rest ≤ h * n → more ≡ overhang n pad rest h)
      → (h pad : ℕ) → mask ≡ 2 ^ pad - 1 → length rows ≤ h * n → k + more ≡ overhang n pad rows h
  rows_joined rest k more c a h pad e m =
      let left : length rest ≤ h * n = omega (arith, c.few) in
      let both : overhang n pad rows (c.t + h) ≡ overhang n pad rows c.t + overhang n pad rest h = overhang_after n pad rows c.t h ∙ ap (λ (b : List ℕ). overhang n pad rows c.t + overhang n pad b h) (sym c.left) in
      omega (arith, c.counted pad e, a h pad e left, both, overhang_rest n pad rows (c.t + h) h (omega (arith, add-mul c.t h n)) m)

  -- the last byte of the next row, and those of the next rows in a part of the data
  pub rows_last : (rest : List ℕ) (k x : ℕ) (c : RowsCounted n mask rows rest k) → n ≤ length rest → x ≡ ones (bit_and (get_or (take n rest) (n - 1) 0) mask)
      → x ≡ ones_apart n mask rows (c.t * n + (n - 1)) 1
  rows_last rest k x c l e =
      e ∙ ap (λ (b : ℕ). ones (bit_and b mask)) (get_or-take n rest (n - 1) 0 (omega arith) ∙ ap (λ (b : List ℕ). get_or b (n - 1) 0) c.left ∙ get_or-drop (c.t * n) rows (n - 1) 0)
      ∙ apart_one n mask (c.t * n + (n - 1)) rows

  pub rows_part : (rest : List ℕ) (k x m j : ℕ) (c : RowsCounted n mask rows rest k) → m ≡ j * n → x ≡ ones_apart n mask (take m rest) (n - 1) j → x ≡ ones_apart n mask rows (c.t * n + (n - 1)) j
  unfolding ones_apart
  rows_part rest k x m j c e f = f ∙ part j (omega arith)
    where
      part : (i : ℕ) → i ≤ j → ones_apart n mask (take m rest) (n - 1) i ≡ ones_apart n mask rows (c.t * n + (n - 1)) i
      part zero l = refl
      part (suc i) l =
          let more : i * n + n ≤ m = omega (arith, mul-le-mul_right n l) in
          let p : c.t * n + (n - 1 + i * n) ≡ c.t * n + (n - 1) + i * n = omega arith in
          let byte : get_or (take m rest) (n - 1 + i * n) 0 ≡ get_or rows (c.t * n + (n - 1) + i * n) 0 =
          get_or-take m rest (n - 1 + i * n) 0 (omega arith) ∙ ap (λ (b : List ℕ). get_or b (n - 1 + i * n) 0) c.left ∙ get_or-drop (c.t * n) rows (n - 1 + i * n) 0 ∙ ap (λ (z : ℕ). get_or rows z 0) p in
          omega (arith, part i (omega arith), ap (λ (b : ℕ). ones (bit_and b mask)) byte)
