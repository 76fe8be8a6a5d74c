-- Laws of pictures: their bytes and dots, each by its row and place. Assumes nothing.
use Prim.Native.Nat.{ℕ, zero, suc, ◌+◌, ◌*◌, ◌-◌, ◌%◌, ◌/◌, ◌<◌, ◌≤◌}
use mathlib.Core.Path.{◌≡◌, refl, sym, ap, ◌∙◌}
use mathlib.Core.List.{List, [], ◌∷◌}
use mathlib.Core.Bool.{Bool, false}
use native.Mathlib.Nat.{add-zero, zero-mul, suc-mul, add_comm, mod-lt, div-add-mod', div-lt_iff_lt-mul, mul-add-div_right, div-eq_of_lt, mul-le-mul_right}
use native.Mathlib.Omega.{arith}
use lib.ListN.{length, drop, get_or, set, length-append, get_or-append, get_or-eq_default}
use lib.Seq.{get_or-drop, get_or-take, get_or-append-add, get_or-set_same, get_or-set_other, ext_get_or}
use borrow.Author.Count.{below_more}
use Rattle.pictures.specs.Dots.{bits, pack, unpack}
use Rattle.pictures.specs.Size.{row_size}
use Rattle.pictures.specs.Rows.{bitmap_row}
use Rattle.pictures.proofs.Packing.{length_pack}
use Rattle.turning.specs.Turn.{each, picture_rows, pack_rows}
use Rattle.turning.proofs.DotLaws.{dot_in, pack_at, unpack_at}

-- ---- things by their places
pub length_each : {A : Type 0} (n : ℕ) (f : ℕ → A) → length (each n f) ≡ n
unfolding each
length_each zero f = refl
length_each (suc n) f = ap suc (length_each n (λ i. f (suc i)))

pub each_at : {A : Type 0} (d : A) (n : ℕ) (f : ℕ → A) (i : ℕ) → i < n → get_or (each n f) i d ≡ f i
unfolding each
each_at d zero f i l = absurd (omega arith)
each_at d (suc n) f zero l = refl
each_at d (suc n) f (suc i) l = each_at d n (λ i. f (suc i)) i (omega arith)

pub each_past : {A : Type 0} (d : A) (n : ℕ) (f : ℕ → A) (i : ℕ) → n ≤ i → get_or (each n f) i d ≡ d
each_past d n f i l = get_or-eq_default (each n f) d (rw (length_each n f) l)

pub each_same : {A : Type 0} (n : ℕ) (f g : ℕ → A) → ((i : ℕ) → i < n → f i ≡ g i) → each n f ≡ each n g
unfolding each
each_same zero f g h = refl
each_same (suc n) f g h = rw (h 0 (omega arith), each_same n (λ i. f (suc i)) (λ i. g (suc i)) (λ i l. h (suc i) (omega arith)))

-- ---- the bytes of rows
pub length_pack_rows : (n : ℕ) (rows : List (List Bool)) → length (pack_rows n rows) ≡ length rows * n
unfolding pack_rows
length_pack_rows n [] = sym (zero-mul n)
length_pack_rows n (ds ∷ rows) = rw (length-append, length_pack n ds, length_pack_rows n rows, suc-mul) (add_comm n (length rows * n))

pub pack_rows_at : (n : ℕ) (rows : List (List Bool)) (r q : ℕ) → r < length rows → q < n
    → get_or (pack_rows n rows) (r * n + q) 0 ≡ bits 8 (drop (q * 8) (get_or rows r []))
unfolding pack_rows
pack_rows_at n [] r q l m = absurd (omega arith)
pack_rows_at n (ds ∷ rows) zero q l m =
    let e : 0 * n + q ≡ q = omega arith in
    rw e (get_or-append (pack n ds) (pack_rows n rows) 0 q (rw (length_pack n ds) m) ∙ pack_at n ds q m)
pack_rows_at n (ds ∷ rows) (suc r) q l m =
    let e : suc r * n + q ≡ n + (r * n + q) = omega arith in
    rw e (rw (length_pack n ds) at (get_or-append-add (pack n ds) (pack_rows n rows) (r * n + q) 0)) ∙ pack_rows_at n rows r q (omega arith) m

-- rows of w dots, by a function of the place
module _ (n w h : ℕ) (f : ℕ → ℕ → Bool) where
  pub drawn_at : (r q : ℕ) → r < h → q < n
      → get_or (pack_rows n (each h (λ (r : ℕ). each w (f r)))) (r * n + q) 0 ≡ bits 8 (drop (q * 8) (each w (f r)))
  drawn_at r q l m =
      pack_rows_at n (each h (λ (r : ℕ). each w (f r))) r q (rw (length_each h (λ (r : ℕ). each w (f r))) l) m
      ∙ ap (λ (ds : List Bool). bits 8 (drop (q * 8) ds)) (each_at [] h (λ (r : ℕ). each w (f r)) r l)

  pub length_drawn : length (pack_rows n (each h (λ (r : ℕ). each w (f r)))) ≡ h * n
  length_drawn = length_pack_rows n (each h (λ (r : ℕ). each w (f r))) ∙ rw (length_each h (λ (r : ℕ). each w (f r)))

-- ---- the dots of a picture's bytes
-- the dot of row r, column c
unfoldable pub dot : List (List Bool) → ℕ → ℕ → Bool
dot rows r c = get_or (get_or rows r []) c false

-- dot i of byte q of row r
pub row_dot : (w : ℕ) (s : List ℕ) (r q i : ℕ) → q * 8 + i < w → i < 8 → get_or (bitmap_row w s r) (q * 8 + i) false ≡ dot_in (7 - i) (get_or s (r * row_size w + q) 0)
unfolding bitmap_row
row_dot w s r q i l m =
    get_or-take w (unpack (drop (r * row_size w) s)) (q * 8 + i) false l
    ∙ unpack_at (drop (r * row_size w) s) q i m
    ∙ ap (dot_in (7 - i)) (get_or-drop (r * row_size w) s q 0)

pub dot_at_lem : (w h : ℕ) (s : List ℕ) (r q i : ℕ) → r < h → q * 8 + i < w → i < 8
    → dot (picture_rows w h s) r (q * 8 + i) ≡ dot_in (7 - i) (get_or s (r * row_size w + q) 0)
unfolding dot picture_rows
dot_at_lem w h s r q i k l m =
    ap (λ (ds : List Bool). get_or ds (q * 8 + i) false) (each_at [] h (bitmap_row w s) r k) ∙ row_dot w s r q i l m

-- ---- bytes written in any order: all of h rows of n
pub filled : (n h : ℕ) (all out : List ℕ) → 0 < n → length all ≡ h * n → length out ≡ h * n
    → ((r q : ℕ) → r < h → q < n → get_or out (r * n + q) 0 ≡ get_or all (r * n + q) 0) → out ≡ all
filled n h all out p e k inside = ext_get_or 0 out all (omega arith) at
  where
    at : (i : ℕ) → i < length out → get_or out i 0 ≡ get_or all i 0
    at i l = let z : i / n * n + i % n ≡ i = div-add-mod' i n in rw z at (inside (i / n) (i % n) ((div-lt_iff_lt-mul p).1 (omega arith)) (mod-lt i p))

-- ---- bytes written in order
pub set_next : (f : ℕ → ℕ) (out : List ℕ) (i v : ℕ) → i < length out → v ≡ f i → ((k : ℕ) → k < i → get_or out k 0 ≡ f k)
    → (k : ℕ) → k < i + 1 → get_or (set out i v) k 0 ≡ f k
set_next f out i v l e h =
    below_more (λ k. get_or (set out i v) k 0 ≡ f k) i (λ k m. get_or-set_other out i k v 0 (λ z. omega (arith, z)) ∙ h k m) (get_or-set_same out i v 0 l ∙ e)

-- ---- two places of a picture are one only if row and place in the row are
pub same_row : (n r r' q q' : ℕ) → q < n → q' < n → r * n + q ≡ r' * n + q' → r ≡ r'
same_row n r r' q q' k l e = let p : 0 < n = omega arith in sym (row r q k) ∙ ap (λ (x : ℕ). x / n) e ∙ row r' q' l
  where
    row : (r q : ℕ) → q < n → (r * n + q) / n ≡ r
    row r q k = let p : 0 < n = omega arith in mul-add-div_right p r q ∙ rw (div-eq_of_lt k, add-zero)

-- a place of a picture lies in it
pub inside : (n h r q : ℕ) → r < h → q < n → r * n + q < h * n
inside n h r q l m = let k : r + 1 ≤ h = omega arith in omega (arith, mul-le-mul_right n k)

-- a row of a picture lies in it
pub row_fits : (n h r : ℕ) → r < h → r * n + n ≤ h * n
row_fits n h r l = let k : r + 1 ≤ h = omega arith in omega (arith, mul-le-mul_right n k)
