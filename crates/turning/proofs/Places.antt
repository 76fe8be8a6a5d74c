-- The turns by the places of dots: where each dot of the result comes from. Assumes nothing.
use Prim.Native.Nat.{ℕ, suc, ◌*◌, ◌-◌, ◌<◌, ◌≤◌}
use mathlib.Core.Path.{◌≡◌, refl, sym, ap, ◌∙◌}
use mathlib.Core.List.{List, [], ◌∷◌, ◌++◌, map, reverse, reverse-cons}
use mathlib.Core.Bool.{Bool, true, false, cond}
use native.Mathlib.Omega.{arith}
use borrow.Author.Tests.{ltb-true, ltb-false, eqb-true}
use lib.Dec.{eqb, ltb}
use lib.ListN.{length, get_or, drop, length-map, length-reverse, length-drop, get_or-map, get_or-append}
use lib.Seq.{ext_get_or, get_or_at, length-take-le}
use Rattle.pictures.specs.Size.{row_size, picture_size}
use Rattle.pictures.specs.Dots.{unpack}
use Rattle.pictures.specs.Rows.{bitmap_row}
use Rattle.turning.specs.Turn.{each, picture_rows, column_of, columns, turn_rows, turned_width, turned_height, pack_rows, turned}
use Rattle.turning.proofs.DotLaws.{get_d_nil, length_unpack}
use Rattle.turning.proofs.PictureLaws.{dot, length_each, each_at, row_fits}

-- With column c of row r of the result, counted from 0: a quarter turn takes the dot of row h - 1 - c, column r;
-- a half turn row h - 1 - r, column w - 1 - c; three quarters row c, column w - 1 - r.
abbrev pub dot_from : ℕ → ℕ → ℕ → List (List Bool) → ℕ → ℕ → Bool
dot_from t w h rows r c =
    cond (eqb t 1) (dot rows (h - 1 - c) r)
    (cond (eqb t 2) (dot rows (h - 1 - r) (w - 1 - c))
    (dot rows c (w - 1 - r)))

reverse_at : {A : Type 0} (d : A) (l : List A) (i : ℕ) → i < length l → get_or (reverse l) i d ≡ get_or l (length l - 1 - i) d
reverse_at d [] i k = absurd (omega arith)
reverse_at d (x ∷ l) i k =
    ap (λ (t : List _). get_or t i d) (reverse-cons x l) ∙ go (ltb i (length l)) refl (λ (m : i < length l). reverse_at d l i m)
  where
    go : (b : Bool) → ltb i (length l) ≡ b → (i < length l → get_or (reverse l) i d ≡ get_or l (length l - 1 - i) d)
        → get_or (reverse l ++ (x ∷ [])) i d ≡ get_or (x ∷ l) (suc (length l) - 1 - i) d
    go true e h =
        let m : i < length l = ltb-true i (length l) e in
        let z : suc (length l) - 1 - i ≡ suc (length l - 1 - i) = omega arith in
        get_or-append (reverse l) (x ∷ []) d i (rw (length-reverse l) m) ∙ h m ∙ rw z
    go false e h =
        let m : i ≡ length l = omega (arith, ltb-false i (length l) e) in
        let z : suc (length l) - 1 - length l ≡ 0 = omega arith in
        rw m (get_or_at (reverse l) x [] d (length l) (length-reverse l) ∙ rw z)

each_is : {A : Type 0} (d : A) (n : ℕ) (f : ℕ → A) (l : List A) → length l ≡ n → ((i : ℕ) → i < n → f i ≡ get_or l i d) → each n f ≡ l
each_is d n f l e h = ext_get_or d (each n f) l (length_each n f ∙ sym e) (λ i k. let m : i < n = rw (length_each n f) at k in each_at d n f i m ∙ h i m)

column_at : (rows : List (List Bool)) (c r : ℕ) → get_or (column_of rows c) r false ≡ dot rows r c
unfolding column_of dot
column_at rows c r = ap (get_or (map (λ (row : List Bool). get_or row c false) rows) r) (sym (get_d_nil c)) ∙ get_or-map (λ (row : List Bool). get_or row c false) rows r []

length_column : (rows : List (List Bool)) (c : ℕ) → length (column_of rows c) ≡ length rows
unfolding column_of
length_column rows c = length-map rows (λ (row : List Bool). get_or row c false)

-- ---- rows of a picture
module _ (w h : ℕ) (rows : List (List Bool)) (high : length rows ≡ h) where
  pub quarter_places : map reverse (columns w rows) ≡ each w (λ (r : ℕ). each h (λ (c : ℕ). dot rows (h - 1 - c) r))
  unfolding columns
  quarter_places = sym
      (each_is [] w (λ (r : ℕ). each h (λ (c : ℕ). dot rows (h - 1 - c) r)) (map reverse (each w (column_of rows))) (length-map (each w (column_of rows)) reverse ∙ length_each w (column_of rows)) (λ r l.
      each_is false h (λ (c : ℕ). dot rows (h - 1 - c) r) (reverse (column_of rows r)) (length-reverse (column_of rows r) ∙ length_column rows r ∙ high) (λ c m.
      let k : c < length (column_of rows r) = omega (arith, length_column rows r) in
      let z : length (column_of rows r) - 1 - c ≡ h - 1 - c = omega (arith, length_column rows r) in
      sym (reverse_at false (column_of rows r) c k ∙ ap (λ (j : ℕ). get_or (column_of rows r) j false) z ∙ column_at rows r (h - 1 - c)))
      ∙ sym (get_or-map reverse (each w (column_of rows)) r [] ∙ ap reverse (each_at [] w (column_of rows) r l))))

  pub three_quarters_places : reverse (columns w rows) ≡ each w (λ (r : ℕ). each h (λ (c : ℕ). dot rows c (w - 1 - r)))
  unfolding columns
  three_quarters_places = sym
      (each_is [] w (λ (r : ℕ). each h (λ (c : ℕ). dot rows c (w - 1 - r))) (reverse (each w (column_of rows))) (length-reverse (each w (column_of rows)) ∙ length_each w (column_of rows)) (λ r l.
      let k : r < length (each w (column_of rows)) = rw (length_each w (column_of rows)) l in
      let z : length (each w (column_of rows)) - 1 - r ≡ w - 1 - r = rw (length_each w (column_of rows)) in
      each_is false h (λ (c : ℕ). dot rows c (w - 1 - r)) (column_of rows (w - 1 - r)) (length_column rows (w - 1 - r) ∙ high) (λ c m. sym (column_at rows (w - 1 - r) c))
      ∙ sym (reverse_at [] (each w (column_of rows)) r k ∙ ap (λ (j : ℕ). get_or (each w (column_of rows)) j []) z ∙ each_at [] w (column_of rows) (w - 1 - r) (omega arith))))

  half_places : ((r : ℕ) → r < h → length (get_or rows r []) ≡ w) → reverse (map reverse rows) ≡ each h (λ (r : ℕ). each w (λ (c : ℕ). dot rows (h - 1 - r) (w - 1 - c)))
  unfolding dot
  half_places wide = sym
      (each_is [] h (λ (r : ℕ). each w (λ (c : ℕ). dot rows (h - 1 - r) (w - 1 - c))) (reverse (map reverse rows)) (length-reverse (map reverse rows) ∙ length-map rows reverse ∙ high) (λ r l.
      let k : r < length (map reverse rows) = rw (length-map rows reverse) (omega arith) in
      let z : length (map reverse rows) - 1 - r ≡ h - 1 - r = rw (length-map rows reverse, high) in
      let row : List Bool = get_or rows (h - 1 - r) [] in
      let long : length row ≡ w = wide (h - 1 - r) (omega arith) in
      each_is false w (λ (c : ℕ). dot rows (h - 1 - r) (w - 1 - c)) (reverse row) (length-reverse row ∙ long) (λ c m.
      let j : c < length row = omega arith in
      let y : length row - 1 - c ≡ w - 1 - c = omega arith in
      sym (reverse_at false row c j ∙ rw y))
      ∙ sym (reverse_at [] (map reverse rows) r k ∙ ap (λ (j : ℕ). get_or (map reverse rows) j []) z ∙ get_or-map reverse rows (h - 1 - r) [])))

-- ---- the turned picture
module _ (w h : ℕ) (s : List ℕ) where
  pub high : length (picture_rows w h s) ≡ h
  unfolding picture_rows
  high = length_each h (bitmap_row w s)

  module _ (enough : picture_size w h ≤ length s) where
    wide : (r : ℕ) → r < h → length (get_or (picture_rows w h s) r []) ≡ w
    unfolding picture_rows bitmap_row
    wide r l =
        let n : ℕ = row_size w in
        let k : w ≤ length (unpack (drop (r * n) s)) = rw (length_unpack (drop (r * n) s), length-drop) (omega (arith, row_fits n h r l)) in
        ap length (each_at [] h (bitmap_row w s) r l) ∙ length-take-le w (unpack (drop (r * n) s)) k

    rows_places : (t : ℕ)
        → turn_rows t w (picture_rows w h s) ≡ each (turned_height t w h) (λ (r : ℕ). each (turned_width t w h) (λ (c : ℕ). dot_from t w h (picture_rows w h s) r c))
    unfolding turn_rows
    rows_places t = go (eqb t 1) refl (eqb t 2) refl
      where
        go : (a : Bool) → eqb t 1 ≡ a → (b : Bool) → eqb t 2 ≡ b
            → turn_rows t w (picture_rows w h s) ≡ each (turned_height t w h) (λ (r : ℕ). each (turned_width t w h) (λ (c : ℕ). dot_from t w h (picture_rows w h s) r c))
        go true e b f = let z : t ≡ 1 = eqb-true t 1 e in rw z (quarter_places w h (picture_rows w h s) high)
        go false e true f = let z : t ≡ 2 = eqb-true t 2 f in rw z (half_places w h (picture_rows w h s) high wide)
        go false e false f = rw (e, f) (three_quarters_places w h (picture_rows w h s) high)

    -- the bytes of the turned picture
    pub turned_places : (t : ℕ)
        → turned t w h s ≡ pack_rows (row_size (turned_width t w h)) (each (turned_height t w h) (λ (r : ℕ). each (turned_width t w h) (λ (c : ℕ). dot_from t w h (picture_rows w h s) r c)))
    unfolding turned
    turned_places t = ap (pack_rows (row_size (turned_width t w h))) (rows_places t)
