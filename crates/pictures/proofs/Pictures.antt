-- Laws of `picture`: its length, rows that are the same, rows that are white; and parts of the output that a row is drawn in. Assumes nothing.
use Rattle.std.proofs.Common.{◌≡◌, ℕ, zero, suc, ◌+◌, ◌-◌, ◌*◌, ◌<◌, ◌≤◌, Bool, List, [], ◌++◌, length, take, drop, sym, refl, ap, ◌∙◌, append_assoc, append-nil, add-zero, mul-le-mul_right, suc-mul, add-mul, one-mul, zero-mul, arith, length-append, length-drop, drop_of_length-le, take_all, drop-drop, take_at, drop_at, ne_eqb}
use borrow.Rule.Slice.PartMut.{put_mid}
use lib.ListN.{replicate-append-replicate}
use Rattle.pictures.specs.Size.{row_size, picture_size}
use Rattle.pictures.specs.Dots.{pack}
use Rattle.pictures.specs.Rows.{row_dots, row_bytes, picture}
use Rattle.pictures.specs.Drawing.{white, repeated}
use Rattle.pictures.proofs.Packing.{length_pack, pack_none}

-- ---- parts of the output
-- a part that goes to the end, as it was lent, and as it comes back
pub tail_lent : (o : ℕ) (out : List ℕ) → take (length out - o) (drop o out) ≡ drop o out
tail_lent o out = take_all (length out - o) (drop o out) (simp length-drop (omega arith))

pub tail_back : (o : ℕ) (out ys : List ℕ) → put_mid o (length out - o) out ys ≡ take o out ++ ys
tail_back o out ys =
    rw (drop_of_length-le (drop o out) {i = length out - o} (simp length-drop (omega arith)), append-nil)

drop_behind : (n m : ℕ) (out ys : List ℕ) → length ys ≡ n → n ≤ m → drop m (ys ++ drop n out) ≡ drop m out
drop_behind n m out ys l h =
    let z : n + (m - n) ≡ m = omega arith in
    rw (← z) (sym (drop-drop (m - n) n (ys ++ drop n out)) ∙ rw (drop_at ys (drop n out) n l) (drop-drop (m - n) n out))

-- the first row of a part, drawn and repeated
pub drawn_times : (n m : ℕ) (out ys : List ℕ) (ds : List Bool) → 0 < m → ys ≡ pack n ds
    → repeated m (take n (ys ++ drop n out)) ++ drop (m * n) (ys ++ drop n out) ≡ repeated m (pack n ds) ++ drop (m * n) out
drawn_times n m out ys ds h p =
    let l : length ys ≡ n = ap length p ∙ length_pack n ds in
    let one : 1 ≤ m = h in
    rw (take_at ys (drop n out) n l, drop_behind n (m * n) out ys l (omega (arith, mul-le-mul_right n one, one-mul n)), p)

pub white_as : {m n : ℕ} {row : List ℕ} → row ≡ white m → m ≡ n → row ≡ white n
white_as p q = p ∙ rw q

white_add : (m n : ℕ) → white m ++ white n ≡ white (m + n)
white_add m n = replicate-append-replicate m n 0

repeated_white : (m n : ℕ) → repeated m (white n) ≡ white (m * n)
unfolding repeated
repeated_white zero n = rw zero-mul
repeated_white (suc m) n = rw (repeated_white m n, suc-mul) (white_add (m * n) n)

module _ (k w : ℕ) (d : List ℕ) where
  pub length_row : (t : ℕ) → length (row_bytes k w d t) ≡ row_size w
  unfolding row_bytes
  length_row t = length_pack (row_size w) (row_dots k w d t)

  pub length_picture : (h : ℕ) → length (picture k w d h) ≡ picture_size w h
  unfolding picture
  length_picture zero = sym (zero-mul (row_size w))
  length_picture (suc h) = simp (length-append, length_row, length_picture h, suc-mul)

  -- m rows that have the same dots
  pub picture_same : (m t : ℕ) (ds : List Bool) → ((j : ℕ) → j < m → row_dots k w d (t + j) ≡ ds)
      → picture k w d (t + m) ≡ picture k w d t ++ repeated m (pack (row_size w) ds)
  unfolding picture repeated row_bytes
  picture_same zero t ds e = rw (add-zero, append-nil)
  picture_same (suc m) t ds e =
      let z : t + suc m ≡ suc (t + m) = omega arith in
      rw (z, picture_same m t ds (λ j l. e j (omega arith)), e m (omega arith))
      (append_assoc (picture k w d t) (repeated m (pack (row_size w) ds)) (pack (row_size w) ds))

  -- m white rows
  picture_white : (m t : ℕ) → ((j : ℕ) → j < m → row_dots k w d (t + j) ≡ []) → picture k w d (t + m) ≡ picture k w d t ++ white (m * row_size w)
  picture_white m t e = picture_same m t [] e ∙ rw (pack_none, repeated_white)

  module _ (top : ℕ) (out : List ℕ) (p : take (top * row_size w) out ≡ picture k w d top) where
    -- a row and its repeats, drawn in the part below the first rows
    pub picture_more : (o m : ℕ) (ds : List Bool) (ys rest : List ℕ) → o ≡ top * row_size w → ys ≡ repeated m (pack (row_size w) ds) ++ rest
        → ((j : ℕ) → j < m → row_dots k w d (top + j) ≡ ds)
        → take ((top + m) * row_size w) (put_mid o (length out - o) out ys) ≡ picture k w d (top + m)
    picture_more o m ds ys rest z y e =
        let q = picture_same m top ds e in
        rw (z, tail_back (top * row_size w) out ys, p, y, ← (append_assoc (picture k w d top) (repeated m (pack (row_size w) ds)) rest), ← q)
        (take_at (picture k w d (top + m)) rest ((top + m) * row_size w) (length_picture (top + m)))

    -- the part below the first rows is white
    pub picture_rest : (o h : ℕ) → o ≡ top * row_size w → top ≤ h → length out ≡ picture_size w h → ((j : ℕ) → j < h - top → row_dots k w d (top + j) ≡ [])
        → (ys : List ℕ) (m : ℕ) → ys ≡ white m → m ≡ length (take (length out - o) (drop o out)) → put_mid o (length out - o) out ys ≡ picture k w d h
    picture_rest o h u l len e ys m y q =
        let z : top + (h - top) ≡ h = omega arith in
        let a : m ≡ length out - top * row_size w = q ∙ ap length (tail_lent o out) ∙ length-drop o out ∙ rw u in
        let s : m ≡ (h - top) * row_size w = omega (arith, add-mul top (h - top) (row_size w), ap (λ (x : ℕ). x * row_size w) z) in
        rw (u, tail_back (top * row_size w) out ys, p, y, s, ← (picture_white (h - top) top e), z)

-- every class but 1 is drawn as class 2
pub picture_runs : (k w : ℕ) (d : List ℕ) → (k ≡ 1 → ⊥) → (h : ℕ) → picture 2 w d h ≡ picture k w d h
unfolding picture row_bytes row_dots
picture_runs k w d n zero = refl
picture_runs k w d n (suc h) = rw (ne_eqb k 1 n, picture_runs k w d n h)

-- two data that draw the same rows
pub picture_rows_lem : (k w : ℕ) (d e : List ℕ) (h : ℕ) → ((t : ℕ) → t < h → row_dots k w d t ≡ row_dots k w e t) → picture k w d h ≡ picture k w e h
unfolding picture row_bytes
picture_rows_lem k w d e zero q = refl
picture_rows_lem k w d e (suc h) q = rw (picture_rows_lem k w d e h (λ t l. q t (omega arith)), q h (omega arith))
