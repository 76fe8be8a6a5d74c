-- Laws of `read_line` and `rows_from`: a row that is read, and the rows that it and the data behind it draw. Assumes nothing.
use Rattle.std.proofs.Common.{◌≡◌, ℕ, suc, ◌+◌, ◌<◌, ◌≤◌, Bool, true, false, eqb, eqb-true, not, Some, None, List, [], ◌∷◌, ◌++◌, length, get_or, drop, replicate, sym, refl, ap, ◌∙◌, append_assoc, add-one, arith, length-drop, drop_of_length-le, drop-cons, drop-drop, get_or-append-add}
use borrow.Author.Tests.{eqb-false}
use Rattle.std.specs.Bool.{then_some}
use lib.ListN.{length-replicate, get_or-replicate, get_or-append}
use Rattle.pictures.specs.Runs.{fill_row, on_fill}
use Rattle.pictures.specs.Rows.{rows_from, runs_row, RowPlace, at_count, in_row}
use Rattle.pictures.specs.Drawing.{Read, no_row, whole, read_line, line_from, line_of, dots_of}
use Rattle.pictures.specs.declared.runs.Filled.{Filled}
use Rattle.pictures.specs.declared.runs.Filled.TheVariants.{Over, Whole, Part}
use Rattle.pictures.proofs.Passing.{fill_part, fill_whole, fill_over}

-- ---- the loop over the runs of a row
module _ (w : ℕ) where
  pub line_end : (ds : List Bool) (c : Bool) (n : ℕ) (src : List ℕ) → length src ≤ n → read_line w ds c n (drop n src) ≡ no_row
  unfolding read_line
  line_end ds c n src h = rw (drop_of_length-le src)

  module _ (ds : List Bool) (c : Bool) (n : ℕ) (src : List ℕ) (h : n < length src) where
    line_turn : read_line w ds c n (drop n src)
        ≡ on_fill (fill_row w (length ds) (get_or src n 0)) no_row (whole (ds ++ replicate (get_or src n 0) c) (n + 1))
        (λ (_ : ℕ). read_line w (ds ++ replicate (get_or src n 0) c) (not c) (n + 1) (drop (n + 1) src))
    unfolding read_line
    line_turn = rw (drop-cons src n 0, add-one n)

    pub line_over : (f : ℕ) → length ds ≡ f → w < f + get_or src n 0 → read_line w ds c n (drop n src) ≡ no_row
    line_over f l e = line_turn ∙ rw (l, fill_over w f (get_or src n 0) e)

    pub line_whole : (f : ℕ) → length ds ≡ f → f + get_or src n 0 ≡ w → read_line w ds c n (drop n src) ≡ whole (ds ++ replicate (get_or src n 0) c) (n + 1)
    line_whole f l e = line_turn ∙ rw (l, fill_whole w f (get_or src n 0) e)

    pub line_part : (f : ℕ) → length ds ≡ f → f + get_or src n 0 < w
        → read_line w ds c n (drop n src) ≡ read_line w (ds ++ replicate (get_or src n 0) c) (not c) (n + 1) (drop (n + 1) src)
    line_part f l e = line_turn ∙ rw (l, fill_part w f (get_or src n 0) e)

    -- a run that fills what the row lacks, or passes it
    pub line_last : (l : ℕ) → length ds + l ≡ w → l ≤ get_or src n 0 → then_some (eqb l (get_or src n 0)) (n + 1) ≡ line_of (read_line w ds c n (drop n src))
    line_last l e g = go (eqb l (get_or src n 0)) refl
      where
        go : (t : Bool) → eqb l (get_or src n 0) ≡ t → then_some t (n + 1) ≡ line_of (read_line w ds c n (drop n src))
        go true q = ap line_of (sym (line_whole (length ds) refl (omega (arith, eqb-true _ _ q))))
        go false q = ap line_of (sym (line_over (length ds) refl (omega (arith, eqb-false _ _ q))))

-- ---- a row that is read, and the rows that it and the data behind it draw
abbrev rows_of : ℕ → ℕ → List ℕ → Read → List (List Bool)
rows_of w r src no_row = []
rows_of w r src (whole ds k) = replicate (suc r) ds ++ rows_from w at_count (drop k src)

rows_by : (w r : ℕ) (src : List ℕ) (x : Filled) (ds : List Bool) (k : ℕ) (xs : List ℕ) (l : List (List Bool)) (q : Read)
    → drop k src ≡ xs → l ≡ rows_of w r src q
    → on_fill x [] (replicate (suc r) ds ++ rows_from w at_count xs) (λ (_ : ℕ). l) ≡ rows_of w r src (on_fill x no_row (whole ds k) (λ (_ : ℕ). q))
rows_by w r src Over ds k xs l q e h = refl
rows_by w r src Whole ds k xs l q e h = rw e
rows_by w r src (Part m) ds k xs l q e h = h

drop_next : (n b : ℕ) (src xs : List ℕ) → drop n src ≡ b ∷ xs → drop (n + 1) src ≡ xs
drop_next n b src xs e = sym (drop-drop 1 n src) ∙ ap (drop 1) e

rows_from_lem : (w r : ℕ) (src xs : List ℕ) (ds : List Bool) (c : Bool) (n : ℕ) → drop n src ≡ xs
    → rows_from w (in_row r ds c) xs ≡ rows_of w r src (read_line w ds c n xs)
unfolding rows_from read_line
rows_from_lem w r src [] ds c n e = refl
rows_from_lem w r src (b ∷ xs) ds c n e =
    rows_by w r src (fill_row w (length ds) b) (ds ++ replicate b c) (n + 1) xs _ _ (drop_next n b src xs e)
    (rows_from_lem w r src xs (ds ++ replicate b c) (not c) (n + 1) (drop_next n b src xs e))

row_of : (w b : ℕ) (src : List ℕ) (q : Read) (j : ℕ) → j ≤ b → get_or (rows_of w b src q) j [] ≡ dots_of q
row_of w b src no_row j h = refl
row_of w b src (whole ds k) j h =
    let l : j < length (replicate (suc b) ds) = simp length-replicate (omega arith) in
    get_or-append (replicate (suc b) ds) (rows_from w at_count (drop k src)) [] j l ∙ get_or-replicate (suc b) j ds [] (omega arith)

whole_of : (q : Read) (k : ℕ) → Some k ≡ line_of q → (ds : List Bool) × (q ≡ whole ds k)
whole_of no_row k e = let z : ◌≡◌ {A = ℕ} 0 1 = cc in absurd (omega arith)
whole_of (whole ds j) k e = let z : j ≡ k = cc in (ds, rw z)

none_of : (q : Read) → None ≡ line_of q → q ≡ no_row
none_of no_row e = refl
none_of (whole ds j) e = let z : ◌≡◌ {A = ℕ} 0 1 = cc in absurd (omega arith)

module _ (w : ℕ) (src : List ℕ) where
  -- no row starts at the end
  pub rows_past : (at j : ℕ) → length src ≤ at → runs_row w (drop at src) j ≡ []
  unfolding runs_row rows_from
  rows_past at j l = rw (drop_of_length-le src l)

  module _ (at : ℕ) (h : at < length src) where
    rows_at : rows_from w at_count (drop at src) ≡ rows_of w (get_or src at 0) src (line_from w src (at + 1))
    unfolding rows_from line_from
    rows_at = rw (drop-cons src at 0, ← (add-one at)) (rows_from_lem w (get_or src at 0) src _ [] false (at + 1) refl)

    -- the row that starts here, and its repeats
    pub rows_here : (j : ℕ) → j ≤ get_or src at 0 → runs_row w (drop at src) j ≡ dots_of (line_from w src (at + 1))
    unfolding runs_row
    rows_here j l = rw rows_at (row_of w (get_or src at 0) src (line_from w src (at + 1)) j l)

    -- the rows below it
    pub rows_below : (ds : List Bool) (k j : ℕ) → line_from w src (at + 1) ≡ whole ds k → runs_row w (drop at src) (get_or src at 0 + 1 + j) ≡ runs_row w (drop k src) j
    unfolding runs_row
    rows_below ds k j e =
        let b : ℕ = get_or src at 0 in
        let rest : List (List Bool) = rows_from w at_count (drop k src) in
        let p : get_or (replicate (suc b) ds ++ rest) (suc b + j) [] ≡ get_or rest j [] =
        rw (length-replicate b ds) at (get_or-append-add (replicate (suc b) ds) rest j []) in
        let z : b + 1 + j ≡ suc b + j = omega arith in
        rw (rows_at, e, z) p

    -- no row is drawn from one that is not whole
    pub rows_none : (j : ℕ) → line_from w src (at + 1) ≡ no_row → runs_row w (drop at src) j ≡ []
    unfolding runs_row
    rows_none j e = rw (rows_at, e)

-- the rows of data that begins with the repeat count b, and the runs xs after it
module _ (w b : ℕ) (d xs : List ℕ) (q : d ≡ b ∷ xs) where
  rows_first : rows_from w at_count d ≡ rows_of w b xs (line_from w xs 0)
  unfolding rows_from line_from
  rows_first = rw q (rows_from_lem w b xs xs [] false 0 refl)

  -- the row that the runs begin with, and its repeats
  pub first_here : (j : ℕ) → j ≤ b → runs_row w d j ≡ dots_of (line_from w xs 0)
  unfolding runs_row
  first_here j l = rw rows_first (row_of w b xs (line_from w xs 0) j l)

  -- the rows below it
  pub first_below : (k j : ℕ) → Some k ≡ line_of (line_from w xs 0) → runs_row w d (b + 1 + j) ≡ runs_row w (drop k xs) j
  unfolding runs_row
  first_below k j e =
      let p = whole_of (line_from w xs 0) k e in
      let rest : List (List Bool) = rows_from w at_count (drop k xs) in
      let r : get_or (replicate (suc b) p.0 ++ rest) (suc b + j) [] ≡ get_or rest j [] =
      rw (length-replicate b p.0) at (get_or-append-add (replicate (suc b) p.0) rest j []) in
      let z : b + 1 + j ≡ suc b + j = omega arith in
      rw (rows_first, p.1, z) r

  -- no row is drawn from one that is not whole
  pub first_none : (j : ℕ) → None ≡ line_of (line_from w xs 0) → runs_row w d j ≡ []
  unfolding runs_row
  first_none j e = rw (rows_first, none_of (line_from w xs 0) e)

prefix_by : (w : ℕ) (xs ys : List ℕ) (r : ℕ) (ds : List Bool) (x : Filled) (l m : List (List Bool))
    → (zs : List (List Bool)) × (rows_from w at_count (xs ++ ys) ≡ rows_from w at_count xs ++ zs) → (zs : List (List Bool)) × (l ≡ m ++ zs)
    → (zs : List (List Bool)) × (on_fill x [] (replicate (suc r) ds ++ rows_from w at_count (xs ++ ys)) (λ (_ : ℕ). l)
    ≡ on_fill x [] (replicate (suc r) ds ++ rows_from w at_count xs) (λ (_ : ℕ). m) ++ zs)
prefix_by w xs ys r ds Over l m p q = ([], refl)
prefix_by w xs ys r ds Whole l m p q = (p.0, rw p.1 (sym (append_assoc (replicate (suc r) ds) (rows_from w at_count xs) p.0)))
prefix_by w xs ys r ds (Part n) l m p q = q

-- the rows of data are the first rows of more
rows_prefix : (w : ℕ) (xs ys : List ℕ) (p : RowPlace) → (zs : List (List Bool)) × (rows_from w p (xs ++ ys) ≡ rows_from w p xs ++ zs)
unfolding rows_from
rows_prefix w [] ys p = (rows_from w p ys, refl)
rows_prefix w (b ∷ xs) ys at_count = rows_prefix w xs ys (in_row b [] false)
rows_prefix w (b ∷ xs) ys (in_row r ds c) =
    prefix_by w xs ys r (ds ++ replicate b c) (fill_row w (length ds) b) _ _ (rows_prefix w xs ys at_count) (rows_prefix w xs ys (in_row r (ds ++ replicate b c) (not c)))

pub prefix_row : (w : ℕ) (xs ys : List ℕ) (t : ℕ) → t < length (rows_from w at_count xs) → runs_row w xs t ≡ runs_row w (xs ++ ys) t
unfolding runs_row
prefix_row w xs ys t l =
    let p = rows_prefix w xs ys at_count in
    rw p.1 (sym (get_or-append (rows_from w at_count xs) p.0 [] t l))

-- ---- where a row ends
later_by : (x : Filled) (ds es : List Bool) (n k m : ℕ) (q : Read) → on_fill x no_row (whole ds (n + 1)) (λ (_ : ℕ). q) ≡ whole es k
    → (q ≡ whole es k → (n + 1 < k) × (k ≤ n + 1 + m)) → (n < k) × (k ≤ n + suc m)
later_by Over ds es n k m q e h = let z : ◌≡◌ {A = ℕ} 0 1 = cc in absurd (omega arith)
later_by Whole ds es n k m q e h = let z : n + 1 ≡ k = cc in omega arith
later_by (Part j) ds es n k m q e h = let z = h e in omega arith

line_later : (w : ℕ) (xs : List ℕ) (ds es : List Bool) (c : Bool) (n k : ℕ) → read_line w ds c n xs ≡ whole es k → (n < k) × (k ≤ n + length xs)
unfolding read_line
line_later w [] ds es c n k e = let z : ◌≡◌ {A = ℕ} 0 1 = cc in absurd (omega arith)
line_later w (b ∷ xs) ds es c n k e =
    later_by (fill_row w (length ds) b) (ds ++ replicate b c) es n k (length xs) _ e (λ q. line_later w xs (ds ++ replicate b c) es (not c) (n + 1) k q)

-- by the answer of a function that reads the row
module _ (w : ℕ) (src : List ℕ) (n : ℕ) where
  pub line_ends : (k : ℕ) → Some k ≡ line_of (line_from w src n) → (ds : List Bool) × (line_from w src n ≡ whole ds k)
  line_ends k e = whole_of (line_from w src n) k e

  pub line_unfinished : None ≡ line_of (line_from w src n) → line_from w src n ≡ no_row
  line_unfinished e = none_of (line_from w src n) e

  -- a row ends within the data, behind its start
  pub line_within : (k : ℕ) → n ≤ length src → Some k ≡ line_of (line_from w src n) → (n < k) × (k ≤ length src)
  unfolding line_from
  line_within k l e =
      let p = whole_of (read_line w [] false n (drop n src)) k e in
      omega (arith, line_later w (drop n src) [] p.0 false n k p.1, length-drop n src)
