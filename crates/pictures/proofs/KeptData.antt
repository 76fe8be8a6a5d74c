-- Laws of `judge`, `kept_data` and `held`: dropping what lies behind a complete picture changes neither the picture nor completeness, and what
-- is kept is what a store may hold. Assumes nothing.
use Rattle.std.proofs.Common.{◌≡◌, ℕ, ◌<◌, ◌≤◌, Bool, true, false, cond, eqb, leb, Some, None, Result, Ok, Err, List, ◌++◌, length, take, drop, sym, refl, ap, ◌∙◌, arith, length-append, take-append-drop, length-take-le, eq-eqb, ne_eqb, eqb-true, le-leb, leb-false, leb-true}
use borrow.Author.Tests.{lt-leb}
use Rattle.pictures.specs.Size.{bitmap_class, runs_class, picture_size, data_limit}
use Rattle.pictures.specs.Runs.{scan_from, start, past_width}
use Rattle.pictures.specs.Rows.{bitmap_row, runs_row, rows_from, at_count, row_dots, picture}
use Rattle.pictures.specs.Picture.{Judged, judge, judge_bitmap, judge_scan, PastRun, PastByRows, kept_data, held, held_by, KeptDrawsSame}
use Rattle.pictures.specs.declared.runs.Reader.{Reader}
use Rattle.pictures.specs.declared.runs.Scanned.{Scanned}
use Rattle.pictures.specs.declared.runs.Scanned.TheVariants.{Complete, Open}
use Rattle.pictures.specs.declared.runs.PastWidth.{PastWidth}
use Rattle.pictures.specs.declared.picture.Held.TheVariants.{Whole, Unfinished, Foreign}
use Rattle.pictures.proofs.Used.{scan_used, scan_take, prefix_open, prefix_still_open}
use Rattle.pictures.proofs.Completeness.{complete_height}
use Rattle.pictures.proofs.PastRuns.{scanned_past, past_scanned}
use Rattle.pictures.proofs.Bitmaps.{bitmap_take}
use Rattle.pictures.proofs.Lines.{prefix_row}
use Rattle.pictures.proofs.Pictures.{picture_rows_lem}

-- ---- what an answer tells of the class 2 scan, and of the length of class 1 data
scan_complete : (r : Result Scanned PastWidth) (n : ℕ) → judge_scan r ≡ Ok (Some n) → r ≡ Ok (Complete n)
scan_complete (Ok (Complete k)) n e = let z : k ≡ n = cc in rw z
scan_complete (Ok (Open s)) n e = let z : ◌≡◌ {A = ℕ} 0 1 = cc in absurd (omega arith)
scan_complete (Err p) n e = let z : ◌≡◌ {A = ℕ} 0 1 = cc in absurd (omega arith)

scan_incomplete : (r : Result Scanned PastWidth) → judge_scan r ≡ Ok None → (s : Reader) × (r ≡ Ok (Open s))
scan_incomplete (Ok (Complete k)) e = let z : ◌≡◌ {A = ℕ} 0 1 = cc in absurd (omega arith)
scan_incomplete (Ok (Open s)) e = (s, refl)
scan_incomplete (Err p) e = let z : ◌≡◌ {A = ℕ} 0 1 = cc in absurd (omega arith)

scan_past : (r : Result Scanned PastWidth) (p : PastWidth) → judge_scan r ≡ Err p → r ≡ Err p
scan_past (Ok s) p e = let z : ◌≡◌ {A = ℕ} 0 1 = cc in absurd (omega arith)
scan_past (Err q) p e = let z : q ≡ p = cc in rw z

-- class 1 data, by whether its length is the picture's
abbrev judged_at : ℕ → Bool → Judged
judged_at size t = cond t (Ok (Some size)) (Ok None)

bitmap_by : (size len n : ℕ) (t : Bool) → leb size len ≡ t → judged_at size t ≡ Ok (Some n) → (n ≡ size) × (size ≤ len)
bitmap_by size len n true q e = let z : n ≡ size = cc in (z, leb-true size len q)
bitmap_by size len n false q e = let z : ◌≡◌ {A = ℕ} 0 1 = cc in absurd (omega arith)

bitmap_short : (size len : ℕ) (t : Bool) → leb size len ≡ t → judged_at size t ≡ Ok None → len < size
bitmap_short size len true q e = let z : ◌≡◌ {A = ℕ} 0 1 = cc in absurd (omega arith)
bitmap_short size len false q e = leb-false size len q

bitmap_past : (size : ℕ) (p : PastWidth) (t : Bool) → judged_at size t ≡ Err p → ⊥
bitmap_past size p true e = let z : ◌≡◌ {A = ℕ} 0 1 = cc in omega arith
bitmap_past size p false e = let z : ◌≡◌ {A = ℕ} 0 1 = cc in omega arith

-- ---- what `held` tells of the data
held_as : (len : ℕ) (t : Bool) (j : Judged) → leb len data_limit ≡ t → cond t (held_by j len) Foreign ≡ Whole → (j ≡ Ok (Some len)) × (len ≤ data_limit)
held_as len true (Ok (Some n)) q e = (complete_as (eqb n len) refl e, leb-true len data_limit q)
  where
    complete_as : (u : Bool) → eqb n len ≡ u → cond u Whole Foreign ≡ Whole → ◌≡◌ {A = Judged} (Ok (Some n)) (Ok (Some len))
    complete_as true p e = let z : n ≡ len = eqb-true n len p in rw z
    complete_as false p e = let z : ◌≡◌ {A = ℕ} 0 1 = cc in absurd (omega arith)
held_as len true (Ok None) q e = let z : ◌≡◌ {A = ℕ} 0 1 = cc in absurd (omega arith)
held_as len true (Err p) q e = let z : ◌≡◌ {A = ℕ} 0 1 = cc in absurd (omega arith)
held_as len false j q e = let z : ◌≡◌ {A = ℕ} 0 1 = cc in absurd (omega arith)

unfinished_as : (len : ℕ) (t : Bool) (j : Judged) → leb len data_limit ≡ t → cond t (held_by j len) Foreign ≡ Unfinished → (j ≡ Ok None) × (len ≤ data_limit)
unfinished_as len true (Ok (Some n)) q e = absurd (other (eqb n len) e)
  where
    other : (u : Bool) → cond u Whole Foreign ≡ Unfinished → ⊥
    other true e = let z : ◌≡◌ {A = ℕ} 0 1 = cc in omega arith
    other false e = let z : ◌≡◌ {A = ℕ} 0 1 = cc in omega arith
unfinished_as len true (Ok None) q e = (refl, leb-true len data_limit q)
unfinished_as len true (Err p) q e = let z : ◌≡◌ {A = ℕ} 0 1 = cc in absurd (omega arith)
unfinished_as len false j q e = let z : ◌≡◌ {A = ℕ} 0 1 = cc in absurd (omega arith)

-- ---- by class: t says whether it is 1
module _ (w h : ℕ) where
  abbrev judge_as : Bool → List ℕ → Judged
  judge_as t d = cond t (judge_bitmap w h (length d)) (judge_scan (scan_from w h 0 start d))

  abbrev dots_as : Bool → List ℕ → ℕ → List Bool
  dots_as t d r = cond t (bitmap_row w d r) (runs_row w d r)

  within_as : (t : Bool) (d : List ℕ) (n : ℕ) → judge_as t d ≡ Ok (Some n) → n ≤ length d
  within_as true d n e = let p = bitmap_by (picture_size w h) (length d) n (leb (picture_size w h) (length d)) refl e in omega arith
  within_as false d n e = omega (arith, scan_used w h 0 n start d (scan_complete (scan_from w h 0 start d) n e))

  take_as : (t : Bool) (d : List ℕ) (n : ℕ) → judge_as t d ≡ Ok (Some n) → judge_as t (take n d) ≡ Ok (Some n)
  take_as true d n e =
      let p = bitmap_by (picture_size w h) (length d) n (leb (picture_size w h) (length d)) refl e in
      let l : length (take n d) ≡ picture_size w h = length-take-le n d (omega (arith, p.0, p.1)) ∙ p.0 in
      rw (l, le-leb (picture_size w h) (picture_size w h) (omega arith), p.0)
  take_as false d n e = rw (scan_take w h n d (scan_complete (scan_from w h 0 start d) n e))

  dots_as_lem : (t : Bool) (d : List ℕ) (n : ℕ) → judge_as t d ≡ Ok (Some n) → (r : ℕ) → r < h → dots_as t (take n d) r ≡ dots_as t d r
  dots_as_lem true d n e r l =
      let p = bitmap_by (picture_size w h) (length d) n (leb (picture_size w h) (length d)) refl e in
      rw p.0 (bitmap_take w h d r l)
  dots_as_lem false d n e r l =
      let q = scan_take w h n d (scan_complete (scan_from w h 0 start d) n e) in
      let g : h ≤ length (rows_from w at_count (take n d)) = complete_height w h (take n d) n (omega arith) q in
      prefix_row w (take n d) (drop n d) r (omega arith) ∙ rw (take-append-drop n d)

  incomplete_as : (t : Bool) (xs ys : List ℕ) → judge_as t (xs ++ ys) ≡ Ok None → judge_as t xs ≡ Ok None
  incomplete_as true xs ys e =
      let p = bitmap_short (picture_size w h) (length (xs ++ ys)) (leb (picture_size w h) (length (xs ++ ys))) refl e in
      let l : length xs < picture_size w h = omega (arith, p, length-append xs ys) in
      rw (lt-leb (picture_size w h) (length xs) l)
  incomplete_as false xs ys e =
      let p = scan_incomplete (scan_from w h 0 start (xs ++ ys)) e in
      let q = prefix_still_open w h xs ys p.0 p.1 in
      rw q.1

  ended_as : (t : Bool) (xs ys : List ℕ) → judge_as t (xs ++ ys) ≡ Ok (Some (length (xs ++ ys))) → 0 < length ys → judge_as t xs ≡ Ok None
  ended_as true xs ys e g =
      let p = bitmap_by (picture_size w h) (length (xs ++ ys)) (length (xs ++ ys)) (leb (picture_size w h) (length (xs ++ ys))) refl e in
      let l : length xs < picture_size w h = omega (arith, p.0, length-append xs ys) in
      rw (lt-leb (picture_size w h) (length xs) l)
  ended_as false xs ys e g =
      let q = prefix_open w h xs ys (scan_complete (scan_from w h 0 start (xs ++ ys)) _ e) g in
      rw q.1

module _ (k w h : ℕ) where
  -- what a complete picture takes is within the data
  pub complete_within : (d : List ℕ) (n : ℕ) → judge k w h d ≡ Ok (Some n) → n ≤ length d
  unfolding judge
  complete_within d n e = within_as w h (eqb k 1) d n e

  -- what it takes is complete by itself
  take_complete : (d : List ℕ) (n : ℕ) → judge k w h d ≡ Ok (Some n) → judge k w h (take n d) ≡ Ok (Some n)
  unfolding judge
  take_complete d n e = take_as w h (eqb k 1) d n e

  take_picture : (d : List ℕ) (n : ℕ) → judge k w h d ≡ Ok (Some n) → picture k w (take n d) h ≡ picture k w d h
  unfolding judge row_dots
  take_picture d n e = picture_rows_lem k w (take n d) d h (λ r l. dots_as_lem w h (eqb k 1) d n e r l)

  -- ---- 8 by the bytes of the data
  pub judged_past : (d : List ℕ) (row f b : ℕ) → 0 < w → 0 < h → judge k w h d ≡ Err (past_width row f b) → PastRun w 0 d row f b × (row < h)
  unfolding judge
  judged_past d row f b wide l e = past_of (eqb k bitmap_class) e
    where
      past_of : (t : Bool) → judge_as w h t d ≡ Err (past_width row f b) → PastRun w 0 d row f b × (row < h)
      past_of true e = absurd (bitmap_past (picture_size w h) (past_width row f b) (leb (picture_size w h) (length d)) e)
      past_of false e = scanned_past w h d row f b wide l (scan_past (scan_from w h 0 start d) (past_width row f b) e)

  pub past_class : (d : List ℕ) (row f b : ℕ) → judge k w h d ≡ Err (past_width row f b) → k ≡ bitmap_class → ⊥
  unfolding judge
  past_class d row f b e q = bitmap_past (picture_size w h) (past_width row f b) (leb (picture_size w h) (length d)) (rw q at e)

  pub past_judged : (d : List ℕ) (row f b : ℕ) → (k ≡ bitmap_class → ⊥) → PastRun w 0 d row f b → row < h → judge k w h d ≡ Err (past_width row f b)
  unfolding judge
  past_judged d row f b n x l = rw (ne_eqb k bitmap_class n, past_scanned w h d row f b x l)

  -- ---- what is kept, by what it was judged
  pub kept_complete : (d : List ℕ) (n : ℕ) → judge k w h d ≡ Ok (Some n) → kept_data k w h d ≡ take n d
  unfolding kept_data
  kept_complete d n e = rw e

  pub kept_incomplete : (d : List ℕ) → judge k w h d ≡ Ok None → kept_data k w h d ≡ d
  unfolding kept_data
  kept_incomplete d e = rw e

  pub kept_length : (d : List ℕ) (n : ℕ) → judge k w h d ≡ Ok (Some n) → length (kept_data k w h d) ≡ n
  kept_length d n e = ap length (kept_complete d n e) ∙ length-take-le n d (complete_within d n e)

  judged_by : (d : List ℕ) (j : Judged) → judge k w h d ≡ j → ((row f b : ℕ) → j ≡ Err (past_width row f b) → ⊥) → judge k w h (kept_data k w h d) ≡ j
  judged_by d (Ok (Some n)) e past = rw (kept_complete d n e) (take_complete d n e)
  judged_by d (Ok None) e past = rw (kept_incomplete d e) e
  judged_by d (Err p) e past = absurd (past p.row p.filled p.run refl)

  -- dropping data beyond a complete picture does not change completeness
  pub kept_judged : (d : List ℕ) → ((row f b : ℕ) → judge k w h d ≡ Err (past_width row f b) → ⊥) → judge k w h (kept_data k w h d) ≡ judge k w h d
  kept_judged d past = judged_by d (judge k w h d) refl past

  picture_by : (d : List ℕ) (j : Judged) → judge k w h d ≡ j → ((row f b : ℕ) → j ≡ Err (past_width row f b) → ⊥) → picture k w (kept_data k w h d) h ≡ picture k w d h
  picture_by d (Ok (Some n)) e past = rw (kept_complete d n e) (take_picture d n e)
  picture_by d (Ok None) e past = rw (kept_incomplete d e)
  picture_by d (Err p) e past = absurd (past p.row p.filled p.run refl)

  -- nor the picture
  pub kept_picture : (d : List ℕ) → ((row f b : ℕ) → judge k w h d ≡ Err (past_width row f b) → ⊥) → picture k w (kept_data k w h d) h ≡ picture k w d h
  kept_picture d past = picture_by d (judge k w h d) refl past

  -- ---- what a store holds
  pub held_whole : (d : List ℕ) (n : ℕ) → judge k w h d ≡ Ok (Some n) → length (kept_data k w h d) ≤ data_limit → held k w h (kept_data k w h d) ≡ Whole
  unfolding held
  held_whole d n e l =
      let j : judge k w h (kept_data k w h d) ≡ Ok (Some n) = rw (kept_complete d n e) (take_complete d n e) in
      rw (le-leb (length (kept_data k w h d)) data_limit l, j, eq-eqb n (length (kept_data k w h d)) (sym (kept_length d n e)))

  pub held_unfinished : (d : List ℕ) → judge k w h d ≡ Ok None → length (kept_data k w h d) ≤ data_limit → held k w h (kept_data k w h d) ≡ Unfinished
  unfolding held
  held_unfinished d e l =
      let j : judge k w h (kept_data k w h d) ≡ Ok None = rw (kept_incomplete d e) e in
      rw (le-leb (length (kept_data k w h d)) data_limit l, j)

  pub whole_judged : (d : List ℕ) → held k w h d ≡ Whole → (judge k w h d ≡ Ok (Some (length d))) × (length d ≤ data_limit)
  unfolding held
  whole_judged d e = held_as (length d) (leb (length d) data_limit) (judge k w h d) refl e

  pub unfinished_judged : (d : List ℕ) → held k w h d ≡ Unfinished → (judge k w h d ≡ Ok None) × (length d ≤ data_limit)
  unfolding held
  unfinished_judged d e = unfinished_as (length d) (leb (length d) data_limit) (judge k w h d) refl e

  -- ---- the first part of data
  pub incomplete_prefix : (xs ys : List ℕ) → judge k w h (xs ++ ys) ≡ Ok None → judge k w h xs ≡ Ok None
  unfolding judge
  incomplete_prefix xs ys e = incomplete_as w h (eqb k 1) xs ys e

  -- data that ends with its picture is incomplete before its end
  pub complete_prefix : (xs ys : List ℕ) → judge k w h (xs ++ ys) ≡ Ok (Some (length (xs ++ ys))) → 0 < length ys → judge k w h xs ≡ Ok None
  unfolding judge
  complete_prefix xs ys e l = ended_as w h (eqb k 1) xs ys e l

pub past_by_rows : PastByRows
past_by_rows w h d row filled run wide tall = (judged_past runs_class w h d row filled run wide tall, λ x. past_judged runs_class w h d row filled run (λ e. omega (arith, e)) x.0 x.1)

pub kept_draws_same : KeptDrawsSame
kept_draws_same k w h d past = kept_picture k w h d past
