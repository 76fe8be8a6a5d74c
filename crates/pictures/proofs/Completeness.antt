-- The scan's answer and the rows drawn agree: data is complete exactly if it draws as many rows as the height. Assumes nothing.
use Rattle.std.proofs.Common.{◌≡◌, ℕ, suc, ◌+◌, ◌<◌, ◌≤◌, Bool, true, false, cond, not, eqb, ltb, leb, Some, Result, Ok, Err, List, [], ◌∷◌, ◌++◌, length, replicate, sym, refl, ◌∙◌, add-zero, zero-add, arith, length-append, le-leb, leb-false, leb-true}
use borrow.Author.Tests.{lt-leb}
use lib.ListN.{length-replicate}
use Rattle.pictures.specs.Runs.{fill_row, end_row, place_of, step_run, scan_from, start, past_width, on_step, on_fill}
use Rattle.pictures.specs.Rows.{rows_from, rows_drawn, RowPlace, at_count, in_row}
use Rattle.pictures.specs.declared.runs.Place.TheVariants.{Count, Finished}
use Rattle.pictures.specs.declared.runs.Reader.{Reader}
use Rattle.pictures.specs.declared.runs.Filled.{Filled}
use Rattle.pictures.specs.declared.runs.Filled.TheVariants.{Over, Whole, Part}
use Rattle.pictures.specs.declared.runs.PastWidth.{PastWidth}
use Rattle.pictures.specs.declared.runs.Scanned.{Scanned}
use Rattle.pictures.specs.declared.runs.Scanned.TheVariants.{Complete, Open}
use Rattle.pictures.specs.Picture.{judge, judge_scan, CompleteRows}
use Rattle.pictures.proofs.Scanning.{scan_done}

abbrev pub is_complete : Result Scanned PastWidth → Bool
is_complete (Ok (Complete k)) = true
is_complete (Ok (Open s)) = false
is_complete (Err p) = false

-- the reader's state at a place among the rows
abbrev reader_at : ℕ → RowPlace → Reader
reader_at row at_count = record { row = row; repeat = 0; at = Count }
reader_at row (in_row r ds c) = record { row = row; repeat = r; at = place_of c (length ds) }

part_by : (w f b m : ℕ) (t u : Bool) → cond t Over (cond u Whole (Part (f + b))) ≡ Part m → m ≡ f + b
part_by w f b m true u e = let z : ◌≡◌ {A = ℕ} 0 1 = cc in absurd (omega arith)
part_by w f b m false true e = let z : ◌≡◌ {A = ℕ} 0 1 = cc in absurd (omega arith)
part_by w f b m false false e = cc

part_dots : (w f b m : ℕ) → fill_row w f b ≡ Part m → m ≡ f + b
unfolding fill_row
part_dots w f b m e = part_by w f b m (ltb w (f + b)) (eqb (f + b) w) e

module _ (w h : ℕ) where
  abbrev Agrees : List ℕ → Type 0
  Agrees xs = (n row : ℕ) (p : RowPlace) → row < h → is_complete (scan_from w h n (reader_at row p) xs) ≡ leb h (row + length (rows_from w p xs))

  -- a whole row
  ended : (xs : List ℕ) → Agrees xs → (n row r : ℕ) (ds : List Bool) (t : Bool) → leb h (row + 1 + r) ≡ t
      → is_complete (scan_from w h n (cond t (record { row = h; repeat = 0; at = Finished }) (record { row = row + 1 + r; repeat = 0; at = Count })) xs)
      ≡ leb h (row + length (replicate (suc r) ds ++ rows_from w at_count xs))
  ended xs ih n row r ds true e =
      let big : h ≤ row + length (replicate (suc r) ds ++ rows_from w at_count xs) = simp (length-append, length-replicate) (omega (arith, leb-true h (row + 1 + r) e)) in
      rw (scan_done w h n (record { row = h; repeat = 0; at = Finished }) xs refl) (sym (le-leb _ _ big))
  ended xs ih n row r ds false e =
      let len : row + 1 + r + length (rows_from w at_count xs) ≡ row + length (replicate (suc r) ds ++ rows_from w at_count xs) = simp (length-append, length-replicate) (omega arith) in
      ih n (row + 1 + r) at_count (leb-false _ _ e) ∙ rw len

  -- one run
  run : (xs : List ℕ) → Agrees xs → (n row r b : ℕ) (ds : List Bool) (c : Bool) → row < h → (x : Filled) → fill_row w (length ds) b ≡ x
      → is_complete (on_step (on_fill x (Err (past_width row (length ds) b)) (Ok (end_row h (record { row = row; repeat = r; at = place_of c (length ds) })))
      (λ m. Ok (record { row = row; repeat = r; at = place_of (not c) m }))) (λ t. scan_from w h (n + 1) t xs))
      ≡ leb h (row + length (on_fill x [] (replicate (suc r) (ds ++ replicate b c) ++ rows_from w at_count xs) (λ _. rows_from w (in_row r (ds ++ replicate b c) (not c)) xs)))
  unfolding end_row
  run xs ih n row r b ds c l Over q = rw add-zero (sym (lt-leb h row l))
  run xs ih n row r b ds c l Whole q = ended xs ih (n + 1) row r (ds ++ replicate b c) (leb h (row + 1 + r)) refl
  run xs ih n row r b ds c l (Part m) q =
      let len : m ≡ length (ds ++ replicate b c) = simp (length-append, length-replicate) (part_dots w (length ds) b m q) in
      rw len (ih (n + 1) row (in_row r (ds ++ replicate b c) (not c)) l)

  agrees : (xs : List ℕ) → Agrees xs
  unfolding scan_from step_run rows_from
  agrees [] n row at_count l = rw add-zero (sym (lt-leb h row l))
  agrees [] n row (in_row r ds true) l = rw add-zero (sym (lt-leb h row l))
  agrees [] n row (in_row r ds false) l = rw add-zero (sym (lt-leb h row l))
  agrees (b ∷ xs) n row at_count l = agrees xs (n + 1) row (in_row b [] false) l
  agrees (b ∷ xs) n row (in_row r ds true) l = run xs (agrees xs) n row r b ds true l (fill_row w (length ds) b) refl
  agrees (b ∷ xs) n row (in_row r ds false) l = run xs (agrees xs) n row r b ds false l (fill_row w (length ds) b) refl

  pub complete_rows : (d : List ℕ) → 0 < h → is_complete (scan_from w h 0 start d) ≡ leb h (rows_drawn w d)
  complete_rows d l = agrees d 0 0 at_count l ∙ rw zero-add

  -- the rows of complete data
  pub complete_height : (d : List ℕ) (k : ℕ) → 0 < h → scan_from w h 0 start d ≡ Ok (Complete k) → h ≤ length (rows_from w at_count d)
  complete_height d k l e = leb-true h (length (rows_from w at_count d)) (sym (complete_rows d l) ∙ rw e)

-- ── by how data is judged
judged_complete : (v : Result Scanned PastWidth) → is_complete v ≡ true → (n : ℕ) × (judge_scan v ≡ Ok (Some n))
judged_complete (Ok (Complete k)) e = (k, refl)
judged_complete (Ok (Open s)) e = let z : ◌≡◌ {A = ℕ} 0 1 = cc in absurd (omega arith)
judged_complete (Err p) e = let z : ◌≡◌ {A = ℕ} 0 1 = cc in absurd (omega arith)

complete_judged : (v : Result Scanned PastWidth) (n : ℕ) → judge_scan v ≡ Ok (Some n) → is_complete v ≡ true
complete_judged (Ok (Complete k)) n e = refl
complete_judged (Ok (Open s)) n e = let z : ◌≡◌ {A = ℕ} 0 1 = cc in absurd (omega arith)
complete_judged (Err p) n e = let z : ◌≡◌ {A = ℕ} 0 1 = cc in absurd (omega arith)

pub complete_by_rows : CompleteRows
unfolding judge
complete_by_rows w h d l = (
  λ x. leb-true h (rows_drawn w d) (sym (complete_rows w h d l) ∙ complete_judged (scan_from w h 0 start d) x.0 x.1),
  λ x. judged_complete (scan_from w h 0 start d) (complete_rows w h d l ∙ le-leb h (rows_drawn w d) x),
)
