-- Document 01, picture data of either class: when it is complete, and what is kept of it.
use Rattle.std.specs.Prelude.{◌≡◌, ℕ, ◌+◌, ◌<◌, ◌≤◌, cond, ◌↔◌, Option, Some, None, Result, Ok, Err, List, [], ◌∷◌, ◌++◌, length, take, ◌==◌, ◌≢◌, nat_le}
use Rattle.pictures.specs.Size.{bitmap_class, runs_class, picture_size, data_limit}
use Rattle.pictures.specs.Runs.{scan_from, start, past_width, used_of}
use Rattle.pictures.specs.Rows.{rows_drawn, picture}
use Rattle.pictures.specs.declared.runs.PastWidth.{PastWidth}
use Rattle.pictures.specs.declared.runs.Scanned.{Scanned}
use Rattle.pictures.specs.declared.picture.Held.{Held}
use Rattle.pictures.specs.declared.picture.Held.TheVariants.{Whole, Unfinished, Foreign}

-- complete with the bytes that the picture takes, incomplete, or with a run past the width
abbrev pub Judged : Type 0
Judged = Result (Option ℕ) PastWidth

-- "Class 1 is complete at its byte count"
abbrev pub judge_bitmap : ℕ → ℕ → ℕ → Judged
judge_bitmap w h len = cond (nat_le (picture_size w h) len) (Ok (Some (picture_size w h))) (Ok None)

-- "class 2 when all rows are drawn"; a run past the width before that
abbrev pub judge_scan : Result Scanned PastWidth → Judged
judge_scan (Ok s) = Ok (used_of s)
judge_scan (Err p) = Err p

-- data of class k for a picture w dots wide and h rows high: complete with the bytes that it takes, incomplete, or with a run past the width
unfoldable pub judge : ℕ → ℕ → ℕ → List ℕ → Judged
judge k w h d = cond (k == bitmap_class) (judge_bitmap w h (length d)) (judge_scan (scan_from w h 0 start d))

-- the dots of runs together
unfoldable pub run_dots : List ℕ → ℕ
run_dots [] = 0
run_dots (b ∷ runs) = b + run_dots runs

-- W-209: "the picture row being read, counted from 0 with repeats, the dots already filled and the run that didn't fit", by the bytes of class 2 data
-- from picture row `top` on, for a picture w dots wide. First come whole rows: runs that sum to the width with the last of them, each row drawn once
-- and `repeats` times again. Then comes the row being read: runs that sum to less than the width, and one that passes it. The claim `PastByRows`
-- says that the row reader answers just this, in a row below the height.
pub data PastRun (w : ℕ) : ℕ → List ℕ → ℕ → ℕ → ℕ → Type 0 where
  whole_row :
      (top repeats last : ℕ) (runs later : List ℕ) (row filled run : ℕ) → run_dots runs < w → run_dots runs + last ≡ w
      → PastRun w (top + 1 + repeats) later row filled run → PastRun w top (repeats ∷ (runs ++ (last ∷ later))) row filled run
  row_past_width :
      (row repeats run : ℕ) (runs later : List ℕ) → run_dots runs < w → w < run_dots runs + run
      → PastRun w row (repeats ∷ (runs ++ (run ∷ later))) row (run_dots runs) run

-- for every picture and all class 2 data for it
abbrev pub PastByRows : Type 0
PastByRows =
    (w h : ℕ) (d : List ℕ) (row filled run : ℕ) → 0 < w → 0 < h
    → (judge runs_class w h d ≡ Err (past_width row filled run)) ↔ (PastRun w 0 d row filled run × (row < h))

abbrev pub kept_by : Judged → List ℕ → List ℕ
kept_by (Ok (Some n)) d = take n d
kept_by (Ok None) d = d
kept_by (Err p) d = []

-- "Data beyond a complete picture is dropped." (Nothing is kept of data with a run past the width.)
unfoldable pub kept_data : ℕ → ℕ → ℕ → List ℕ → List ℕ
kept_data k w h d = kept_by (judge k w h d) d

abbrev pub held_by : Judged → ℕ → Held
held_by (Ok (Some n)) len = cond (n == len) Whole Foreign
held_by (Ok None) len = Unfinished
held_by (Err p) len = Foreign

-- what stands in a store as a character's data: a complete picture with nothing behind it, an incomplete one, or what no acceptance leaves
unfoldable pub held : ℕ → ℕ → ℕ → List ℕ → Held
held k w h d = cond (nat_le (length d) data_limit) (held_by (judge k w h d) (length d)) Foreign

-- ── laws of them. "class 2 when all rows are drawn": data is complete exactly if the rows that it draws are at least the picture's
abbrev pub CompleteRows : Type 0
CompleteRows = (w h : ℕ) (d : List ℕ) → 0 < h → ((n : ℕ) × (judge runs_class w h d ≡ Ok (Some n))) ↔ (h ≤ rows_drawn w d)

-- what is kept draws the same picture
abbrev pub KeptDrawsSame : Type 0
KeptDrawsSame =
    (k w h : ℕ) (d : List ℕ) → ((row filled run : ℕ) → judge k w h d ≢ Err (past_width row filled run))
    → picture k w (kept_data k w h d) h ≡ picture k w d h
