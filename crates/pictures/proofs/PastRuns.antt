-- A run past the width: the scan finds one exactly where the bytes have one by `PastRun`, in a row below the height. Assumes nothing.
use Rattle.std.proofs.Common.{◌≡◌, ℕ, ◌+◌, ◌<◌, ◌≤◌, Bool, true, false, cond, not, eqb, ltb, leb, Result, Ok, Err, List, [], ◌∷◌, ◌++◌, length, sym, refl, ap, ◌∙◌, append_assoc, add-zero, zero-add, arith, ltb-false, ltb-true, eqb-true, leb-false}
use borrow.Author.Tests.{eqb-false, lt-leb}
use Rattle.pictures.specs.Runs.{end_row, place_of, run_in, step_run, scan_from, start, past_width, on_step}
use Rattle.pictures.specs.Picture.{run_dots, PastRun, whole_row, row_past_width}
use Rattle.pictures.specs.declared.runs.Place.TheVariants.{Count, Finished}
use Rattle.pictures.specs.declared.runs.Reader.{Reader}
use Rattle.pictures.specs.declared.runs.Scanned.{Scanned}
use Rattle.pictures.specs.declared.runs.Scanned.TheVariants.{Complete}
use Rattle.pictures.specs.declared.runs.PastWidth.{PastWidth}
use Rattle.pictures.proofs.Scanning.{scan_done}
use Rattle.pictures.proofs.Passing.{fill_part, fill_whole, fill_over}

-- the reader before a row, and in one
abbrev before : ℕ → Reader
before row = record { row = row; repeat = 0; at = Count }

abbrev inside : ℕ → ℕ → Bool → ℕ → Reader
inside row r c f = record { row = row; repeat = r; at = place_of c f }

dots_more : (runs : List ℕ) (a : ℕ) → run_dots (runs ++ (a ∷ [])) ≡ run_dots runs + a
unfolding run_dots
dots_more [] a = omega arith
dots_more (b ∷ runs) a = omega (arith, dots_more runs a)

-- a run that passes the width has a dot
pub past_dots : (w top row f b : ℕ) (d : List ℕ) → PastRun w top d row f b → 0 < b
past_dots w top row f b d (whole_row _ repeats last runs later _ _ _ g z x) = past_dots w _ row f b later x
past_dots w top row f b d (row_past_width _ repeats _ runs later g o) = omega (arith, g, o)

module _ (w h : ℕ) where
  -- ── from the scan to the bytes
  abbrev Before : List ℕ → Type 0
  Before xs = (n row q f b : ℕ) → row < h → scan_from w h n (before row) xs ≡ Err (past_width q f b) → PastRun w row xs q f b × (q < h)

  abbrev Inside : List ℕ → Type 0
  Inside xs = (n row r q f b : ℕ) (runs : List ℕ) (c : Bool) → row < h → run_dots runs < w → scan_from w h n (inside row r c (run_dots runs)) xs ≡ Err (past_width q f b)
      → PastRun w row (r ∷ (runs ++ xs)) q f b × (q < h)

  row_ended : (xs : List ℕ) → Before xs → (n row r a q f b : ℕ) (runs : List ℕ) → run_dots runs < w → run_dots runs + a ≡ w → (t : Bool) → leb h (row + 1 + r) ≡ t
      → scan_from w h n (cond t (record { row = h; repeat = 0; at = Finished }) (before (row + 1 + r))) xs ≡ Err (past_width q f b)
      → PastRun w row (r ∷ (runs ++ (a ∷ xs))) q f b × (q < h)
  row_ended xs ih n row r a q f b runs g z true u e =
      let y : ◌≡◌ {A = Result Scanned PastWidth} (Ok (Complete n)) (Err (past_width q f b)) = sym (scan_done w h n (record { row = h; repeat = 0; at = Finished }) xs refl) ∙ e in
      let v : ◌≡◌ {A = ℕ} 0 1 = cc in absurd (omega arith)
  row_ended xs ih n row r a q f b runs g z false u e =
      let y = ih n (row + 1 + r) q f b (leb-false _ _ u) e in
      (whole_row row r a runs xs q f b g z y.0, y.1)

  one_run : (xs : List ℕ) → Before xs → Inside xs → (n row r a q f b : ℕ) (runs : List ℕ) (c : Bool) → row < h → run_dots runs < w
      → (t u : Bool) → ltb w (run_dots runs + a) ≡ t → eqb (run_dots runs + a) w ≡ u
      → on_step (run_in w h (inside row r c (run_dots runs)) a c (run_dots runs)) (λ s. scan_from w h (n + 1) s xs) ≡ Err (past_width q f b)
      → PastRun w row (r ∷ (runs ++ (a ∷ xs))) q f b × (q < h)
  unfolding end_row
  one_run xs ih jh n row r a q f b runs c l g true u s t e =
      let o = ltb-true w (run_dots runs + a) s in
      let k : Err (past_width row (run_dots runs) a) ≡ Err (past_width q f b) = rw (fill_over w (run_dots runs) a o) at e in
      let u : past_width row (run_dots runs) a ≡ past_width q f b = cc in
      let x : row ≡ q = ap (λ (p : PastWidth). p.row) u in
      let y : run_dots runs ≡ f = ap (λ (p : PastWidth). p.filled) u in
      let v : a ≡ b = ap (λ (p : PastWidth). p.run) u in
      rw (← x, ← y, ← v) (row_past_width row r a runs xs g o, l)
  one_run xs ih jh n row r a q f b runs c l g false true s t e =
      let z = eqb-true (run_dots runs + a) w t in
      row_ended xs ih (n + 1) row r a q f b runs g z (leb h (row + 1 + r)) refl (rw (fill_whole w (run_dots runs) a z) at e)
  one_run xs ih jh n row r a q f b runs c l g false false s t e =
      let m : run_dots runs + a < w = omega (arith, ltb-false w (run_dots runs + a) s, eqb-false (run_dots runs + a) w t) in
      let k = rw (fill_part w (run_dots runs) a m, ← (dots_more runs a)) at e in
      let y = jh (n + 1) row r q f b (runs ++ (a ∷ [])) (not c) l (omega (arith, dots_more runs a, m)) k in
      rw (append_assoc runs (a ∷ []) xs) at y

  found : 0 < w → (xs : List ℕ) → Before xs × Inside xs
  unfolding scan_from step_run run_dots
  found wide [] = (λ n row q f b l e. let v : ◌≡◌ {A = ℕ} 0 1 = cc in absurd (omega arith), none)
    where
      none : Inside []
      none n row r q f b runs true l g e = let v : ◌≡◌ {A = ℕ} 0 1 = cc in absurd (omega arith)
      none n row r q f b runs false l g e = let v : ◌≡◌ {A = ℕ} 0 1 = cc in absurd (omega arith)
  found wide (a ∷ xs) = let y = found wide xs in (λ n row q f b l e. y.1 (n + 1) row a q f b [] false l wide e, some y.0 y.1)
    where
      some : Before xs → Inside xs → Inside (a ∷ xs)
      some ih jh n row r q f b runs true l g e = one_run xs ih jh n row r a q f b runs true l g (ltb w (run_dots runs + a)) (eqb (run_dots runs + a) w) refl refl e
      some ih jh n row r q f b runs false l g e = one_run xs ih jh n row r a q f b runs false l g (ltb w (run_dots runs + a)) (eqb (run_dots runs + a) w) refl refl e

  pub scanned_past : (d : List ℕ) (row f b : ℕ) → 0 < w → 0 < h → scan_from w h 0 start d ≡ Err (past_width row f b) → PastRun w 0 d row f b × (row < h)
  scanned_past d row f b wide l e = (found wide d).0 0 0 row f b l e

  -- ── from the bytes to the scan
  -- the colour after so many runs
  colour : Bool → List ℕ → Bool
  colour c [] = c
  colour c (a ∷ runs) = colour (not c) runs

  -- runs that leave the row open
  runs_read : (runs : List ℕ) (n row r f : ℕ) (c : Bool) (ys : List ℕ) → f + run_dots runs < w
      → scan_from w h n (inside row r c f) (runs ++ ys) ≡ scan_from w h (n + length runs) (inside row r (colour c runs) (f + run_dots runs)) ys
  unfolding scan_from step_run run_dots colour
  runs_read [] n row r f c ys l = rw (add-zero, add-zero)
  runs_read (a ∷ runs) n row r f true ys l =
      let m : n + 1 + length runs ≡ n + length (a ∷ runs) = omega arith in
      let d : f + a + run_dots runs ≡ f + (a + run_dots runs) = omega arith in
      rw (fill_part w f a (omega (arith, l))) (runs_read runs (n + 1) row r (f + a) false ys (omega (arith, l)) ∙ rw (m, d))
  runs_read (a ∷ runs) n row r f false ys l =
      let m : n + 1 + length runs ≡ n + length (a ∷ runs) = omega arith in
      let d : f + a + run_dots runs ≡ f + (a + run_dots runs) = omega arith in
      rw (fill_part w f a (omega (arith, l))) (runs_read runs (n + 1) row r (f + a) true ys (omega (arith, l)) ∙ rw (m, d))

  -- the run that ends a row above the last, and the one that passes the width
  run_ends : (n row r f a : ℕ) (c : Bool) (ys : List ℕ) → f + a ≡ w → row + 1 + r < h → scan_from w h n (inside row r c f) (a ∷ ys) ≡ scan_from w h (n + 1) (before (row + 1 + r)) ys
  unfolding scan_from step_run end_row
  run_ends n row r f a true ys e l = rw (fill_whole w f a e, lt-leb _ _ l)
  run_ends n row r f a false ys e l = rw (fill_whole w f a e, lt-leb _ _ l)

  run_passes : (n row r f a : ℕ) (c : Bool) (ys : List ℕ) → w < f + a → scan_from w h n (inside row r c f) (a ∷ ys) ≡ Err (past_width row f a)
  unfolding scan_from step_run
  run_passes n row r f a true ys l = rw (fill_over w f a l)
  run_passes n row r f a false ys l = rw (fill_over w f a l)

  not_above : (top row f b : ℕ) (d : List ℕ) → PastRun w top d row f b → top ≤ row
  not_above top row f b d (whole_row _ repeats last runs later _ _ _ g z x) = omega (arith, not_above _ row f b later x)
  not_above top row f b d (row_past_width _ repeats _ runs later g o) = omega arith

  past_found : (top row f b : ℕ) (d : List ℕ) → PastRun w top d row f b → row < h → (n : ℕ) → scan_from w h n (before top) d ≡ Err (past_width row f b)
  unfolding scan_from step_run
  past_found top row f b d (whole_row _ repeats last runs later _ _ _ g z x) l n =
      runs_read runs (n + 1) top repeats 0 false (last ∷ later) (omega (arith, g))
      ∙ run_ends (n + 1 + length runs) top repeats (0 + run_dots runs) last (colour false runs) later (omega (arith, z)) (omega (arith, not_above (top + 1 + repeats) row f b later x, l))
      ∙ past_found (top + 1 + repeats) row f b later x l (n + 1 + length runs + 1)
  past_found top row f b d (row_past_width _ repeats _ runs later g o) l n =
      runs_read runs (n + 1) top repeats 0 false (b ∷ later) (omega (arith, g))
      ∙ run_passes (n + 1 + length runs) top repeats (0 + run_dots runs) b (colour false runs) later (omega (arith, o)) ∙ rw zero-add

  pub past_scanned : (d : List ℕ) (row f b : ℕ) → PastRun w 0 d row f b → row < h → scan_from w h 0 start d ≡ Err (past_width row f b)
  past_scanned d row f b x l = past_found 0 row f b d x l 0
