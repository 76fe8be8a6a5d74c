-- A scan that passes over rows and runs: laws of `Passes` and `PassesRuns`. Assumes nothing.
use Rattle.std.proofs.Common.{◌≡◌, ℕ, ◌+◌, ◌-◌, ◌<◌, ◌≤◌, Bool, true, false, not, ◌||◌, leb, Ok, Err, List, length, get_or, drop, refl, ◌∙◌, arith, le-ltb, lt-ltb, eq-eqb, ne_eqb, le-leb, leb-true, zero, suc, [], ◌∷◌, ◌++◌, sum, take, sym, ap, add-zero, length-drop, length-take-le, take-append-drop, drop-drop, get_or-drop}
use Rattle.std.proofs.lemmas.List.Sums.{sum_by-cons}
use native.Mathlib.Nat.{sub-zero}
use borrow.Author.Tests.{lt-leb}
use Rattle.pictures.specs.Runs.{start, place_of, fill_row, end_row, run_in, step_at, step_run, is_finished, scan_from}
use Rattle.pictures.specs.Passing.{is_at_run, is_in_row, is_black, filled_at, at_run, count_row, stopped_in, finished_at, pair_at, Passes, PassesRuns}
use Rattle.pictures.specs.declared.runs.Place.{Place}
use Rattle.pictures.specs.declared.runs.Place.TheVariants.{Count, White, Black, Finished}
use Rattle.pictures.specs.declared.runs.Reader.{Reader}
use Rattle.pictures.specs.declared.runs.Filled.TheVariants.{Over, Whole, Part}
use Rattle.pictures.specs.declared.runs.Passed.{Passed}
use Rattle.pictures.specs.declared.runs.Inside.{Inside}
use Rattle.pictures.proofs.Tests.{both}
use Rattle.pictures.specs.declared.runs.Scanned.TheVariants.{Complete}
use Rattle.pictures.specs.declared.runs.PastWidth.{PastWidth}
use Rattle.pictures.proofs.Scanning.{scan_next, scan_done, scan_past}

-- ---- what a run does to a row
pub fill_part : (w f b : ℕ) → f + b < w → fill_row w f b ≡ Part (f + b)
unfolding fill_row
fill_part w f b l = simp (le-ltb w (f + b) (omega arith), ne_eqb (f + b) w (λ e. omega arith))

pub fill_whole : (w f b : ℕ) → f + b ≡ w → fill_row w f b ≡ Whole
unfolding fill_row
fill_whole w f b e = simp (le-ltb w (f + b) (omega arith), eq-eqb (f + b) w e)

pub fill_over : (w f b : ℕ) → w < f + b → fill_row w f b ≡ Over
unfolding fill_row
fill_over w f b l = simp (lt-ltb w (f + b) l)

-- ---- a state at a run
pub at_run_unfinished : (c : Bool) (f : ℕ) → is_finished (place_of c f) ≡ false
at_run_unfinished true f = refl
at_run_unfinished false f = refl

step_part : (w h : ℕ) (s : Reader) (c : Bool) (f b : ℕ) → f + b < w → step_run w h (at_run s c f) b ≡ Ok (at_run s (not c) (f + b))
unfolding step_run
step_part w h s true f b l = rw (fill_part w f b l)
step_part w h s false f b l = rw (fill_part w f b l)

step_whole : (w h : ℕ) (s : Reader) (c : Bool) (f b : ℕ) → f + b ≡ w → s.row + 1 + s.repeat < h
    → step_run w h (at_run s c f) b ≡ Ok (record { row = s.row + 1 + s.repeat; repeat = 0; at = Count })
unfolding step_run end_row
step_whole w h s true f b e l = rw (fill_whole w f b e, lt-leb _ _ l)
step_whole w h s false f b e l = rw (fill_whole w f b e, lt-leb _ _ l)

step_last : (w h : ℕ) (s : Reader) (c : Bool) (f b : ℕ) → f + b ≡ w → h ≤ s.row + 1 + s.repeat
    → step_run w h (at_run s c f) b ≡ Ok (record { row = h; repeat = 0; at = Finished })
unfolding step_run end_row
step_last w h s true f b e l = rw (fill_whole w f b e, le-leb _ _ l)
step_last w h s false f b e l = rw (fill_whole w f b e, le-leb _ _ l)

pub in_row : (w : ℕ) (p : Place) → is_in_row w p ≡ true → filled_at p ≤ w
in_row w p e = leb-true _ _ (both (is_at_run p) (leb (filled_at p) w) e).1

-- a place that is neither at a run nor finished is at a count
count_again : (p : Place) → (is_at_run p || is_finished p) ≡ false → p ≡ Count
count_again Count e = refl
count_again (White f) e = let z : ◌≡◌ {A = ℕ} 0 1 = cc in absurd (omega arith)
count_again (Black f) e = let z : ◌≡◌ {A = ℕ} 0 1 = cc in absurd (omega arith)
count_again Finished e = let z : ◌≡◌ {A = ℕ} 0 1 = cc in absurd (omega arith)

-- ---- a step, by its place
module _ (w h : ℕ) (s : Reader) (b : ℕ) where
  by_run : (p : Place) → is_at_run p ≡ true → step_at w h s b p ≡ run_in w h s b (is_black p) (filled_at p)
  by_run Count e = let z : ◌≡◌ {A = ℕ} 0 1 = cc in absurd (omega arith)
  by_run (White f) e = refl
  by_run (Black f) e = refl
  by_run Finished e = let z : ◌≡◌ {A = ℕ} 0 1 = cc in absurd (omega arith)

  by_finished : (p : Place) → is_finished p ≡ true → step_at w h s b p ≡ Ok s
  by_finished Count e = let z : ◌≡◌ {A = ℕ} 0 1 = cc in absurd (omega arith)
  by_finished (White f) e = let z : ◌≡◌ {A = ℕ} 0 1 = cc in absurd (omega arith)
  by_finished (Black f) e = let z : ◌≡◌ {A = ℕ} 0 1 = cc in absurd (omega arith)
  by_finished Finished e = refl

  pub step_run_lem : is_at_run s.at ≡ true → step_run w h s b ≡ run_in w h s b (is_black s.at) (filled_at s.at)
  unfolding step_run
  step_run_lem e = by_run s.at e

  pub step_finished : is_finished s.at ≡ true → step_run w h s b ≡ Ok s
  unfolding step_run
  step_finished e = by_finished s.at e

  pub step_count : is_at_run s.at ≡ false → is_finished s.at ≡ false → step_run w h s b ≡ Ok (count_row s b)
  unfolding step_run
  step_count e q = rw (count_again s.at (rw (e, q)))

not_not : (c : Bool) → not (not c) ≡ c
not_not true = refl
not_not false = refl

abbrev pub inside : ℕ → ℕ → Bool → Inside
inside n l c = record { at = n; left = l; black = c }

-- ---- passing
module _ (w h : ℕ) (src : List ℕ) where
  pub passes_none : (n : ℕ) (s : Reader) → n < length src → Passes w h src n s (record { reader = s; at = n })
  passes_none n s l = record { ahead = omega arith; bounded = omega arith; within = λ _. l; scan = λ m. refl }

  pub passes_then : (n : ℕ) (s : Reader) (p q : Passed) → Passes w h src n s p → Passes w h src p.at p.reader q → Passes w h src n s q
  passes_then n s p q x y =
      record {
        ahead = omega (arith, x.ahead, y.ahead);
        bounded = y.bounded;
        within = y.within;
        scan = λ m. x.scan m ∙ y.scan m;
      }

  -- over a byte that the reader goes on behind
  passes_step : (n : ℕ) (s t : Reader) → n + 1 < length src → is_finished s.at ≡ false → step_run w h s (get_or src n 0) ≡ Ok t
      → Passes w h src n s (record { reader = t; at = n + 1 })
  passes_step n s t l e r =
      record { ahead = omega arith; bounded = omega arith; within = λ _. l; scan = λ m. scan_next w h m n s src (omega arith) e t r }

  -- over a repeat count
  pub passes_count : (n : ℕ) (s : Reader) → is_at_run s.at ≡ false → is_finished s.at ≡ false → n + 1 < length src
      → Passes w h src n s (record { reader = count_row s (get_or src n 0); at = n + 1 })
  unfolding step_run
  passes_count n s e f l =
      let q : s.at ≡ Count = count_again s.at (rw (e, f)) in
      passes_step n s (count_row s (get_or src n 0)) l (rw q) (rw q)

  -- over the end of a row that another one follows, and that one's count
  passes_end : (n : ℕ) (s : Reader) (c : Bool) (f : ℕ) → f + get_or src n 0 ≡ w → s.row + 1 + s.repeat < h → n + 2 < length src
      → Passes w h src n (at_run s c f)
      (record { reader = record { row = s.row + 1 + s.repeat; repeat = get_or src (n + 1) 0; at = White 0 }; at = n + 2 })
  passes_end n s c f e b l =
      let t : Reader = record { row = s.row + 1 + s.repeat; repeat = 0; at = Count } in
      let i : n + 1 + 1 ≡ n + 2 = omega arith in
      rw i at
      (passes_then n (at_run s c f) (record { reader = t; at = n + 1 }) _
      (passes_step n (at_run s c f) t (omega arith) (at_run_unfinished c f) (step_whole w h s c f (get_or src n 0) e b))
      (passes_count (n + 1) t refl refl (omega arith)))

  -- over the run that ends the last row, or another row and the next one's count
  module _ (i : Inside) (s : Reader) (e : get_or src i.at 0 ≡ i.left) (q : i.left ≤ w) where
    pub passes_last : h ≤ s.row + 1 + s.repeat → i.at < length src → Passes w h src i.at (at_run s i.black (w - i.left)) (finished_at h (i.at + 1))
    passes_last b l =
        let f = w - i.left in
        record {
          ahead = omega arith;
          bounded = omega arith;
          within = λ q. let z : ◌≡◌ {A = ℕ} 0 1 = cc in absurd (omega arith);
          scan = λ m. scan_next w h m i.at (at_run s i.black f) src l (at_run_unfinished i.black f) _
              (step_last w h s i.black f (get_or src i.at 0) (omega arith) b);
        }

    pub passes_row : s.row + 1 + s.repeat < h → i.at + 2 < length src
        → Passes w h src i.at (at_run s i.black (w - i.left)) (stopped_in w (s.row + 1 + s.repeat) (get_or src (i.at + 1) 0) (inside (i.at + 2) w false))
    passes_row b l =
        let z : w - w ≡ 0 = omega arith in
        rw z (passes_end i.at s i.black (w - i.left) (omega arith) b l)

-- ---- a scan's turn behind what it passed over
module _ (w h : ℕ) (src : List ℕ) (n : ℕ) (s : Reader) (p : Passed) (x : Passes w h src n s p) (m : ℕ) where
  pub passed_done : is_finished p.reader.at ≡ true → scan_from w h (m + n) s (drop n src) ≡ Ok (Complete (m + p.at))
  passed_done e = x.scan m ∙ scan_done w h (m + p.at) p.reader (drop p.at src) e

  module _ (e : is_finished p.reader.at ≡ false) where
    pub passed_next : (t : Reader) → step_run w h p.reader (get_or src p.at 0) ≡ Ok t
        → scan_from w h (m + n) s (drop n src) ≡ scan_from w h (m + (p.at + 1)) t (drop (p.at + 1) src)
    passed_next t q = x.scan m ∙ scan_next w h m p.at p.reader src (x.within e) e t q

    pub passed_past : (q : PastWidth) → step_run w h p.reader (get_or src p.at 0) ≡ Err q → scan_from w h (m + n) s (drop n src) ≡ Err q
    passed_past q r = x.scan m ∙ scan_past w h m p.at p.reader src (x.within e) e q r

-- ---- passing over runs that leave their row unfinished: one, and several at once, by their sum
module _ (src : List ℕ) where
  pub runs_none : (i : Inside) → i.at < length src → PassesRuns src i i
  runs_none i l = record { less = omega arith; passes = λ w h s q. passes_none w h src i.at (at_run s i.black (w - i.left)) l }

  pub runs_then : (i j k : Inside) → PassesRuns src i j → PassesRuns src j k → PassesRuns src i k
  runs_then i j k x y =
      record {
        less = omega (arith, x.less, y.less);
        passes = λ w h s q. passes_then w h src _ _ (record { reader = at_run s j.black (w - j.left); at = j.at }) _ (x.passes w h s q)
            (y.passes w h s (omega (arith, x.less)));
      }

  pub runs_one : (n l : ℕ) (c : Bool) → n + 1 < length src → get_or src n 0 < l → PassesRuns src (inside n l c) (inside (n + 1) (l - get_or src n 0) (not c))
  runs_one n l c t q =
      let b = get_or src n 0 in
      record {
        less = omega arith;
        passes = λ w h s r.
            let e : w - l + b ≡ w - (l - b) = omega arith in
            rw e at (passes_step w h src n _ (at_run s (not c) (w - l + b)) t (at_run_unfinished c (w - l)) (step_part w h s c (w - l) b (omega arith)));
      }

  pub runs_two : (n l : ℕ) (c : Bool) → n + 2 < length src → pair_at src n < l → PassesRuns src (inside n l c) (inside (n + 2) (l - pair_at src n) c)
  runs_two n l c t q =
      let a = get_or src n 0 in
      let b = get_or src (n + 1) 0 in
      let i : n + 1 + 1 ≡ n + 2 = omega arith in
      let j : l - a - b ≡ l - (a + b) = omega arith in
      rw (not_not c, i, j) at
      (runs_then (inside n l c) (inside (n + 1) (l - a) (not c)) (inside (n + 1 + 1) (l - a - b) (not (not c)))
      (runs_one n l c (omega arith) (omega arith)) (runs_one (n + 1) (l - a) (not c) (omega arith) (omega arith)))

  -- the colour after so many runs
  abbrev flipped : ℕ → Bool → Bool
  flipped zero c = c
  flipped (suc k) c = flipped k (not c)

  eight_flipped : (c : Bool) → flipped 8 c ≡ c
  eight_flipped true = refl
  eight_flipped false = refl

  -- the runs xs, which leave the row unfinished, all at once
  runs_all : (xs rest : List ℕ) (n l : ℕ) (c : Bool) → drop n src ≡ xs ++ rest → n + length xs < length src → sum xs < l
      → PassesRuns src (inside n l c) (inside (n + length xs) (l - sum xs) (flipped (length xs) c))
  runs_all [] rest n l c e t q = rw (add-zero, sub-zero) (runs_none (inside n l c) (omega arith))
  runs_all (x ∷ xs) rest n l c e t q =
      let m : sum (x ∷ xs) ≡ x + sum xs = sum_by-cons (λ y. y) x xs in
      let h : get_or src n 0 ≡ x = sym (get_or-drop n src 0 0 ∙ rw add-zero) ∙ ap (λ (d : List ℕ). get_or d 0 0) e in
      let d : drop (n + 1) src ≡ xs ++ rest = sym (drop-drop 1 n src) ∙ ap (drop 1) e in
      let i : n + 1 + length xs ≡ n + length (x ∷ xs) = omega arith in
      let j : l - get_or src n 0 - sum xs ≡ l - sum (x ∷ xs) = omega arith in
      rw (i, j) at
      (runs_then (inside n l c) (inside (n + 1) (l - get_or src n 0) (not c)) _
      (runs_one n l c (omega arith) (omega arith)) (runs_all xs rest (n + 1) (l - get_or src n 0) (not c) d (omega arith) (omega arith)))

  pub runs_eight : (n l : ℕ) (c : Bool) → n + 8 < length src → sum (take 8 (drop n src)) < l
      → PassesRuns src (inside n l c) (inside (n + 8) (l - sum (take 8 (drop n src))) c)
  runs_eight n l c t q =
      let xs : List ℕ = take 8 (drop n src) in
      let k : length xs ≡ 8 = length-take-le 8 (drop n src) (simp length-drop (omega arith)) in
      rw (k, eight_flipped c) at (runs_all xs (drop 8 (drop n src)) n l c (sym (take-append-drop 8 (drop n src))) (omega arith) q)

  -- a byte is left at the run that is gone on from
  pub runs_within : (i j : Inside) → PassesRuns src i j → j.at < length src
  runs_within i j x = (x.passes i.left 0 start (omega arith)).within (at_run_unfinished j.black (i.left - j.left))

  pub runs_ahead : (i j : Inside) → PassesRuns src i j → i.at ≤ j.at
  runs_ahead i j x = (x.passes i.left 0 start (omega arith)).ahead
