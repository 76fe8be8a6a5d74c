-- For the code alone: how a scan passes over whole rows, and over runs that leave their row unfinished. No public contract names anything of this file.
use Rattle.std.specs.Prelude.{◌≡◌, ℕ, ◌+◌, ◌-◌, ◌<◌, ◌≤◌, Bool, true, false, ◌&&◌, List, length, drop, nat_le, slice_index}
use Rattle.pictures.specs.declared.runs.Place.{Place}
use Rattle.pictures.specs.declared.runs.Place.TheVariants.{Count, White, Black, Finished}
use Rattle.pictures.specs.declared.runs.Reader.{Reader}
use Rattle.pictures.specs.declared.runs.Passed.{Passed}
use Rattle.pictures.specs.declared.runs.Inside.{Inside}
use Rattle.pictures.specs.Runs.{place_of, is_finished, scan_from}

-- whether a place is at a run, that run's colour, and the dots filled before it
abbrev pub is_at_run : Place → Bool
is_at_run Count = false
is_at_run (White f) = true
is_at_run (Black f) = true
is_at_run Finished = false

abbrev pub is_black : Place → Bool
is_black Count = false
is_black (White f) = false
is_black (Black f) = true
is_black Finished = false

abbrev pub filled_at : Place → ℕ
filled_at Count = 0
filled_at (White f) = f
filled_at (Black f) = f
filled_at Finished = 0

-- at a run before which no more dots are filled than the w of the row
abbrev pub is_in_row : ℕ → Place → Bool
is_in_row w p = is_at_run p && nat_le (filled_at p) w

-- the reader s at a run of its row
abbrev pub at_run : Reader → Bool → ℕ → Reader
at_run s c f = record { row = s.row; repeat = s.repeat; at = place_of c f }

-- the reader s behind the repeat count b
abbrev pub count_row : Reader → ℕ → Reader
count_row s b = record { row = s.row; repeat = b; at = White 0 }

-- the sums of the two and of the four bytes from place n of src on
abbrev pub pair_at : List ℕ → ℕ → ℕ
pair_at src n = slice_index src n + slice_index src (n + 1)

abbrev pub four_at : List ℕ → ℕ → ℕ
four_at src n = pair_at src n + pair_at src (n + 2)

-- a scan that stops at the run i of a row of w dots, or whose picture of h rows is complete with the bytes before place n
abbrev pub stopped_in : ℕ → ℕ → ℕ → Inside → Passed
stopped_in w row repeat i = record { reader = record { row = row; repeat = repeat; at = place_of i.black (w - i.left) }; at = i.at }

abbrev pub finished_at : ℕ → ℕ → Passed
finished_at h n = record { reader = record { row = h; repeat = 0; at = Finished }; at = n }

-- a scan of src that is at place n in the state s may go on from p instead: a byte is left there unless p is finished, and the answer is the same
pub record Passes (w h : ℕ) (src : List ℕ) (n : ℕ) (s : Reader) (p : Passed) : Type 0 where
  pub ahead : n ≤ p.at
  pub bounded : p.at ≤ length src
  pub within : is_finished p.reader.at ≡ false → p.at < length src
  pub scan : (m : ℕ) → scan_from w h (m + n) s (drop n src) ≡ scan_from w h (m + p.at) p.reader (drop p.at src)

-- a scan that is at the run i of a row, whatever its width, may go on from the run j of it instead
pub record PassesRuns (src : List ℕ) (i j : Inside) : Type 0 where
  pub less : j.left ≤ i.left
  pub passes : (w h : ℕ) (s : Reader) → i.left ≤ w
      → Passes w h src i.at (at_run s i.black (w - i.left)) (record { reader = at_run s j.black (w - j.left); at = j.at })
