-- Document 01, "Rows", class 2: what the reader does with each byte, and with a run of them.
use Rattle.std.specs.Prelude.{ℕ, ◌+◌, Bool, true, false, cond, not, Option, Some, None, Result, Ok, Err, List, [], ◌∷◌, ◌==◌, nat_le, nat_lt}
use Rattle.pictures.specs.declared.runs.Place.{Place}
use Rattle.pictures.specs.declared.runs.Place.TheVariants.{Count, White, Black, Finished}
use Rattle.pictures.specs.declared.runs.Reader.{Reader}
use Rattle.pictures.specs.declared.runs.Filled.{Filled}
use Rattle.pictures.specs.declared.runs.Filled.TheVariants.{Over, Whole, Part}
use Rattle.pictures.specs.declared.runs.PastWidth.{PastWidth}
use Rattle.pictures.specs.declared.runs.Scanned.{Scanned}
use Rattle.pictures.specs.declared.runs.Scanned.TheVariants.{Complete, Open}

-- a run of b dots where f of w dots are filled: past the width, the row is whole, or a part of it
unfoldable pub fill_row : ℕ → ℕ → ℕ → Filled
fill_row w f b = cond (nat_lt w (f + b)) Over (cond (f + b == w) Whole (Part (f + b)))

-- the row of a picture of h rows is whole: "drawn once and then as often again as the count says". The next row's count, or finished.
unfoldable pub end_row : ℕ → Reader → Reader
end_row h s =
    cond (nat_le h (s.row + 1 + s.repeat))
    (record { row = h; repeat = 0; at = Finished })
    (record { row = s.row + 1 + s.repeat; repeat = 0; at = Count })

abbrev pub start : Reader
start = record { row = 0; repeat = 0; at = Count }

abbrev pub on_fill : {A : Type 0} → Filled → A → A → (ℕ → A) → A
on_fill Over over whole part = over
on_fill Whole over whole part = whole
on_fill (Part n) over whole part = part n

-- the place in a row of the next run's colour
abbrev pub place_of : Bool → ℕ → Place
place_of false f = White f
place_of true f = Black f

-- a run of b dots in a row, where f dots are filled before it
abbrev pub past_width : ℕ → ℕ → ℕ → PastWidth
past_width row f b = record { row = row; filled = f; run = b }

-- "white and black runs in turn": the byte b is a run, black or not, where f dots are filled
abbrev pub run_in : ℕ → ℕ → Reader → ℕ → Bool → ℕ → Result Reader PastWidth
run_in w h s b c f =
    on_fill (fill_row w f b) (Err (past_width s.row f b)) (Ok (end_row h s)) (λ n. Ok (record { row = s.row; repeat = s.repeat; at = place_of (not c) n }))

-- "a repeat count, then white and black runs in turn, white first, each one byte, until they sum to the width"
abbrev pub step_at : ℕ → ℕ → Reader → ℕ → Place → Result Reader PastWidth
step_at w h s b Count = Ok (record { row = s.row; repeat = b; at = White 0 })
step_at w h s b (White f) = run_in w h s b false f
step_at w h s b (Black f) = run_in w h s b true f
step_at w h s b Finished = Ok s

-- one byte b of a picture w dots wide and h rows high, read in the state s
unfoldable pub step_run : ℕ → ℕ → Reader → ℕ → Result Reader PastWidth
step_run w h s b = step_at w h s b s.at

abbrev pub is_finished : Place → Bool
is_finished Count = false
is_finished (White f) = false
is_finished (Black f) = false
is_finished Finished = true

-- the bytes used, if the picture is complete
abbrev pub used_of : Scanned → Option ℕ
used_of (Complete k) = Some k
used_of (Open s) = None

abbrev pub on_step : Result Reader PastWidth → (Reader → Result Scanned PastWidth) → Result Scanned PastWidth
on_step (Ok s) k = k s
on_step (Err p) k = Err p

-- the bytes xs read from the state s, where n bytes were used before: complete with the bytes used, open with its state, or past the width
unfoldable pub scan_from : ℕ → ℕ → ℕ → Reader → List ℕ → Result Scanned PastWidth
scan_from w h n s [] = cond (is_finished s.at) (Ok (Complete n)) (Ok (Open s))
scan_from w h n s (b ∷ xs) = cond (is_finished s.at) (Ok (Complete n)) (on_step (step_run w h s b) (λ t. scan_from w h (n + 1) t xs))
