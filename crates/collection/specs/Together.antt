-- For the code alone: what records add to the figures of a code, and the figures of several buffers handed in one by one. No claim names anything of
-- this file.
use Rattle.std.specs.Prelude.{ℕ, zero, suc, ◌+◌, ◌<◌, ◌≡◌, List, [], ◌∷◌, ◌++◌, take, drop}
use Rattle.form.specs.Layout.{last_code}
use Rattle.form.specs.Num.{low_first, field}
use Rattle.form.specs.Model.{Rec}
use Rattle.form.specs.Records.{records_in}
use Rattle.collection.specs.Figures.{joined, figure_in, mean, rest, code_bytes, code_place, figure_at, bytes_of_figure, adding_figures}

-- the bytes of code c
abbrev pub code_bytes_in : List ℕ → ℕ → List ℕ
code_bytes_in b c = take code_bytes (drop (code_place c) b)

-- what the characters of code c among records make of its numbers in b
pub record Adds (rs : List Rec) (c : ℕ) (b after : List ℕ) : Type 0 where
  pub figure : figure_at after c ≡ joined (figure_at b c) (figure_in rs c)
  pub mean : 0 < (figure_in rs c).count → field 8 (code_place c + 40) after ≡ mean (figure_at after c).sum (figure_at after c).count
  pub rest : 0 < (figure_in rs c).count → field 8 (code_place c + 48) after ≡ rest (figure_at after c).sum (figure_at after c).count
  pub lacking : (figure_in rs c).count ≡ 0 → code_bytes_in after c ≡ code_bytes_in b c

-- buffers handed in one by one
unfoldable pub handed_in : List (List ℕ) → List ℕ → List ℕ
handed_in [] b = b
handed_in (s ∷ ss) b = handed_in ss (adding_figures s b).bytes

unfoldable pub all_records : List (List ℕ) → List Rec
all_records [] = []
all_records (s ∷ ss) = records_in s ++ all_records ss

-- the figures of n stores with these records, as bytes
unfoldable pub codes_of : List Rec → ℕ → List ℕ
codes_of rs zero = []
codes_of rs (suc c) = codes_of rs c ++ bytes_of_figure (figure_in rs c)

abbrev pub figures_of : ℕ → List Rec → List ℕ
figures_of n rs = low_first 8 n ++ codes_of rs (last_code + 1)
