-- Document 02, W-210, "Figures for the collection": the figures of characters, code by code, the bytes that they stand in, and the call.
use Rattle.std.specs.Prelude.{ℕ, zero, suc, ◌+◌, ◌*◌, ◌-◌, ◌/◌, ◌%◌, min, max, List, [], ◌∷◌, ◌++◌, Bool, true, ◌&&◌, cond, eqb, leb, ltb, length, take, drop}
use Rattle.blocks.specs.Character.{class, width, height, delta_x}
use Rattle.form.specs.Layout.{most_store, mark_record, font_record, character_record, last_code}
use Rattle.form.specs.Num.{low_first, field}
use Rattle.form.specs.Model.{Rec, font, character, decode}
use Rattle.form.specs.Checks.{on_store, checked}
use Rattle.collection.specs.declared.figure.Figure.{Figure}
use Rattle.blackdots.specs.Black.{black_dots}

-- "A code with no character has 0 in every figure."
abbrev pub no_figure : Figure
no_figure = record { count = 0; dots = 0; least = 0; greatest = 0; sum = 0 }

-- the lesser of two widths, where "a least width of 0 handed in counts as none"
abbrev pub lesser_width : ℕ → ℕ → ℕ
lesser_width zero w = w
lesser_width (suc v) zero = suc v
lesser_width (suc v) (suc w) = suc (min v w)

-- the figures of two lots of characters together
unfoldable pub joined : Figure → Figure → Figure
joined a b =
    record {
      count = a.count + b.count;
      dots = a.dots + b.dots;
      least = lesser_width a.least b.least;
      greatest = max a.greatest b.greatest;
      sum = a.sum + b.sum;
    }

-- of one character, by its descriptor and its data: "how many characters there are, the total of black dots, the least and greatest width, the sum of
-- delta X"
abbrev pub figure_of : List ℕ → List ℕ → Figure
figure_of h d = record { count = 1; dots = black_dots (class h) (width h) (height h) d; least = width h; greatest = width h; sum = delta_x h }

-- of all characters with code c among records
unfoldable pub figure_in : List Rec → ℕ → Figure
figure_in [] c = no_figure
figure_in (font n h ∷ rs) c = figure_in rs c
figure_in (character n k h d ∷ rs) c = cond (eqb k c) (joined (figure_of h d) (figure_in rs c)) (figure_in rs c)

-- "the mean delta X as quotient and remainder": of the sum and count afterwards
abbrev pub mean : ℕ → ℕ → ℕ
mean sum zero = 0
mean sum (suc n) = sum / suc n

abbrev pub rest : ℕ → ℕ → ℕ
rest sum zero = 0
rest sum (suc n) = sum % suc n

-- "the stores so far, then for codes 0 to 255 these seven in order, 8 bytes each, low byte first"
abbrev pub number_bytes : ℕ
number_bytes = 8

abbrev pub code_bytes : ℕ
code_bytes = 7 * number_bytes

abbrev pub figures_bytes : ℕ
figures_bytes = number_bytes + (last_code + 1) * code_bytes

unfoldable pub bytes_of_figure : Figure → List ℕ
bytes_of_figure f = low_first 8 f.count ++ (low_first 8 f.dots ++ (low_first 8 f.least ++ (low_first 8 f.greatest ++ (low_first 8 f.sum ++ (low_first 8 (mean f.sum f.count) ++ low_first 8 (rest f.sum f.count))))))

-- where those of code c begin
abbrev pub code_place : ℕ → ℕ
code_place c = number_bytes + c * code_bytes

-- "the stores so far"
abbrev pub stores_in : List ℕ → ℕ
stores_in b = field 8 0 b

-- the figure whose numbers begin at a place; mean and rest are not looked at
unfoldable pub figure_from : List ℕ → ℕ → Figure
figure_from b at = record { count = field 8 at b; dots = field 8 (at + 8) b; least = field 8 (at + 16) b; greatest = field 8 (at + 24) b; sum = field 8 (at + 32) b }

abbrev pub figure_at : List ℕ → ℕ → Figure
figure_at b c = figure_from b (code_place c)

-- "Codes a store lacks keep their bytes": code c after a store with these records
unfoldable pub code_after : List ℕ → List Rec → ℕ → List ℕ
code_after b rs c = cond (eqb (figure_in rs c).count 0) (take code_bytes (drop (code_place c) b)) (bytes_of_figure (joined (figure_at b c) (figure_in rs c)))

unfoldable pub codes_after : List ℕ → List Rec → ℕ → List ℕ
codes_after b rs zero = []
codes_after b rs (suc c) = codes_after b rs c ++ code_after b rs c

unfoldable pub figures_after : List ℕ → List Rec → List ℕ
figures_after b rs = low_first 8 (stores_in b + 1) ++ codes_after b rs (last_code + 1)

-- "at most (length - 12) / 108, rounded down": a font has at most one character of a code
abbrev pub most_of_code : ℕ → ℕ
most_of_code n = (n - mark_record) / (font_record + character_record)

-- "dots by at most 262,144 times and its sum by at most 32,767 times that bound"
abbrev pub most_dots : ℕ
most_dots = 262144

abbrev pub most_delta : ℕ
most_delta = 32767

-- "a count, dots or sum handed in above what the stores so far allow at 65,536 bytes"
abbrev pub within_bound : ℕ → Figure → Bool
within_bound m f = leb f.count m && leb f.dots (m * most_dots) && leb f.sum (m * most_delta)

unfoldable pub codes_within : List ℕ → ℕ → ℕ → Bool
codes_within b m zero = true
codes_within b m (suc c) = codes_within b m c && within_bound m (figure_at b c)

abbrev pub most_stores : ℕ
most_stores = 64

-- the most characters of a code that 64 stores have, each of 65,536 bytes
abbrev pub most_in_stores : ℕ
most_in_stores = most_stores * most_of_code most_store

-- figures that are no reason to refuse
unfoldable pub figures_taken : List ℕ → Bool
figures_taken b = eqb (length b) figures_bytes && ltb (stores_in b) most_stores && codes_within b (stores_in b * most_of_code most_store) (last_code + 1)

-- ── the call: what it answers, and the figures afterwards
pub record Adding : Type 0 where
  pub answer : ℕ
  pub bytes : List ℕ

-- a refusal leaves the figures as they were
abbrev pub not_added : List ℕ → ℕ → Adding
not_added b k = record { answer = k; bytes = b }

-- "Refusals: 1, then 2 for figures of another length, the 65th store, or a count, dots or sum handed in above what the stores so far allow at 65,536
-- bytes."
unfoldable pub adding_figures : List ℕ → List ℕ → Adding
adding_figures s b =
    on_store (not_added b) (decode s)
    (λ st. checked (not_added b) (figures_taken b) 2 (record { answer = 0; bytes = figures_after b st.recs }))
