-- Document 02, W-210: "A program reads one store from standard input and prints one line per code that occurs, by rising code, under the header
-- `code count dots min max sum mean rest`; for anything else it prints only `not a store`."
use Rattle.std.specs.Prelude.{ℕ, zero, suc, ◌+◌, ◌*◌, List, [], ◌∷◌, ◌++◌, cond, eqb}
use Rattle.form.specs.Layout.{last_code}
use Rattle.form.specs.Model.{Rec}
use Rattle.form.specs.Records.{is_store, records_in}
use Rattle.text.specs.Column.{space, newline, number_room, column}
use Rattle.collection.specs.Figures.{figure_in, mean, rest}
use Rattle.collection.specs.declared.figure.Figure.{Figure}

-- "code count dots min max sum mean rest", and the end of the line
abbrev pub figures_heading : List ℕ
figures_heading =
    99 ∷ 111 ∷ 100 ∷ 101 ∷ 32 ∷
    99 ∷ 111 ∷ 117 ∷ 110 ∷ 116 ∷ 32 ∷
    100 ∷ 111 ∷ 116 ∷ 115 ∷ 32 ∷
    109 ∷ 105 ∷ 110 ∷ 32 ∷
    109 ∷ 97 ∷ 120 ∷ 32 ∷
    115 ∷ 117 ∷ 109 ∷ 32 ∷
    109 ∷ 101 ∷ 97 ∷ 110 ∷ 32 ∷
    114 ∷ 101 ∷ 115 ∷ 116 ∷ 10 ∷ []

-- "not a store", and the end of the line
abbrev pub not_store : List ℕ
not_store = 110 ∷ 111 ∷ 116 ∷ 32 ∷ 97 ∷ 32 ∷ 115 ∷ 116 ∷ 111 ∷ 114 ∷ 101 ∷ 10 ∷ []

-- a code and its figure
unfoldable pub first_columns : ℕ → ℕ → ℕ → ℕ → List ℕ
first_columns code count dots least = column code space ++ (column count space ++ (column dots space ++ column least space))

unfoldable pub last_columns : ℕ → ℕ → ℕ → ℕ → List ℕ
last_columns greatest sum mean rest = column greatest space ++ (column sum space ++ (column mean space ++ column rest newline))

unfoldable pub figure_line : ℕ → Figure → List ℕ
figure_line c f = first_columns c f.count f.dots f.least ++ last_columns f.greatest f.sum (mean f.sum f.count) (rest f.sum f.count)

-- "one line per code that occurs"
unfoldable pub code_line : ℕ → Figure → List ℕ
code_line c f = cond (eqb f.count 0) [] (figure_line c f)

-- "by rising code": those of the codes below n
unfoldable pub figure_lines : List Rec → ℕ → List ℕ
figure_lines rs zero = []
figure_lines rs (suc c) = figure_lines rs c ++ code_line c (figure_in rs c)

-- what is written for this input; one longer than 65,536 bytes is no store
unfoldable pub figures_table : List ℕ → List ℕ
figures_table input = cond (is_store input) (figures_heading ++ figure_lines (records_in input) (last_code + 1)) not_store

-- room for a line of eight numbers, and for every text: the heading, and a line for each code
abbrev pub line_room : ℕ
line_room = 8 * number_room

abbrev pub table_room : ℕ
table_room = 256 + line_room * (last_code + 1)
