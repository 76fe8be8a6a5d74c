-- Document 01, "The stream", the listing program: the last line. "After 13 the last line ends ` stopped P`, P the place."
use Rattle.std.specs.Prelude.{ℕ, List, [], ◌∷◌, ◌++◌, cond, eqb}
use Rattle.stream.specs.Digits.{decimal_of}
use Rattle.stream.specs.Reading.{StreamAnswer}
use Rattle.text.specs.Column.{space, newline, column}

-- "done "
abbrev pub done_word : List ℕ
done_word = 100 ∷ 111 ∷ 110 ∷ 101 ∷ 32 ∷ []

-- "refused "
abbrev pub refused_word : List ℕ
refused_word = 114 ∷ 101 ∷ 102 ∷ 117 ∷ 115 ∷ 101 ∷ 100 ∷ 32 ∷ []

-- " stopped "
abbrev pub stopped_word : List ℕ
stopped_word = 32 ∷ 115 ∷ 116 ∷ 111 ∷ 112 ∷ 112 ∷ 101 ∷ 100 ∷ 32 ∷ []

unfoldable pub counts : ℕ → ℕ → List ℕ
counts done refused = done_word ++ (column done space ++ (refused_word ++ decimal_of refused))

unfoldable pub stopped : ℕ → List ℕ
stopped p = stopped_word ++ column p newline

unfoldable pub summary : StreamAnswer → List ℕ
summary r = counts r.done r.refused ++ cond (eqb r.refusal 13) (stopped r.place) (newline ∷ [])
