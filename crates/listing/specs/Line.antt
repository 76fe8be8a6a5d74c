-- Document 01, "The stream", the listing program: the lines of fonts. "Fields are the kept ones, chars the number of characters."
use Rattle.std.specs.Prelude.{ℕ, List, [], ◌∷◌, ◌++◌, replicate}
use Rattle.blocks.specs.Field.{byte, high_low}
use Rattle.blocks.specs.Header.{header_bytes, symbol_set, spacing, pitch, height, style, stroke_weight, typeface}
use Rattle.store.specs.Answer.{Telling}
use Rattle.store.specs.Calls.{telling_font}
use Rattle.form.specs.Fonts.{Font}
use Rattle.text.specs.Column.{space, newline, column}
use Rattle.listing.specs.Column.{signed_column}

-- the bytes at two places, high and low
unfoldable pub word_from : List ℕ → ℕ → ℕ → ℕ
word_from k hi lo = high_low (byte k hi) (byte k lo)

-- set, spacing, pitch and height of a font, by its kept bytes
unfoldable pub measures : List ℕ → List ℕ
measures k = column (symbol_set k) space ++ (column (spacing k) space ++ (column (pitch k) space ++ column (height k) space))

-- "style word (byte 4 high, byte 23 low)", "stroke weight (24, signed)", "The typeface is byte 26 high, 25 low."
unfoldable pub looks : List ℕ → List ℕ
looks k = column (style k) space ++ (signed_column (stroke_weight k) space ++ column (typeface k) space)

-- a font by its number, its kept bytes and the number of its characters
unfoldable pub line : ℕ → List ℕ → ℕ → List ℕ
line n k chars = column n space ++ (measures k ++ (looks k ++ column chars newline))

abbrev pub told_line : ℕ → Telling → List ℕ
told_line n t = line n t.out t.count

-- font n of the store s, as it is told; no column for the resolution (W-206)
unfoldable pub font_line : List ℕ → ℕ → List ℕ
font_line s n = told_line n (telling_font n s (replicate header_bytes 0))

-- a line per font
unfoldable pub lines : List ℕ → List Font → List ℕ
lines s [] = []
lines s (f ∷ l) = font_line s f.number ++ lines s l
