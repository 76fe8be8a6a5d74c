-- What choosing reads of a kept font. Where the fields of a header stand is the block readers' definition.
use Rattle.std.specs.Prelude.{ℕ, ◌+◌, ◌*◌, ◌%◌, Bool, cond, List, [], ◌∷◌, ℤ, ◌==◌}
use Rattle.blocks.specs.Field.{signed}
use Rattle.blocks.specs.Header.{spacing, pitch, height, stroke_weight, pitch_extended, height_extended, resolution, fine_resolution}
use Rattle.choice.specs.Candidates.{Candidate}

-- numbers as bytes: those of a buffer are below 256, so that each remainder is the byte itself
unfoldable pub as_bytes : List ℕ → List ℕ
as_bytes [] = []
as_bytes (b ∷ k) = b % 256 ∷ as_bytes k

-- the kept header of a font
abbrev pub header_of : Candidate → List ℕ
header_of f = as_bytes f.kept

-- fixed, else proportional
unfoldable pub is_fixed : Candidate → Bool
is_fixed f = spacing (header_of f) == 0

-- W-206: a 600 dpi font, else one of 300 dpi
unfoldable pub is_fine : Candidate → Bool
is_fine f = resolution (header_of f) == fine_resolution

-- W-202: the extended bytes count "256ths of a quarter-dot"
abbrev pub quarter_dot_parts : ℕ
quarter_dot_parts = 256

-- W-206: "A 600 dpi quarter-dot is half as wide, so pitch and height are compared in 2400ths of an inch: a 300 dpi number of W-202 counts
-- twice, a 600 dpi one once"
abbrev pub in2400ths : ℕ → ℕ → ℕ
in2400ths resolution n = cond (resolution == fine_resolution) n (2 * n)

-- the number that is compared, by the resolution, a field and its extended byte.
-- W-202: "Pitch becomes 256 x field + byte 40, height 256 x field + byte 41."
abbrev pub compared : ℕ → ℕ → ℕ → ℕ
compared resolution field extended = in2400ths resolution (quarter_dot_parts * field + extended)

unfoldable pub compared_pitch : Candidate → ℕ
compared_pitch f = compared (resolution (header_of f)) (pitch (header_of f)) (pitch_extended (header_of f))

unfoldable pub compared_height : Candidate → ℕ
compared_height f = compared (resolution (header_of f)) (height (header_of f)) (height_extended (header_of f))

unfoldable pub weight_of : Candidate → ℤ
weight_of f = signed 8 (stroke_weight (header_of f))
