-- Document 01, "Choosing": the steps, each among the fonts left. A comment with a number is the document's line.
use Rattle.std.specs.Prelude.{◌≡◌, ℕ, ◌+◌, ◌-◌, ◌*◌, Bool, cond, not, ◌&&◌, ◌||◌, leb, List, [], ◌∷◌, pos, ◌==◌, int_le, int_lt, nat_le, Result, Ok, Err}
use Rattle.std.specs.Bool.{beq}
use Rattle.blocks.specs.Header.{symbol_set, style, typeface, orientation, coarse_resolution}
use Rattle.choice.specs.Candidates.{Candidate}
use Rattle.choice.specs.Lists.{having, every, or_if_empty, prefer, least, greatest}
use Rattle.choice.specs.Request.{asked_weight}
use Rattle.choice.specs.Fields.{header_of, is_fixed, is_fine, quarter_dot_parts, compared_pitch, compared_height, weight_of}
use Rattle.choice.specs.declared.Request.{Request}
use Rattle.choice.specs.declared.Chosen.{Chosen}
use Rattle.refusals.specs.declared.Refused.{Refused}
use Rattle.refusals.specs.declared.Refused.TheVariants.{NoneToChoose}

-- "8U (Roman-8) is 277"
abbrev pub roman8 : ℕ
roman8 = 277

unfoldable pub has_set : ℕ → Candidate → Bool
has_set n f = symbol_set (header_of f) == n

-- W-206: "In mode 300 the 600 dpi fonts take no part in choosing"
unfoldable pub in_mode : Request → Candidate → Bool
in_mode r f = not (r.mode == coarse_resolution && is_fine f)

-- "A font takes part exactly if it has the set asked for or Roman-8." W-206: "takes part in this mode"
unfoldable pub takes_part : Request → Candidate → Bool
takes_part r f = (has_set r.symbol_set f || has_set roman8 f) && in_mode r f

-- 1. The set asked for; if none has it, Roman-8; if none, 11.
--    Of the fonts that take part, those without the set asked for have Roman-8.
unfoldable pub by_set : Request → List Candidate → List Candidate
by_set r l = prefer (has_set r.symbol_set) (having (takes_part r) l)

-- 2. The spacing asked for, else the other.
unfoldable pub has_spacing : Request → Candidate → Bool
has_spacing r f = beq (is_fixed f) (r.spacing == 0)

unfoldable pub by_spacing : Request → List Candidate → List Candidate
by_spacing r l = prefer (has_spacing r) l

-- 3. Pitch, only if those left are fixed. For kept pitch P: if some have R x P at most the limit, those with the greatest P among them;
--    else those with the least P. W-206: "the pitch test is R x pitch at most 61,440,000".
abbrev pub pitch_test_limit : ℕ
pitch_test_limit = 61440000

unfoldable pub qualifies : Request → Candidate → Bool
qualifies r f = nat_le (r.pitch * compared_pitch f) pitch_test_limit

unfoldable pub by_pitch : Request → List Candidate → List Candidate
by_pitch r l = cond (every is_fixed l) (or_if_empty (greatest leb compared_pitch (having (qualifies r) l)) (least leb compared_pitch l)) l

-- 4. The least distance. W-206: "the height distance is |256 x H - 3 x height| with 6,400 or less as 0".
--    Heights are compared in 2400ths of an inch, the quarter-dots of 600 dpi: one is 3 hundredths of a point. A quarter of a point is 25
--    hundredths, in 256ths of a hundredth 6,400.
abbrev pub quarter_dot : ℕ
quarter_dot = 3

abbrev pub quarter_point : ℕ
quarter_point = 6400

-- |a - b|: a difference of natural numbers is 0 where it would be negative
abbrev pub distance : ℕ → ℕ → ℕ
distance a b = (a - b) + (b - a)

abbrev pub over_quarter_point : ℕ → ℕ
over_quarter_point d = cond (nat_le d quarter_point) 0 d

unfoldable pub height_distance : ℕ → ℕ → ℕ
height_distance H height = over_quarter_point (distance (quarter_dot_parts * H) (quarter_dot * height))

unfoldable pub height_off : Request → Candidate → ℕ
height_off r f = height_distance r.height (compared_height f)

unfoldable pub by_height : Request → List Candidate → List Candidate
by_height r l = least leb (height_off r) l

-- 5. The style, if any has it.
unfoldable pub has_style : Request → Candidate → Bool
has_style r f = style (header_of f) == r.style

unfoldable pub by_style : Request → List Candidate → List Candidate
by_style r l = prefer (has_style r) l

-- 6. Weight: exact; else, for a request of 0 or more, the next thicker, failing that the nearest thinner;
--    for a request below 0, the next thinner, failing that the nearest thicker.
unfoldable pub exact : Request → Candidate → Bool
exact r f = int_le (asked_weight r) (weight_of f) && int_le (weight_of f) (asked_weight r)

unfoldable pub is_thicker : Request → Candidate → Bool
is_thicker r f = int_lt (asked_weight r) (weight_of f)

unfoldable pub is_thinner : Request → Candidate → Bool
is_thinner r f = int_lt (weight_of f) (asked_weight r)

-- the nearest weight on a side is the next one on it
unfoldable pub nearest_thicker : Request → List Candidate → List Candidate
nearest_thicker r l = least int_le weight_of (having (is_thicker r) l)

unfoldable pub nearest_thinner : Request → List Candidate → List Candidate
nearest_thinner r l = greatest int_le weight_of (having (is_thinner r) l)

unfoldable pub by_weight : Request → List Candidate → List Candidate
by_weight r l =
    or_if_empty (having (exact r) l)
    (cond (int_le (pos 0) (asked_weight r)) (or_if_empty (nearest_thicker r l) (nearest_thinner r l)) (or_if_empty (nearest_thinner r l) (nearest_thicker r l)))

-- 7. The typeface, if any has it.
unfoldable pub has_typeface : Request → Candidate → Bool
has_typeface r f = typeface (header_of f) == r.typeface

unfoldable pub by_typeface : Request → List Candidate → List Candidate
by_typeface r l = prefer (has_typeface r) l

-- W-206: "in mode 600 a 600 dpi font goes before a 300 dpi one, as a new step between typeface and orientation".
--    In mode 300 no 600 dpi font takes part, and the step leaves all of those left.
unfoldable pub by_resolution : List Candidate → List Candidate
by_resolution l = prefer is_fine l

-- W-208: "A soft font goes before a cartridge font just ahead of the orientation step".
--    Of the fonts of one store the step leaves all.
unfoldable pub by_store : List Candidate → List Candidate
by_store l = prefer (λ f. f.soft) l

-- 8. The page's orientation, if any has it. (W-203: 0 to 3.)
unfoldable pub has_orientation : Request → Candidate → Bool
has_orientation r f = orientation (header_of f) == r.orientation

unfoldable pub by_orientation : Request → List Candidate → List Candidate
by_orientation r l = prefer (has_orientation r) l

-- 9. The lowest font number.
unfoldable pub by_number : List Candidate → List Candidate
by_number l = least leb (λ f. f.number) l

-- the steps in their order
unfoldable pub steps : Request → List (List Candidate → List Candidate)
steps r =
    by_set r
    ∷ by_spacing r
    ∷ by_pitch r
    ∷ by_height r
    ∷ by_style r
    ∷ by_weight r
    ∷ by_typeface r
    ∷ by_resolution
    ∷ by_store
    ∷ by_orientation r
    ∷ by_number
    ∷ []

-- "Elimination, each step among the fonts left"
unfoldable pub worked : List (List Candidate → List Candidate) → List Candidate → List Candidate
worked [] l = l
worked (step ∷ later) l = worked later (step l)

unfoldable pub fonts_left : Request → List Candidate → List Candidate
fonts_left r l = worked (steps r) l

-- what choosing answers: the font, or why there is none
abbrev pub Choice : Type 0
Choice = Result Chosen Refused

-- the font by its store and its number
abbrev pub chosen : Bool → ℕ → Choice
chosen p n = Ok (record { soft = p; number = n })

-- the store and the number of the font that is left, or that there is none to choose
unfoldable pub first_number : List Candidate → Choice
first_number [] = Err NoneToChoose
first_number (f ∷ l) = chosen f.soft f.number

unfoldable pub choice : Request → List Candidate → Choice
choice r l = first_number (fonts_left r l)

-- "A *beats* B if these steps, worked on those of the two alone that take part, leave A."
unfoldable pub Beats : Request → Candidate → Candidate → Type 0
Beats r a b = fonts_left r (having (takes_part r) (a ∷ b ∷ [])) ≡ a ∷ []
