-- W-202's own example, by computing. Assumes nothing.
use Rattle.std.proofs.Common.{◌≡◌, ℕ, ◌*◌, true, [], ◌∷◌, ◌++◌, replicate, refl}
use Rattle.blocks.specs.Field as Field
use Rattle.choice.specs.Candidates.{Candidate}
use Rattle.choice.specs.Lists as Lists
use Rattle.choice.specs.Request.{request_of, asked_weight}
use Rattle.choice.specs.Fields as Fields
use Rattle.choice.specs.Steps as Steps
use Rattle.choice.specs.declared.Request.{Request}

-- a fixed Roman-8 font with pitch 70 and an extended byte
abbrev face : ℕ → ℕ → Candidate
face n extended =
    record { soft = true; number = n; kept = replicate 14 0 ++ (1 ∷ 21 ∷ 0 ∷ 70 ∷ 0 ∷ 200 ∷ []) ++ replicate 20 0 ++ (extended ∷ []) ++ replicate 23 0 ++ (1 ∷ 44 ∷ 1 ∷ 44 ∷ []) }

abbrev seventeen : Request
seventeen = request_of 277 0 1700 1200 0 0 0 0 300

-- "At R 1700, 70 with 150 (18,070) qualifies and goes before 70 with 0 (17,920)." W-206: a 300 dpi number counts twice
pub seventeen_to_the_inch :
    (Fields.compared_pitch (face 9 150) ≡ 2 * 18070) × (Fields.compared_pitch (face 5 0) ≡ 2 * 17920)
    × (Steps.qualifies seventeen (face 9 150) ≡ true) × (Steps.choice seventeen (face 5 0 ∷ face 9 150 ∷ []) ≡ Steps.chosen true 9)
unfolding Field.signed Lists.having Lists.every Lists.or_if_empty Lists.prefer Lists.least Lists.greatest asked_weight Fields.as_bytes Fields.is_fixed Fields.is_fine Fields.compared_pitch Fields.compared_height Fields.weight_of Steps.has_set Steps.in_mode Steps.takes_part Steps.by_set Steps.has_spacing Steps.by_spacing Steps.qualifies Steps.by_pitch Steps.height_distance Steps.height_off Steps.by_height Steps.has_style Steps.by_style Steps.exact Steps.is_thicker Steps.is_thinner Steps.nearest_thicker Steps.nearest_thinner Steps.by_weight Steps.has_typeface Steps.by_typeface Steps.by_resolution Steps.by_store Steps.has_orientation Steps.by_orientation Steps.by_number Steps.steps Steps.worked Steps.fonts_left Steps.first_number Steps.choice
seventeen_to_the_inch = (refl, refl, refl, refl)
