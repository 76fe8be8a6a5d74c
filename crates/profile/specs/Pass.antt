-- For the code alone: what one pass over the records of a font, in their order, finds.
use Rattle.std.specs.Prelude.{ℕ, ◌+◌, List, [], ◌∷◌, Bool, not, ◌||◌, cond, eqb, leb, ltb, Option, Some, None}
use Rattle.blocks.specs.Header.{font_type, spacing}
use Rattle.form.specs.Model.{Rec, font, character, held_of}
use Rattle.profile.specs.Profile.{RuleBroken, first_required, last_required, is_whole, left_inside, right_inside, height_inside, advances_by_pitch, none_broken}
use Rattle.profile.specs.declared.rules.ProfileRule.{ProfileRule}
use Rattle.profile.specs.declared.rules.ProfileRule.TheVariants.{TypeZero, FixedSpacing, CodesComplete, LeftInside, RightInside, HeightInside, PitchAdvance}
use Rattle.profile.specs.declared.pass.BrokenRule.{BrokenRule}
use Rattle.profile.specs.declared.pass.Findings.{Findings}

-- ── what the code's values say, by numbers
abbrev pub rule_number : ProfileRule → ℕ
rule_number TypeZero = 1
rule_number FixedSpacing = 2
rule_number CodesComplete = 3
rule_number LeftInside = 4
rule_number RightInside = 5
rule_number HeightInside = 6
rule_number PitchAdvance = 7

-- 8, if none of the rules on a character's kept bytes is broken
abbrev pub number_or_8 : Option ProfileRule → ℕ
number_or_8 None = 8
number_or_8 (Some r) = rule_number r

-- what is told of a font
abbrev pub as_told : Option BrokenRule → RuleBroken
as_told None = none_broken
as_told (Some b) = record { rule = rule_number b.rule; code = b.code }

-- what a pass has found of the rules on a character's kept bytes
abbrev pub numbers_or_8 : Option BrokenRule → RuleBroken
numbers_or_8 None = record { rule = 8; code = 0 }
numbers_or_8 (Some b) = record { rule = rule_number b.rule; code = b.code }

-- the lowest required code that has no complete character yet, and the first broken rule of those on a character's kept bytes, 8 for none, with the lowest code
-- that breaks it
pub record FoundSoFar : Type 0 where
  pub wanted : ℕ
  pub rule : ℕ
  pub code : ℕ

abbrev pub found_numbers : Findings → FoundSoFar
found_numbers p = record { wanted = p.wanted; rule = (numbers_or_8 p.broken).rule; code = (numbers_or_8 p.broken).code }

-- ── the pass
-- of two broken rules the one that stands first; of one rule, the code that was found first
abbrev pub first_broken_of : RuleBroken → ℕ → ℕ → RuleBroken
first_broken_of b k c = cond (ltb k b.rule) (record { rule = k; code = c }) b

-- the number of the first of the rules 4 to 7 that a character with the kept bytes k breaks; 8, if it breaks none
unfoldable pub broken_by : List ℕ → List ℕ → ℕ
broken_by h k =
    cond (left_inside h k)
    (cond (right_inside h k) (cond (height_inside h k) (cond (advances_by_pitch h k) 8 7) 6) 5)
    4

-- the lowest required code that has no complete character yet, behind a character of code c; a higher one, if all have
unfoldable pub next_wanted : ℕ → ℕ → Bool → ℕ
next_wanted w c whole = cond (not (eqb c w) || ltb last_required c) w (cond whole (c + 1) w)

-- codes rise: the first that breaks a rule is the lowest, and a lower rule goes before it
unfoldable pub behind_character : List ℕ → FoundSoFar → ℕ → List ℕ → List ℕ → FoundSoFar
behind_character h p c k d =
    record {
      wanted = next_wanted p.wanted c (is_whole (held_of k d));
      rule = cond (ltb (broken_by h k) p.rule) (broken_by h k) p.rule;
      code = cond (ltb (broken_by h k) p.rule) c p.code;
    }

unfoldable pub behind_record : List ℕ → FoundSoFar → Rec → FoundSoFar
behind_record h p (font n g) = p
behind_record h p (character n c k d) = behind_character h p c k d

unfoldable pub passed_over : List Rec → List ℕ → FoundSoFar → FoundSoFar
passed_over [] h p = p
passed_over (r ∷ rs) h p = passed_over rs h (behind_record h p r)

abbrev pub nothing_found : FoundSoFar
nothing_found = record { wanted = first_required; rule = 8; code = 0 }

-- the first broken rule of those from 3 on
unfoldable pub found_broken : FoundSoFar → RuleBroken
found_broken p =
    cond (leb p.wanted last_required)
    (record { rule = 3; code = p.wanted })
    (cond (leb p.rule 7) (record { rule = p.rule; code = p.code }) none_broken)

-- a font with the header h and these records behind its own
unfoldable pub broken_with : List ℕ → List Rec → RuleBroken
broken_with h rs =
    cond (eqb (font_type h) 0)
    (cond (eqb (spacing h) 0) (found_broken (passed_over rs h nothing_found)) (record { rule = 2; code = 0 }))
    (record { rule = 1; code = 0 })

-- the records of a font
unfoldable pub broken_among : List Rec → RuleBroken
broken_among [] = none_broken
broken_among (font n h ∷ rs) = broken_with h rs
broken_among (character n c k d ∷ rs) = none_broken
