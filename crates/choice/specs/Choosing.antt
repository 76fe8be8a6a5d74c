-- What choosing answers: on a buffer, and among fonts.
use Rattle.std.specs.Prelude.{ℕ, true, cond, ◌&&◌, List, Ok, Err}
use Rattle.form.specs.Records.{is_store}
use Rattle.form.specs.Fonts.{fonts_of}
use Rattle.choice.specs.Candidates.{Candidate, candidates, of_both}
use Rattle.choice.specs.Request.{in_range}
use Rattle.choice.specs.Steps.{Choice, choice}
use Rattle.choice.specs.declared.Request.{Request}
use Rattle.refusals.specs.Refusals.{refusal_number}
use Rattle.refusals.specs.declared.Refused.TheVariants.{NotStore, OutOfRange}

-- "Choosing checks 1, 2, 11 and answers the font number.": 2, then 11 or the number, where the fonts are known,
unfoldable pub choosing_among : List Candidate → Request → Choice
choosing_among l r = cond (in_range r) (choice r l) (Err OutOfRange)

-- and before that 1
unfoldable pub choosing : List ℕ → Request → Choice
choosing s r = cond (is_store s) (choosing_among (candidates true (fonts_of s)) r) (Err NotStore)

-- W-208: "Refusals: 1 if either isn't a store, then 2, 11."
unfoldable pub choosing_from_two : List ℕ → List ℕ → Request → Choice
choosing_from_two soft cartridge r = cond (is_store soft && is_store cartridge) (choosing_among (of_both (fonts_of soft) (fonts_of cartridge)) r) (Err NotStore)

-- document 01's number of an answer, 0 for done
abbrev pub refusal_of : Choice → ℕ
refusal_of (Ok c) = 0
refusal_of (Err r) = refusal_number r

-- the font number that an answer gives, 0 for a refusal
abbrev pub font_of : Choice → ℕ
font_of (Ok c) = c.number
font_of (Err r) = 0

-- W-208: "says which store that is (1 soft, 2 cartridge)", 0 for a refusal
abbrev pub which_of : Choice → ℕ
which_of (Ok c) = cond c.soft 1 2
which_of (Err r) = 0
