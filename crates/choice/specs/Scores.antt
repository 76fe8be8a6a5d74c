-- For the code alone: how it finds the choice; no public promise rests on this file. A font has a number for each step, the least for those
-- that the step leaves; the numbers of the steps up to pitch and of the steps from height on are joined, each as the digits of one number, so
-- that the earlier step decides. That the font with the least numbers is the one that the steps leave is proved.
use Rattle.std.specs.Prelude.{◌≡◌, ℕ, ◌+◌, ◌-◌, ◌*◌, ◌%◌, Bool, cond, ◌&&◌, ◌||◌, List, [], ◌∷◌, pos, ◌==◌, int_le, nat_lt, Result, Ok, Err}
use Rattle.blocks.specs.Header.{stroke_weight}
use Rattle.form.specs.Layout.{font_kept_at}
use Rattle.form.specs.Records.{records_in, font_place}
use Rattle.choice.specs.Candidates.{Candidate}
use Rattle.choice.specs.Request.{asked_weight}
use Rattle.choice.specs.Fields.{header_of, is_fixed, is_fine, compared_pitch}
use Rattle.choice.specs.Steps.{has_set, has_spacing, qualifies, height_off, has_style, exact, is_thicker, is_thinner, has_typeface, has_orientation, takes_part, Choice, chosen}
use Rattle.choice.specs.declared.Request.{Request}
use Rattle.choice.specs.declared.Score.{Score}
use Rattle.choice.specs.declared.BestSoFar.{BestSoFar}
use Rattle.choice.specs.declared.Picked.{Picked}
use Rattle.refusals.specs.declared.Refused.{Refused}
use Rattle.refusals.specs.declared.Refused.TheVariants.{NoneToChoose}

-- 0 for a match
abbrev pub miss : Bool → ℕ
miss b = cond b 0 1

-- the greatest number that can be compared for pitch or height, and a base above every number of the pitch
abbrev pub most_compared : ℕ
most_compared = 33554430

abbrev pub pitch_base : ℕ
pitch_base = 2 * (most_compared + 1)

-- the pitch, by the answers to: fixed, qualifies
abbrev pub pitch_number : Bool → Bool → ℕ → ℕ
pitch_number fixed fits p = cond fixed (cond fits (most_compared - p) (most_compared + 1 + p)) 0

-- above every number of the height
abbrev pub height_bound : ℕ
height_bound = 1099511627776

-- a weight byte as a number that rises with the weight: -128 is 0
abbrev pub raised : ℕ → ℕ
raised w = (w + 128) % 256

abbrev pub thickness : Candidate → ℕ
thickness f = raised (stroke_weight (header_of f))

-- a base above every number of the weight
abbrev pub weight_base : ℕ
weight_base = 1024

-- the weight, by the answers to: exact, a request of 0 or more, thicker, thinner
abbrev pub weight_number : Bool → Bool → Bool → Bool → ℕ → ℕ
weight_number e up thicker thinner w =
    cond e 0 (1 + cond up (cond thicker w (256 + (255 - w))) (cond thinner (255 - w) (256 + w)))

unfoldable pub pitch_score : Request → Candidate → ℕ
pitch_score r f = pitch_number (is_fixed f) (qualifies r f) (compared_pitch f)

unfoldable pub weight_score : Request → Candidate → ℕ
weight_score r f = weight_number (exact r f) (int_le (pos 0) (asked_weight r)) (is_thicker r f) (is_thinner r f) (thickness f)

-- a number with one more digit, the last, of base k
abbrev pub digit : ℕ → ℕ → ℕ → ℕ
digit k high d = high * k + d

-- the steps up to pitch, and those from height on
unfoldable pub major_of : Request → Candidate → ℕ
major_of r f =
    digit pitch_base
    (digit 2
    (miss (has_set r.symbol_set f))
    (miss (has_spacing r f)))
    (pitch_score r f)

unfoldable pub minor_of : Request → Candidate → ℕ
minor_of r f =
    digit 2
    (digit 2
    (digit 2
    (digit 2
    (digit weight_base
    (digit 2
    (height_off r f)
    (miss (has_style r f)))
    (weight_score r f))
    (miss (has_typeface r f)))
    (miss (is_fine f)))
    (miss f.soft))
    (miss (has_orientation r f))

unfoldable pub score_of : Request → Candidate → Score
score_of r f = record { major = major_of r f; minor = minor_of r f; number = f.number; soft = f.soft }

-- a comes before b
abbrev pub comes_before : Score → Score → Bool
comes_before a b =
    nat_lt a.major b.major
    || (a.major == b.major && (nat_lt a.minor b.minor || (a.minor == b.minor && nat_lt a.number b.number)))

unfoldable pub better : Score → Score → Score
better best s = cond (comes_before s best) s best

-- no font so far, in a store: a number of the steps up to pitch that is above that of every font
abbrev pub no_major : ℕ
no_major = 4 * pitch_base

abbrev pub no_score : Bool → Score
no_score p = record { major = no_major; minor = 0; number = 0; soft = p }

-- the best so far after one more font, and after all fonts of a list
unfoldable pub weighed : Request → Score → Candidate → Score
weighed r best f = cond (takes_part r f) (better best (score_of r f)) best

-- the same with the place k where its kept bytes stand
unfoldable pub better_at : BestSoFar → Score → ℕ → BestSoFar
better_at b s k = cond (comes_before s b.best) (record { best = s; kept = k }) b

unfoldable pub weighed_at : Request → BestSoFar → Candidate → ℕ → BestSoFar
weighed_at r b f k = cond (takes_part r f) (better_at b (score_of r f) k) b

unfoldable pub pass : Request → Score → List Candidate → Score
pass r best [] = best
pass r best (f ∷ l) = pass r (weighed r best f) l

abbrev pub score_answer : Score → Choice
score_answer s = cond (s.major == no_major) (Err NoneToChoose) (chosen s.soft s.number)

-- ── where the chosen font stands
-- where the kept bytes of font n stand in the store s
abbrev pub kept_place : ℕ → List ℕ → ℕ
kept_place n s = font_place n (records_in s) + font_kept_at

-- after a pass over fonts of the store s the best is none, or one of s, whose kept bytes stand at a place
pub data StandsAt (s : List ℕ) (soft : Bool) (best : Score) (at : ℕ) : Type 0 where
  nowhere : best.major ≡ no_major → StandsAt s soft best at
  here : best.soft ≡ soft → at ≡ kept_place best.number s → StandsAt s soft best at

-- the font that is picked from the stores s and t stands where it says
abbrev pub PickedAt : List ℕ → List ℕ → Picked → Type 0
PickedAt s t p = p.kept ≡ kept_place p.chosen.number (cond p.chosen.soft s t)

-- what is picked, without its place
abbrev pub picked_choice : Result Picked Refused → Choice
picked_choice (Ok p) = Ok p.chosen
picked_choice (Err r) = Err r
