-- What choosing can answer: a font, or one of three refusals. Assumes nothing.
use Rattle.std.proofs.Common.{ℕ, Ok, Err, Bool, true, false, cond, ◌&&◌, List, [], ◌∷◌}
use Rattle.refusals.specs.declared.Refused.TheVariants.{NotStore, OutOfRange, NoneToChoose}
use Rattle.form.specs.Records.{is_store}
use Rattle.form.specs.Fonts.{fonts_of}
use Rattle.choice.specs.Candidates.{Candidate, candidates, of_both}
use Rattle.choice.specs.Request.{in_range}
use Rattle.choice.specs.Steps.{Choice, fonts_left, first_number, choice}
use Rattle.choice.specs.Choosing.{choosing_among, choosing, choosing_from_two}
use Rattle.choice.specs.declared.Chosen.{Chosen}
use Rattle.choice.specs.declared.Request.{Request}

-- what holds of each of these answers
module _ (P : Choice → Type 0) (font : (c : Chosen) → P (Ok c)) (store : P (Err NotStore)) (range : P (Err OutOfRange)) (none_left : P (Err NoneToChoose)) where
  among : (l : List Candidate) (r : Request) → P (choosing_among l r)
  unfolding choosing_among choice first_number
  among l r = go (in_range r) (fonts_left r l)
    where
      go : (a : Bool) (k : List Candidate) → P (cond a (first_number k) (Err OutOfRange))
      go true [] = none_left
      go true (f ∷ k) = font (record { soft = f.soft; number = f.number })
      go false k = range

  -- holds of what choosing answers on a buffer, and on two
  pub of_one : (s : List ℕ) (r : Request) → P (choosing s r)
  unfolding choosing
  of_one s r = go (is_store s)
    where
      go : (a : Bool) → P (cond a (choosing_among (candidates true (fonts_of s)) r) (Err NotStore))
      go true = among (candidates true (fonts_of s)) r
      go false = store

  pub of_two : (s t : List ℕ) (r : Request) → P (choosing_from_two s t r)
  unfolding choosing_from_two
  of_two s t r = go (is_store s && is_store t)
    where
      go : (a : Bool) → P (cond a (choosing_among (of_both (fonts_of s) (fonts_of t)) r) (Err NotStore))
      go true = among (of_both (fonts_of s) (fonts_of t)) r
      go false = store
