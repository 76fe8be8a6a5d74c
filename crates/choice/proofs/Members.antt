-- What stands in lists of fonts, and among the fonts of one store or of two. Assumes nothing.
use Rattle.std.proofs.Common.{◌≡◌, Bool, true, false, ◌⊎◌, List, [], ◌∷◌, ◌++◌, ap, ap₂, inl, inr, ⊎_elim}
use Rattle.form.specs.Fonts.{Font}
use Rattle.choice.specs.Candidates.{Candidate, candidate, as_font, candidates, of_both}
use Rattle.choice.specs.Lists.{In}
use Rattle.choice.proofs.Least.{not_both}

module _ {A : Type 0} (x : A) where
  pub in_left : (a b : List A) → In x a → In x (a ++ b)
  in_left [] b m = absurd m
  in_left (y ∷ a) b (inl e) = inl e
  in_left (y ∷ a) b (inr m) = inr (in_left a b m)

  pub in_right : (a b : List A) → In x b → In x (a ++ b)
  in_right [] b m = m
  in_right (y ∷ a) b m = inr (in_right a b m)

  pub in_either : (a b : List A) → In x (a ++ b) → In x a ⊎ In x b
  in_either [] b m = inr m
  in_either (y ∷ a) b (inl e) = inl (inl e)
  in_either (y ∷ a) b (inr m) = ⊎_elim (λ p. inl (inr p)) (λ p. inr p) (in_either a b m)

-- ── one store
module _ (p : Bool) where
  pub of_store : (l : List Font) (x : Candidate) → In x (candidates p l) → x.soft ≡ p
  unfolding candidates
  of_store [] x m = absurd m
  of_store (f ∷ l) x (inl e) = ap (λ (g : Candidate). g.soft) e
  of_store (f ∷ l) x (inr m) = of_store l x m

  pub font_in_lem : (l : List Font) (x : Candidate) → In x (candidates p l) → In (as_font x) l
  unfolding candidates
  font_in_lem [] x m = m
  font_in_lem (f ∷ l) x (inl e) = inl (ap as_font e)
  font_in_lem (f ∷ l) x (inr m) = inr (font_in_lem l x m)

  pub candidate_in : (l : List Font) (x : Candidate) → x.soft ≡ p → In (as_font x) l → In x (candidates p l)
  unfolding candidates
  candidate_in [] x q m = m
  candidate_in (f ∷ l) x q (inl e) = inl (ap₂ candidate q e)
  candidate_in (f ∷ l) x q (inr m) = inr (candidate_in l x q m)

-- ── two stores
pub not_cartridge : (a : List Font) (x : Candidate) → In x (candidates true a) → x.soft ≡ false → ⊥
not_cartridge a x m e = not_both x.soft (of_store true a x m) e

pub not_soft : (b : List Font) (x : Candidate) → In x (candidates false b) → x.soft ≡ true → ⊥
not_soft b x m e = not_both x.soft e (of_store false b x m)

module _ (a b : List Font) (x : Candidate) (m : In x (of_both a b)) where
  either_store : In x (candidates true a) ⊎ In x (candidates false b)
  unfolding of_both
  either_store = in_either x (candidates true a) (candidates false b) m

  pub soft_in : x.soft ≡ true → In x (candidates true a)
  soft_in e = ⊎_elim (λ p. p) (λ p. absurd (not_soft b x p e)) either_store

  pub cartridge_in : x.soft ≡ false → In x (candidates false b)
  cartridge_in e = ⊎_elim (λ p. absurd (not_cartridge a x p e)) (λ p. p) either_store
