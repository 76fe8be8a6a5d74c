-- The pass along the run of a store's records, from what the store promises of each font. Assumes nothing.
use Rattle.std.proofs.Common.{◌≡◌, Result, Ok, Err, ℕ, ◌+◌, ◌-◌, Bool, true, false, cond, eqb, List, [], ◌∷◌, sym, refl, ap, ◌∙◌, arith}
use Rattle.std.specs.Prelude.{Option as Optional, Some, None}
use borrow.Author.Tests.{eqb-false}
use Rattle.form.specs.Records.{Begun}
use Rattle.form.specs.Fonts.{Font, fonts_at, fonts_of}
use Rattle.form.proofs.KeptFonts.{fonts_rise, fonts_begun}
use Rattle.blocks.specs.Header.{header_bytes}
use Rattle.choice.specs.Candidates.{Candidate, candidates, of_both}
use Rattle.choice.specs.Request.{in_range}
use Rattle.choice.specs.Choosing.{choosing_among, choosing}
use Rattle.choice.specs.Steps.{Choice, chosen, takes_part}
use Rattle.choice.specs.Right.{Keyed}
use Rattle.choice.specs.Scores.{score_of, comes_before, better, better_at, no_major, no_score, weighed, weighed_at, pass, score_answer, kept_place, StandsAt, nowhere, here, picked_choice, PickedAt}
use Rattle.choice.specs.declared.Request.{Request}
use Rattle.choice.specs.declared.BestSoFar.{BestSoFar}
use Rattle.choice.specs.declared.Score.{Score}
use Rattle.choice.specs.declared.Chosen.{Chosen}
use Rattle.choice.specs.declared.Picked.{Picked}
use Rattle.refusals.specs.declared.Refused.{Refused}
use Rattle.refusals.specs.declared.Refused.TheVariants.{NotStore, OutOfRange, NoneToChoose}
use Rattle.choice.proofs.Choice.{same_chosen, rising_keyed, two_keyed}
use Rattle.choice.proofs.Pass.{once, of_two_lists}

module _ (fonts : List Font) (soft : Bool) (r : Request) (best end : Score) (i : pass r best (candidates soft fonts) ≡ end) where
  -- the pass goes on with the fonts behind the first
  pub again : (f : Font) (more : List Font) → fonts ≡ f ∷ more → (new : Score) → new ≡ weighed r best (record { soft = soft; number = f.number; kept = f.kept }) → pass r new (candidates soft more) ≡ end
  unfolding pass candidates
  again f more e new t = rw t (sym (ap (λ (l : List Font). pass r best (candidates soft l)) e) ∙ i)

  -- no font is left
  pub stops : fonts ≡ [] → best ≡ end
  unfolding pass candidates
  stops e = sym (ap (λ (l : List Font). pass r best (candidates soft l)) e) ∙ i

-- ── where the best stands
module _ (r : Request) (b : BestSoFar) (f : Candidate) (k : ℕ) where
  -- one font more, whose kept bytes stand at k
  abbrev weighing : Bool → Bool → BestSoFar
  weighing t u = cond t (cond u (record { best = score_of r f; kept = k }) b) b

  pub weighed_best : (weighed_at r b f k).best ≡ weighed r b.best f
  unfolding weighed_at better_at weighed better
  weighed_best = go (takes_part r f) (comes_before (score_of r f) b.best)
    where
      go : (t u : Bool) → (weighing t u).best ≡ cond t (cond u (score_of r f) b.best) b.best
      go true true = refl
      go true false = refl
      go false u = refl

  pub stands_next : (s : List ℕ) → StandsAt s f.soft b.best b.kept → k ≡ kept_place f.number s
      → StandsAt s f.soft (weighed_at r b f k).best (weighed_at r b f k).kept
  unfolding weighed_at better_at score_of
  stands_next s x i = go (takes_part r f) (comes_before (score_of r f) b.best)
    where
      go : (t u : Bool) → StandsAt s f.soft (weighing t u).best (weighing t u).kept
      go true true = here refl i
      go true false = x
      go false u = x

-- the score that an answer names
named : (x : Score) (p : Bool) (n : ℕ) → score_answer x ≡ chosen p n → (x.soft ≡ p) × (x.number ≡ n) × (x.major ≡ no_major → ⊥)
named x p n e = go (eqb x.major no_major) refl e
  where
    go : (t : Bool) → eqb x.major no_major ≡ t → cond t (Err NoneToChoose) (chosen x.soft x.number) ≡ chosen p n → (x.soft ≡ p) × (x.number ≡ n) × (x.major ≡ no_major → ⊥)
    go true q f = let z : ◌≡◌ {A = ℕ} 0 1 = cc in absurd (omega arith)
    go false q f = let e = same_chosen x.soft p x.number n f in (e.0, e.1, eqb-false x.major no_major q)

stood : (s : List ℕ) (soft : Bool) (x : Score) (at : ℕ) → StandsAt s soft x at → (p : Bool) (n : ℕ) → score_answer x ≡ chosen p n → (soft ≡ p) × (at ≡ kept_place n s)
stood s soft x at (nowhere e) p n q = absurd ((named x p n q).2 e)
stood s soft x at (here e i) p n q = (sym e ∙ (named x p n q).0, i ∙ ap (λ (m : ℕ). kept_place m s) (named x p n q).1)

-- the better of the best of two stores
module _ (a b : BestSoFar) where
  pub better_best : (better_at a b.best b.kept).best ≡ better a.best b.best
  unfolding better_at better
  better_best = go (comes_before b.best a.best)
    where
      go : (u : Bool) → (cond u b a).best ≡ cond u b.best a.best
      go true = refl
      go false = refl

  pub picked : (s t : List ℕ) → StandsAt s true a.best a.kept → StandsAt t false b.best b.kept → (c : Chosen)
      → Ok c ≡ score_answer (better_at a b.best b.kept).best → (k : ℕ) → k ≡ (better_at a b.best b.kept).kept → PickedAt s t (record { chosen = c; kept = k })
  unfolding better_at
  picked s t x y c f k g = go (comes_before b.best a.best) f g
    where
      in_store : ℕ → Bool → ℕ
      in_store n p = kept_place n (cond p s t)

      go : (u : Bool) → Ok c ≡ score_answer (cond u b a).best → k ≡ (cond u b a).kept → k ≡ kept_place c.number (cond c.soft s t)
      go true f g = let z = stood t false b.best b.kept y c.soft c.number (sym f) in g ∙ z.1 ∙ ap (in_store c.number) z.0
      go false f g = let z = stood s true a.best a.kept x c.soft c.number (sym f) in g ∙ z.1 ∙ ap (in_store c.number) z.0

-- the answers among fonts
module _ (l : List Candidate) (r : Request) where
  pub out_of_range : in_range r ≡ false → Err OutOfRange ≡ choosing_among l r
  unfolding choosing_among
  out_of_range t = rw t

  pub chooses : Keyed l → in_range r ≡ true → (p : Bool) (best : Score) → best ≡ pass r (no_score p) l → (a : Choice) → a ≡ score_answer best → a ≡ choosing_among l r
  unfolding choosing_among
  chooses kd t p best b a f = rw t (f ∙ ap score_answer b ∙ once r p l kd)

-- those of one store have numbers of their own, and those of two
pub store_keyed : (p : Bool) (s : List ℕ) → Keyed (candidates p (fonts_of s))
store_keyed p s = rising_keyed p 0 (fonts_of s) (fonts_rise s)

pub stores_keyed : (s t : List ℕ) → Keyed (of_both (fonts_of s) (fonts_of t))
stores_keyed s t = two_keyed (fonts_of s) (fonts_of t) (store_keyed true s) (store_keyed false t)

-- a refusal of the choice is one of the picking
pub picked_none : (x : Result Picked Refused) (k : Refused) → x ≡ Err k → (a : Choice) → a ≡ Err k → (b : Choice) → a ≡ b → picked_choice x ≡ b
picked_none x k e a f b g = rw e (sym f ∙ g)

-- one pass over the fonts of a store, whose run begins at p
pub one_pass : (s : List ℕ) (r : Request) (p : ℕ) → Begun s (Some p) → (soft : Bool) (best : Score) → best ≡ pass r (no_score soft) (candidates soft (fonts_at s p))
    → best ≡ pass r (no_score soft) (candidates soft (fonts_of s))
one_pass s r p h soft best f = f ∙ rw (fonts_begun s p h)

-- the better of the best of each is the best of both
pub two_passes : (s t : List ℕ) (r : Request) (a b best : Score) → a ≡ pass r (no_score true) (candidates true (fonts_of s))
    → b ≡ pass r (no_score false) (candidates false (fonts_of t)) → best ≡ better a b → best ≡ pass r (no_score true) (of_both (fonts_of s) (fonts_of t))
unfolding of_both
two_passes s t r a b best e f g = g ∙ rw (e, f) (sym (of_two_lists r (candidates true (fonts_of s)) (candidates false (fonts_of t))))

-- the answers on a buffer, by where the run begins
module _ (s : List ℕ) (r : Request) (v : Optional ℕ) (h : Begun s v) where
  pub no_store : v ≡ None → Err NotStore ≡ choosing s r
  unfolding choosing
  no_store e = let f : Begun s None = rw e at h in rw f

  module _ (p : ℕ) (e : v ≡ Some p) where
    pub begun : Begun s (Some p)
    begun = rw e at h

    pub on_store : (a : Choice) → a ≡ choosing_among (candidates true (fonts_of s)) r → a ≡ choosing s r
    unfolding choosing
    on_store a f = rw begun.0 f
