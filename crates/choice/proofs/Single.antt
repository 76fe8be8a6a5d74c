-- Of fonts with distinct numbers the steps leave a list of one font, not only one font. Assumes nothing.
use Rattle.std.proofs.Common.{◌≡◌, Bool, true, false, cond, leb, List, [], ◌∷◌, pos, sym, refl, ap, ◌∙◌, inl, inr}
use lib.Signed.{le_z}
use Rattle.choice.specs.Candidates.{Candidate}
use Rattle.choice.specs.Lists.{In, having, every, or_if_empty, prefer, least, greatest}
use Rattle.choice.specs.Fields.{is_fixed, compared_pitch, weight_of}
use Rattle.choice.specs.Request.{asked_weight}
use Rattle.choice.specs.Steps.{by_set, by_spacing, by_pitch, height_off, by_height, by_style, nearest_thicker, nearest_thinner, by_weight, by_typeface, by_resolution, by_store, by_orientation, by_number, steps, worked, fonts_left}
use Rattle.choice.specs.Right.{Keyed}
use Rattle.choice.specs.declared.Request.{Request}
use Rattle.choice.proofs.Least.{having_out}
use Rattle.choice.proofs.Choice.{only_one}

abbrev pub Distinct : List Candidate → Type 0
Distinct [] = Unit {0}
Distinct (f ∷ l) = ((x : Candidate) → In x l → x.soft ≡ f.soft → x.number ≡ f.number → ⊥) × Distinct l

pub distinct_keyed : (l : List Candidate) → Distinct l → Keyed l
distinct_keyed [] d x y mx my s h = absurd mx
distinct_keyed (f ∷ l) d x y (inl ex) (inl ey) s h = ex ∙ sym ey
distinct_keyed (f ∷ l) d x y (inl ex) (inr my) s h = absurd (d.0 y my (sym s ∙ ap (λ (g : Candidate). g.soft) ex) (sym h ∙ ap (λ (g : Candidate). g.number) ex))
distinct_keyed (f ∷ l) d x y (inr mx) (inl ey) s h = absurd (d.0 x mx (s ∙ ap (λ (g : Candidate). g.soft) ey) (h ∙ ap (λ (g : Candidate). g.number) ey))
distinct_keyed (f ∷ l) d x y (inr mx) (inr my) s h = distinct_keyed l d.1 x y mx my s h

pub by_having : (p : Candidate → Bool) (l : List Candidate) → Distinct l → Distinct (having p l)
unfolding having
by_having p [] d = tt
by_having p (f ∷ l) d = go (p f) (by_having p l d.1)
  where
    go : (b : Bool) → Distinct (having p l) → Distinct (cond b (f ∷ having p l) (having p l))
    go true k = (λ x m. d.0 x (having_out p l x m).0, k)
    go false k = k

by_or : (l k : List Candidate) → Distinct l → Distinct k → Distinct (or_if_empty l k)
unfolding or_if_empty
by_or [] k a b = b
by_or (x ∷ l) k a b = a

by_cond : (t : Bool) (l k : List Candidate) → Distinct l → Distinct k → Distinct (cond t l k)
by_cond true l k a b = a
by_cond false l k a b = b

by_prefer : (p : Candidate → Bool) (l : List Candidate) → Distinct l → Distinct (prefer p l)
unfolding prefer
by_prefer p l d = by_or (having p l) l (by_having p l d) d

by_least : {K : Type 0} (le : K → K → Bool) (s : Candidate → K) (l : List Candidate) → Distinct l → Distinct (least le s l)
unfolding least
by_least le s l d = by_having _ l d

by_greatest : {K : Type 0} (le : K → K → Bool) (s : Candidate → K) (l : List Candidate) → Distinct l → Distinct (greatest le s l)
unfolding greatest
by_greatest le s l d = by_having _ l d

by_six : (r : Request) (l : List Candidate) → Distinct l → Distinct (by_weight r l)
unfolding by_weight nearest_thicker nearest_thinner
by_six r l d =
    let a = by_least le_z weight_of _ (by_having _ l d) in
    let b = by_greatest le_z weight_of _ (by_having _ l d) in
    by_or _ _ (by_having _ l d) (by_cond (le_z (pos 0) (asked_weight r)) _ _ (by_or _ _ a b) (by_or _ _ b a))

by_three : (r : Request) (l : List Candidate) → Distinct l → Distinct (by_pitch r l)
unfolding by_pitch
by_three r l d = by_cond (every is_fixed l) _ _ (by_or _ _ (by_greatest leb compared_pitch _ (by_having _ l d)) (by_least leb compared_pitch l d)) d

pub left_distinct : (r : Request) (l : List Candidate) → Distinct l → Distinct (fonts_left r l)
unfolding fonts_left steps worked by_set by_spacing by_height by_style by_typeface by_resolution by_store by_orientation by_number
left_distinct r l d =
    by_least leb (λ f. f.number) _ (by_prefer _ _ (by_prefer _ _ (by_prefer _ _ (by_prefer _ _ (by_six r _ (by_prefer _ _ (by_least leb (height_off r) _ (by_three r _ (by_prefer _ _ (by_prefer _ _ (by_having _ l d)))))))))))

pub leaves_one : (r : Request) (l : List Candidate) → Distinct l → (c : Candidate) → In c (fonts_left r l) → fonts_left r l ≡ c ∷ []
leaves_one r l d c m = go (fonts_left r l) (left_distinct r l d) (λ x mx. only_one r l (distinct_keyed l d) x c mx m) m
  where
    go : (k : List Candidate) → Distinct k → ((x : Candidate) → In x k → x ≡ c) → In c k → k ≡ c ∷ []
    go [] e h mc = absurd mc
    go (f ∷ []) e h mc = ap (λ (x : Candidate). x ∷ []) (h f (inl refl))
    go (f ∷ g ∷ k) e h mc = let i = h g (inr (inl refl)) ∙ sym (h f (inl refl)) in absurd (e.0 g (inl refl) (ap (λ (x : Candidate). x.soft) i) (ap (λ (x : Candidate). x.number) i))
