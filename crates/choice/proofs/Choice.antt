-- The choice depends on nothing but which fonts there are, and it stands if fonts that were not chosen go. Assumes nothing.
use Rattle.std.proofs.Common.{◌≡◌, ℕ, suc, ◌<◌, ◌≤◌, Bool, true, false, ◌⊎◌, Err, List, [], ◌∷◌, sym, refl, ap, ◌∙◌, inl, inr, ⊎_elim, le_antisymm, arith}
use Rattle.form.specs.Fonts.{Font, RisingFrom}
use Rattle.choice.specs.Candidates.{Candidate, candidates, of_both}
use Rattle.choice.specs.Lists.{In}
use Rattle.choice.specs.Fields.{is_fixed, is_fine, compared_pitch, compared_height, weight_of}
use Rattle.choice.specs.Steps.{has_set, in_mode, has_spacing, qualifies, height_off, has_style, exact, is_thicker, is_thinner, has_typeface, has_orientation, fonts_left, first_number, choice, takes_part, chosen}
use Rattle.choice.specs.Scores.{miss, pitch_score, weight_score, major_of, minor_of, score_of}
use Rattle.choice.specs.Right.{Keyed}
use Rattle.choice.specs.declared.Request.{Request}
use Rattle.refusals.specs.declared.Refused.TheVariants.{NoneToChoose}
use Rattle.choice.specs.declared.Chosen.{Chosen}
use Rattle.choice.proofs.Least.{whether, not_both, miss_bound}
use Rattle.choice.proofs.Steps.{Before, is_left}
use Rattle.choice.proofs.Members.{in_left, font_in_lem, candidate_in, soft_in, cartridge_in}

-- two answers that name a font name the same one
pub same_chosen : (p q : Bool) (n m : ℕ) → chosen p n ≡ chosen q m → (p ≡ q) × (n ≡ m)
same_chosen p q n m e =
    let x : ◌≡◌ {A = Chosen} (record { soft = p; number = n }) (record { soft = q; number = m }) = cc in
    (ap (λ (c : Chosen). c.soft) x, ap (λ (c : Chosen). c.number) x)

module _ (r : Request) where
  -- two that are level are of one store and have one number
  same_soft : (a b : Bool) → miss a ≡ miss b → a ≡ b
  same_soft true true e = refl
  same_soft false false e = refl
  same_soft true false e = absurd (omega (arith, e))
  same_soft false true e = absurd (omega (arith, e))

  pub one_store : (x y : Candidate) → Before r x y → Before r y x → x.soft ≡ y.soft
  unfolding Before score_of minor_of
  one_store x y h k =
      let hm = h.1 k.0 in
      let km = k.1 h.0 in
      let e = le_antisymm hm.0 km.0 in
      same_soft x.soft y.soft (omega (arith, e, miss_bound x.soft, miss_bound y.soft, miss_bound (has_orientation r x), miss_bound (has_orientation r y)))

  pub same_number : (x y : Candidate) → Before r x y → Before r y x → x.number ≡ y.number
  unfolding Before score_of
  same_number x y h k =
      let hm = h.1 k.0 in
      let km = k.1 h.0 in
      le_antisymm (hm.1 km.0) (km.1 hm.0)

  pub level : (l : List Candidate) → Keyed l → (x y : Candidate) → In x l → In y l → Before r x y → Before r y x → x ≡ y
  level l kd x y mx my h k = kd x y mx my (one_store x y h k) (same_number x y h k)

  -- what is left is one font
  pub only_one : (l : List Candidate) → Keyed l → (x y : Candidate) → In x (fonts_left r l) → In y (fonts_left r l) → x ≡ y
  only_one l kd x y mx my =
      level l kd x y ((is_left r l).base x mx).0 ((is_left r l).base y my).0
      ((is_left r l).low x y mx ((is_left r l).base y my)) ((is_left r l).low y x my ((is_left r l).base x mx))

  pub choice_is : (l : List Candidate) → Keyed l → (c : Candidate) → In c (fonts_left r l) → choice r l ≡ chosen c.soft c.number
  unfolding choice first_number
  choice_is l kd c m = go (fonts_left r l) (λ x mx. only_one l kd x c mx m) m
    where
      go : (k : List Candidate) → ((x : Candidate) → In x k → x ≡ c) → In c k → first_number k ≡ chosen c.soft c.number
      go [] h mc = absurd mc
      go (f ∷ k) h mc = ap (λ (x : Candidate). chosen x.soft x.number) (h f (inl refl))

  -- what is named is left, and so is one of the fonts
  choice_left : (l : List Candidate) (p : Bool) (n : ℕ) → choice r l ≡ chosen p n → (c : Candidate) × In c (fonts_left r l) × (c.soft ≡ p) × (c.number ≡ n)
  unfolding choice first_number
  choice_left l p n e = go (fonts_left r l) e
    where
      go : (k : List Candidate) → first_number k ≡ chosen p n → (c : Candidate) × In c k × (c.soft ≡ p) × (c.number ≡ n)
      go [] q = let z : ◌≡◌ {A = ℕ} 0 1 = cc in absurd (omega arith)
      go (f ∷ k) q = let e = same_chosen f.soft p f.number n q in (f, inl refl, e.0, e.1)

  pub choice_in : (l : List Candidate) (p : Bool) (n : ℕ) → choice r l ≡ chosen p n → (c : Candidate) × In c l × (c.soft ≡ p) × (c.number ≡ n)
  choice_in l p n e = let c = choice_left l p n e in (c.0, ((is_left r l).base c.0 c.1).0, c.2, c.3)

  -- a font of the cartridge that the soft store has too is not left
  abbrev in_soft : Candidate → Candidate
  in_soft c = record { soft = true; number = c.number; kept = c.kept }

  soft_takes : (c : Candidate) → takes_part r (in_soft c) ≡ takes_part r c
  unfolding takes_part has_set in_mode is_fine
  soft_takes c = refl

  soft_major : (c : Candidate) → major_of r (in_soft c) ≡ major_of r c
  unfolding major_of has_set has_spacing is_fixed pitch_score qualifies compared_pitch
  soft_major c = refl

  soft_minor : (c : Candidate) → c.soft ≡ false → minor_of r (in_soft c) < minor_of r c
  unfolding minor_of height_off compared_height has_style weight_score exact is_thicker is_thinner weight_of has_typeface is_fine has_orientation
  soft_minor c e = rw e (omega arith)

  soft_first : (l : List Candidate) (c : Candidate) → In c (fonts_left r l) → In (in_soft c) l → c.soft ≡ false → ⊥
  unfolding Before score_of
  soft_first l c m i e =
      let h = (is_left r l).low c (in_soft c) m (i, soft_takes c ∙ ((is_left r l).base c m).1) in
      omega (arith, soft_minor c e, (h.1 (omega (arith, soft_major c))).0)

  -- either none takes part, and the answer is a refusal, or a font is left
  pub either : (l : List Candidate) → ((choice r l ≡ Err NoneToChoose) × ((x : Candidate) → In x l → takes_part r x ≡ false)) ⊎ ((c : Candidate) × In c (fonts_left r l))
  unfolding choice first_number
  either l = go (fonts_left r l) (is_left r l).some
    where
      go : (k : List Candidate) → ((x : Candidate) → In x l × (takes_part r x ≡ true) → (y : Candidate) × In y k)
          → ((first_number k ≡ Err NoneToChoose) × ((x : Candidate) → In x l → takes_part r x ≡ false)) ⊎ ((c : Candidate) × In c k)
      go [] s = inl (refl, λ x m. ⊎_elim (λ t. absurd (s x (m, t)).1) (λ e. e) (whether (takes_part r x)))
      go (f ∷ k) s = inr (f, inl refl)

  pub choice_none : (l : List Candidate) → ((x : Candidate) → In x l → takes_part r x ≡ false) → choice r l ≡ Err NoneToChoose
  choice_none l h =
      ⊎_elim (λ a. a.0)
      (λ c. absurd (not_both (takes_part r c.0) ((is_left r l).base c.0 c.1).1 (h c.0 ((is_left r l).base c.0 c.1).0))) (either l)

  -- of fewer fonts, among which is the one chosen before, the choice is the same
  pub stands : (l k : List Candidate) → Keyed l → ((x : Candidate) → In x k → In x l) → ((c : Candidate) → In c (fonts_left r l) → In c k) → choice r k ≡ choice r l
  stands l k kd sub has =
      ⊎_elim (λ a. choice_none k (λ x m. a.1 x (sub x m)) ∙ sym a.0)
      (λ c.
      choice_is k (λ x y mx my. kd x y (sub x mx) (sub y my)) c.0
      ((is_left r k).back c.0 (has c.0 c.1, ((is_left r l).base c.0 c.1).1)
      (λ y m. (is_left r l).low c.0 y c.1 (sub y m.0, m.1))) ∙ sym (choice_is l kd c.0 c.1))
      (either l)

-- fonts of one store by rising number: no two have one number
rising_low : (p : Bool) (n : ℕ) (l : List Font) → RisingFrom n l → (x : Candidate) → In x (candidates p l) → n ≤ x.number
unfolding candidates
rising_low p n [] r x m = absurd m
rising_low p n (f ∷ l) r x (inl e) = rw e r.0
rising_low p n (f ∷ l) r x (inr m) = let h = rising_low p (suc f.number) l r.1 x m in omega arith

pub rising_keyed : (p : Bool) (n : ℕ) (l : List Font) → RisingFrom n l → Keyed (candidates p l)
unfolding candidates
rising_keyed p n [] r x y mx my s h = absurd mx
rising_keyed p n (f ∷ l) r x y (inl ex) (inl ey) s h = ex ∙ sym ey
rising_keyed p n (f ∷ l) r x y (inl ex) (inr my) s h =
    let k = rising_low p (suc f.number) l r.1 y my in let e : x.number ≡ f.number = ap (λ (g : Candidate). g.number) ex in absurd (omega arith)
rising_keyed p n (f ∷ l) r x y (inr mx) (inl ey) s h =
    let k = rising_low p (suc f.number) l r.1 x mx in let e : y.number ≡ f.number = ap (λ (g : Candidate). g.number) ey in absurd (omega arith)
rising_keyed p n (f ∷ l) r x y (inr mx) (inr my) s h = rising_keyed p (suc f.number) l r.1 x y mx my s h

-- of two stores, no two of one store
pub two_keyed : (a b : List Font) → Keyed (candidates true a) → Keyed (candidates false b) → Keyed (of_both a b)
two_keyed a b ka kb x y mx my s h = go y.soft refl
  where
    go : (p : Bool) → y.soft ≡ p → x ≡ y
    go true q = ka x y (soft_in a b x mx (s ∙ q)) (soft_in a b y my q) s h
    go false q = kb x y (cartridge_in a b x mx (s ∙ q)) (cartridge_in a b y my q) s h

-- where both stores have the same fonts, a soft one is chosen
pub soft_of_same : (r : Request) (l : List Font) (p : Bool) (n : ℕ) → choice r (of_both l l) ≡ chosen p n → p ≡ true
unfolding of_both
soft_of_same r l true n e = refl
soft_of_same r l false n e =
    let c = choice_left r (of_both l l) false n e in
    let m = ((is_left r (of_both l l)).base c.0 c.1).0 in
    let soft = candidate_in true l (in_soft r c.0) refl (font_in_lem false l c.0 (cartridge_in l l c.0 m c.2)) in
    absurd (soft_first r (of_both l l) c.0 c.1 (in_left (in_soft r c.0) (candidates true l) (candidates false l) soft) c.2)
