-- Each step leaves those with the least number for it, and all of them the font whose score comes first. Assumes nothing.
use Rattle.std.proofs.Common.{◌≡◌, ◌+◌, ◌-◌, ◌<◌, ◌≤◌, Bool, true, false, cond, not, ◌&&◌, ◌||◌, eqb, leb, List, ℤ, pos, refl, ◌∙◌, ap₂, ⊎_elim, le_trans, arith}
use mathlib.Core.Bool.{beq}
use lib.Signed.{le_z, lt_z}
use Rattle.blocks.specs.Field.{byte}
use Rattle.choice.specs.Candidates.{Candidate}
use Rattle.choice.specs.Lists.{In, having, every, or_if_empty, least, greatest}
use Rattle.choice.specs.Fields.{header_of, is_fixed, is_fine, compared_pitch, weight_of}
use Rattle.choice.specs.Request.{asked_weight}
use Rattle.choice.specs.Steps.{has_set, by_set, has_spacing, by_spacing, qualifies, by_pitch, height_off, by_height, has_style, by_style, exact, is_thicker, is_thinner, nearest_thicker, nearest_thinner, by_weight, has_typeface, by_typeface, by_resolution, by_store, has_orientation, by_orientation, by_number, steps, worked, fonts_left, takes_part}
use Rattle.choice.specs.Scores.{miss, most_compared, pitch_base, pitch_number, thickness, weight_base, pitch_score, weight_number, weight_score, major_of, minor_of, score_of}
use Rattle.choice.specs.declared.Request.{Request}
use Rattle.choice.specs.declared.Score.{Score}
use Rattle.choice.proofs.Least.{whether, in_having, having_out, not_both, or_left, or_right, or_rest, every_at, at_every, Is, is_same, is_then, By, is_join, is_having, is_all, is_least, least_of, greatest_of, is_or_else, is_prefer, then_prefer, is_score, miss_bound}
use Rattle.choice.proofs.Signed.{lt_z_not, raise_le, Raised, raised_byte}
use Rattle.choice.proofs.Fields.{byte_bound, pitch_bound}

-- the numbers that are joined have bounds
thickness_bound : (f : Candidate) → thickness f ≤ 255
thickness_bound f = omega arith

pub pitch_score_bound : (r : Request) (f : Candidate) → pitch_score r f < pitch_base
unfolding pitch_score
pitch_score_bound r f = go (is_fixed f) (qualifies r f) (pitch_bound f)
  where
    go : (b c : Bool) → compared_pitch f ≤ most_compared → pitch_number b c (compared_pitch f) < pitch_base
    go true true h = omega arith
    go true false h = omega arith
    go false c h = omega arith

weight_score_bound : (r : Request) (f : Candidate) → weight_score r f < weight_base
unfolding weight_score
weight_score_bound r f = go (exact r f) (le_z (pos 0) (asked_weight r)) (is_thicker r f) (is_thinner r f) (thickness_bound f)
  where
    go : (e u k n : Bool) → thickness f ≤ 255 → weight_number e u k n (thickness f) < weight_base
    go true u k n h = omega arith
    go false true true n h = omega arith
    go false true false n h = omega arith
    go false false k true h = omega arith
    go false false k false h = omega arith

-- weights stand as their thicknesses do
as_thickness : (x y : Candidate) → le_z (weight_of x) (weight_of y) ≡ leb (thickness x) (thickness y)
unfolding weight_of
as_thickness x y =
    raise_le 128 (weight_of x) (weight_of y) rx.low ry.low ∙ ap₂ leb rx.is ry.is
  where
    rx : Raised 128 8 (byte (header_of x) 24)
    rx = raised_byte (byte (header_of x) 24) (byte_bound x.kept 24)

    ry : Raised 128 8 (byte (header_of y) 24)
    ry = raised_byte (byte (header_of y) 24) (byte_bound y.kept 24)

-- a weight that is not the one asked for is thicker or thinner
exact_or_beside : (a b : ℤ) → ((le_z a b && le_z b a) || (lt_z a b || lt_z b a)) ≡ true
exact_or_beside a b = rw (lt_z_not a b, lt_z_not b a) (go (le_z a b) (le_z b a))
  where
    go : (p q : Bool) → ((p && q) || (not q || not p)) ≡ true
    go true true = refl
    go true false = refl
    go false true = refl
    go false false = refl

or_swap : (a b c : Bool) → (a || (b || c)) ≡ true → (a || (c || b)) ≡ true
or_swap true b c h = refl
or_swap false b c h = ⊎_elim (λ e. or_right c b e) (λ e. or_left c b (or_rest b c e h)) (whether b)

module _ (r : Request) where
  is_by_set : (l : List Candidate) → Is (λ x. In x l × (takes_part r x ≡ true)) (By (λ x. miss (has_set r.symbol_set x))) (by_set r l)
  unfolding by_set
  is_by_set l =
      is_same (λ x. (having_out (takes_part r) l x, λ w. in_having (takes_part r) l x w.0 w.1)) (λ x y _ _. (λ h. h, λ h. h))
      (is_prefer (has_set r.symbol_set) (having (takes_part r) l))

  is_by_spacing : (l : List Candidate) → Is (λ x. In x l) (By (λ x. miss (has_spacing r x))) (by_spacing r l)
  unfolding by_spacing
  is_by_spacing l = is_prefer (has_spacing r) l

  -- those that step 2 leaves are all fixed or all proportional
  one_spacing : (l : List Candidate) (x y : Candidate) → In x (by_spacing r l) → In y (by_spacing r l) → is_fixed x ≡ is_fixed y
  unfolding has_spacing
  one_spacing l x y mx my =
      same (is_fixed x) (is_fixed y) (eqb r.spacing 0) ((is_by_spacing l).low x y mx ((is_by_spacing l).base y my)) ((is_by_spacing l).low y x my ((is_by_spacing l).base x mx))
    where
      same : (a b c : Bool) → miss (beq a c) ≤ miss (beq b c) → miss (beq b c) ≤ miss (beq a c) → a ≡ b
      same true true c h k = refl
      same false false c h k = refl
      same true false true h k = absurd (omega arith)
      same true false false h k = absurd (omega arith)
      same false true true h k = absurd (omega arith)
      same false true false h k = absurd (omega arith)

  is_by_pitch : (l : List Candidate) → ((x y : Candidate) → In x l → In y l → is_fixed x ≡ is_fixed y) → Is (λ x. In x l) (By (pitch_score r)) (by_pitch r l)
  unfolding by_pitch pitch_score
  is_by_pitch l one = go (every is_fixed l) refl
    where
      fixed : every is_fixed l ≡ true → (x : Candidate) → In x l → pitch_score r x ≡ cond (qualifies r x) (most_compared - compared_pitch x) (most_compared + 1 + compared_pitch x)
      fixed e x m = rw (every_at is_fixed l e x m)

      free : every is_fixed l ≡ false → (x : Candidate) → In x l → pitch_score r x ≡ 0
      free e x m =
          ⊎_elim (λ h. absurd (not_both (every is_fixed l) (at_every is_fixed l (λ y my. one y x my m ∙ h)) e)) (λ h. rw h) (whether (is_fixed x))

      go : (b : Bool) → every is_fixed l ≡ b
          → Is (λ x. In x l) (By (pitch_score r)) (cond b (or_if_empty (greatest leb compared_pitch (having (qualifies r) l)) (least leb compared_pitch l)) l)
      go true e =
          is_score (pitch_score r) (fixed e)
          (is_same (λ x. (λ w. w.0, λ m. (m, or_right (qualifies r x) true refl))) (λ x y _ _. (λ h. h, λ h. h))
          (is_or_else l (qualifies r) (λ x. true) (λ x. most_compared - compared_pitch x) compared_pitch (most_compared + 1) (λ x. omega arith)
          (greatest_of leb compared_pitch compared_pitch (λ x y. refl) most_compared pitch_bound (qualifies r) l)
          (is_same (λ x. (λ m. (m, refl), λ w. w.0)) (λ x y _ _. (λ h. h, λ h. h)) (is_least leb compared_pitch compared_pitch (λ x y. refl) l))))
      go false e = is_score (pitch_score r) (free e) (is_all l)

  is_by_height : (l : List Candidate) → Is (λ x. In x l) (By (height_off r)) (by_height r l)
  unfolding by_height
  is_by_height l = is_least leb (height_off r) (height_off r) (λ x y. refl) l

  is_by_weight : (l : List Candidate) → Is (λ x. In x l) (By (weight_score r)) (by_weight r l)
  unfolding by_weight weight_score nearest_thicker nearest_thinner exact is_thicker is_thinner
  is_by_weight l = go (le_z (pos 0) (asked_weight r))
    where
      thicker : Is (λ x. In x l × (is_thicker r x ≡ true)) (By thickness) (least le_z weight_of (having (is_thicker r) l))
      thicker = least_of le_z weight_of thickness as_thickness (is_thicker r) l

      thinner : Is (λ x. In x l × (is_thinner r x ≡ true)) (By (λ x. 255 - thickness x)) (greatest le_z weight_of (having (is_thinner r) l))
      thinner = greatest_of le_z weight_of thickness as_thickness 255 thickness_bound (is_thinner r) l

      go : (b : Bool) → Is (λ x. In x l) (By (λ x. weight_number (exact r x) b (is_thicker r x) (is_thinner r x) (thickness x)))
          (or_if_empty (having (exact r) l) (cond b (or_if_empty (nearest_thicker r l) (nearest_thinner r l)) (or_if_empty (nearest_thinner r l) (nearest_thicker r l))))
      go true =
          is_same (λ x. (λ w. w.0, λ m. (m, exact_or_beside (asked_weight r) (weight_of x)))) (λ x y _ _. (λ h. h, λ h. h))
          (is_or_else l (exact r) (λ x. is_thicker r x || is_thinner r x) (λ x. 0)
          (λ x. cond (is_thicker r x) (thickness x) (256 + (255 - thickness x))) 1 (λ x. omega arith)
          (is_having (exact r) l)
          (is_or_else l (is_thicker r) (is_thinner r) thickness (λ x. 255 - thickness x) 256 (λ x. omega (arith, thickness_bound x)) thicker thinner))
      go false =
          is_same (λ x. (λ w. w.0, λ m. (m, or_swap (exact r x) (is_thicker r x) (is_thinner r x) (exact_or_beside (asked_weight r) (weight_of x))))) (λ x y _ _. (λ h. h, λ h. h))
          (is_or_else l (exact r) (λ x. is_thinner r x || is_thicker r x) (λ x. 0)
          (λ x. cond (is_thinner r x) (255 - thickness x) (256 + thickness x)) 1 (λ x. omega arith)
          (is_having (exact r) l)
          (is_or_else l (is_thinner r) (is_thicker r) (λ x. 255 - thickness x) thickness 256 (λ x. omega arith) thinner thicker))

  is_by_number : (l : List Candidate) → Is (λ x. In x l) (By (λ x. x.number)) (by_number l)
  unfolding by_number
  is_by_number l = is_least leb (λ x. x.number) (λ x. x.number) (λ x y. refl) l

  is_major : (l : List Candidate) → Is (λ x. In x l × (takes_part r x ≡ true)) (By (major_of r)) (by_pitch r (by_spacing r (by_set r l)))
  unfolding major_of
  is_major l =
      is_join _ (pitch_score r) pitch_base (pitch_score_bound r)
      (is_join _ (λ x. miss (has_spacing r x)) 2 (λ x. miss_bound (has_spacing r x))
      (is_by_set l)
      (is_by_spacing (by_set r l)))
      (is_by_pitch (by_spacing r (by_set r l)) (one_spacing (by_set r l)))

  is_minor : (l : List Candidate) → Is (λ x. In x l) (By (minor_of r)) (by_orientation r (by_store (by_resolution (by_typeface r (by_weight r (by_style r (by_height r l)))))))
  unfolding minor_of by_style by_typeface by_resolution by_store by_orientation
  is_minor l =
      then_prefer (has_orientation r)
      (then_prefer (λ f. f.soft)
      (then_prefer is_fine
      (then_prefer (has_typeface r)
      (is_join _ (weight_score r) weight_base (weight_score_bound r)
      (then_prefer (has_style r)
      (is_by_height l))
      (is_by_weight _)))))

-- a comes before b or is level with it
abbrev pub Ahead : Score → Score → Type 0
Ahead a b = (a.major ≤ b.major) × (b.major ≤ a.major → (a.minor ≤ b.minor) × (b.minor ≤ a.minor → a.number ≤ b.number))

unfoldable pub Before : Request → Candidate → Candidate → Type 0
Before r x y = Ahead (score_of r x) (score_of r y)

pub is_left : (r : Request) (l : List Candidate) → Is (λ x. In x l × (takes_part r x ≡ true)) (Before r) (fonts_left r l)
unfolding fonts_left steps worked Before score_of
is_left r l =
    is_then (λ x y z h k. le_trans h k) (is_major r l) (is_then (λ x y z h k. le_trans h k) (is_minor r _) (is_by_number r _))
