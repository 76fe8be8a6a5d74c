-- One pass that keeps the best so far finds the choice. Assumes nothing.
use Rattle.std.proofs.Common.{◌≡◌, ℕ, ◌<◌, ◌≤◌, Bool, true, false, cond, ◌&&◌, ◌||◌, eqb, ltb, ◌⊎◌, List, [], ◌∷◌, ◌++◌, sym, refl, ap, ◌∙◌, inl, inr, ⊎_elim, arith, ltb-false, ltb-true, le-ltb, lt-ltb, eq-eqb, ne_eqb, eqb-true}
use Rattle.std.specs.Prelude.{Some}
use Rattle.std.specs.Ordering.{partial_ordering_then, nat_cmp, is_lt, is_some_and}
use Rattle.std.specs.declared.cmp.Ordering.TheVariants.{Less, Equal, Greater}
use borrow.Author.Tests.{eqb-false}
use Rattle.choice.specs.Candidates.{Candidate}
use Rattle.choice.specs.Lists.{In}
use Rattle.choice.specs.Steps.{chosen, has_set, has_spacing, fonts_left, choice, takes_part}
use Rattle.choice.specs.Scores.{major_of, minor_of, score_of, comes_before, better, better_at, no_major, no_score, weighed, weighed_at, pass, score_answer}
use Rattle.choice.specs.Right.{Keyed}
use Rattle.choice.specs.declared.Request.{Request}
use Rattle.choice.specs.declared.BestSoFar.{BestSoFar}
use Rattle.choice.specs.declared.Score.{Score}
use Rattle.choice.proofs.Least.{whether, carry, not_both, miss_bound}
use Rattle.choice.proofs.Steps.{pitch_score_bound, Ahead, Before, is_left}
use Rattle.choice.proofs.Choice.{level as level-one, choice_is, choice_none, either, stands}

-- a test that decides by the numbers a and b and, where they are level, by the test that follows
module _ (a b : ℕ) (rest : Bool) {R : Type 0} where
  decided : (ltb a b || (eqb a b && rest)) ≡ true → (rest ≡ true → R) → (a ≤ b) × (b ≤ a → R)
  decided t f = go (ltb a b) refl (eqb a b) refl t
    where
      go : (p : Bool) → ltb a b ≡ p → (q : Bool) → eqb a b ≡ q → (p || (q && rest)) ≡ true → (a ≤ b) × (b ≤ a → R)
      go true e q u h = (omega (arith, ltb-true a b e), λ k. absurd (omega (arith, ltb-true a b e)))
      go false e true u h = (omega (arith, eqb-true a b u), λ k. f h)
      go false e false u h = absurd (not_both false h refl)

  undecided : (ltb a b || (eqb a b && rest)) ≡ false → (rest ≡ false → R) → (b ≤ a) × (a ≤ b → R)
  undecided t f = go (ltb a b) refl (eqb a b) refl t
    where
      go : (p : Bool) → ltb a b ≡ p → (q : Bool) → eqb a b ≡ q → (p || (q && rest)) ≡ false → (b ≤ a) × (a ≤ b → R)
      go true e q u h = absurd (not_both true refl h)
      go false e true u h = (ltb-false a b e, λ k. f h)
      go false e false u h = (ltb-false a b e, λ k. absurd (omega (arith, ltb-false a b e, eqb-false a b u)))

-- the better of two scores, with the order that it shows
which : (b s : Score) → ((better b s ≡ s) × Ahead s b) ⊎ ((better b s ≡ b) × Ahead b s)
unfolding better
which b s =
    ⊎_elim
    (λ e. inl (rw e, decided _ _ _ e (λ u. decided _ _ _ u (λ v. omega (arith, ltb-true s.number b.number v)))))
    (λ e. inr (rw e, undecided _ _ _ e (λ u. undecided _ _ _ u (λ v. ltb-false s.number b.number v))))
    (whether (comes_before s b))

-- a score that a higher number of steps 1 to 3 puts behind needs no other number
behind : (b s : Score) → b.major < s.major → comes_before s b ≡ false
behind b s h = simp (le-ltb s.major b.major (omega arith), ne_eqb s.major b.major (λ e. omega arith))

major_bound : (r : Request) (f : Candidate) → major_of r f < no_major
unfolding major_of
major_bound r f = omega (arith, miss_bound (has_set r.symbol_set f), miss_bound (has_spacing r f), pitch_score_bound r f)

module _ (r : Request) where
  -- the best so far is the score of one of the fonts, or of none
  data BestOf (b : Score) : List Candidate → Type 0 where
    nothing : b.major ≡ no_major → BestOf b []
    some : (f : Candidate) → takes_part r f ≡ true → b ≡ score_of r f → BestOf b (f ∷ [])

  Carried : Score → List Candidate → List Candidate → Type 0
  Carried b l k = (h : List Candidate) × BestOf b h × Keyed (h ++ l) × (choice r (h ++ l) ≡ choice r k)

  -- a font that takes no part may go
  passed_over : (h : List Candidate) (f : Candidate) (l : List Candidate) → takes_part r f ≡ false → Keyed (h ++ f ∷ l)
      → Keyed (h ++ l) × (choice r (h ++ l) ≡ choice r (h ++ f ∷ l))
  passed_over h f l t kd =
      (λ x y mx my. kd x y (sub h x mx) (sub h y my), stands r (h ++ f ∷ l) (h ++ l) kd (sub h) (λ c m. has h c ((is_left r (h ++ f ∷ l)).base c m).1 ((is_left r (h ++ f ∷ l)).base c m).0))
    where
      sub : (h : List Candidate) (x : Candidate) → In x (h ++ l) → In x (h ++ f ∷ l)
      sub [] x m = inr m
      sub (g ∷ h) x (inl e) = inl e
      sub (g ∷ h) x (inr m) = inr (sub h x m)

      has : (h : List Candidate) (c : Candidate) → takes_part r c ≡ true → In c (h ++ f ∷ l) → In c (h ++ l)
      has [] c p (inl e) = absurd (not_both (takes_part r c) p (ap (takes_part r) e ∙ t))
      has [] c p (inr m) = m
      has (g ∷ h) c p (inl e) = inl e
      has (g ∷ h) c p (inr m) = inr (has h c p m)

  compared : (b : Score) (h : List Candidate) (f : Candidate) (l : List Candidate) → takes_part r f ≡ true → BestOf b h → Keyed (h ++ f ∷ l)
      → Carried (better b (score_of r f)) l (h ++ f ∷ l)
  unfolding Carried score_of Before
  compared b [] f l t (nothing e) kd =
      ⊎_elim (λ w. (f ∷ [], some f t w.0, kd, refl)) (λ w. absurd (omega (arith, w.1.0, major_bound r f))) (which b (score_of r f))
  compared b (g ∷ []) f l t (some _ u e) kd = ⊎_elim new old (which b (score_of r f))
    where
      all : List Candidate
      all = g ∷ f ∷ l

      -- of two that are level there is one
      level : Before r g f → Before r f g → g ≡ f
      level h k = level-one r all kd g f (inl refl) (inr (inl refl)) h k

      new : (better b (score_of r f) ≡ score_of r f) × Ahead (score_of r f) b → Carried (better b (score_of r f)) l (g ∷ f ∷ l)
      new w = (
        f ∷ [],
        some f t w.0,
        λ x y mx my. kd x y (inr mx) (inr my),
        stands r all (f ∷ l) kd (λ x m. inr m)
            (λ c m. ⊎_elim (λ i. inl (i ∙ level ((is_left r all).low g f (carry (fonts_left r all) i m) (inr (inl refl), t)) (rw e at w.1))) (λ n. n) ((is_left r all).base c m).0),
      )

      old : (better b (score_of r f) ≡ b) × Ahead b (score_of r f) → Carried (better b (score_of r f)) l (g ∷ f ∷ l)
      old w = (
        g ∷ [],
        some g u (w.0 ∙ e),
        λ x y mx my. kd x y (⊎_elim inl (λ n. inr (inr n)) mx) (⊎_elim inl (λ n. inr (inr n)) my),
        stands r all (g ∷ l) kd (λ x. ⊎_elim inl (λ n. inr (inr n)))
            (λ c m. ⊎_elim (λ i. inl i)
            (⊎_elim (λ i. inl (i ∙ sym (level (rw e at w.1) ((is_left r all).low f g (carry (fonts_left r all) i m) (inl refl, u))))) (λ n. inr n))
            ((is_left r all).base c m).0),
      )
  compared b (g ∷ (_ ∷ _)) f l t x7 kd = elim x7 [ ]

  one_more : (b : Score) (h : List Candidate) (f : Candidate) (l : List Candidate) → BestOf b h → Keyed (h ++ f ∷ l) → Carried (weighed r b f) l (h ++ f ∷ l)
  unfolding weighed Carried
  one_more b h f l hb kd =
      ⊎_elim (λ t. rw t (compared b h f l t hb kd)) (λ t. rw t (h, hb, (passed_over h f l t kd).0, (passed_over h f l t kd).1)) (whether (takes_part r f))

  passes : (l : List Candidate) (b : Score) (h : List Candidate) → BestOf b h → Keyed (h ++ l) → score_answer (pass r b l) ≡ choice r (h ++ l)
  unfolding pass score_of Carried
  passes [] b [] (nothing e) kd = simp (eq-eqb _ _ e) (sym (choice_none r [] (λ x m. absurd m)))
  passes [] b (f ∷ []) (some _ t e) kd = rw e (simp (ne_eqb (major_of r f) no_major (λ z. omega (arith, major_bound r f))) (sym one))
    where
      one : choice r (f ∷ []) ≡ chosen f.soft f.number
      one =
          ⊎_elim (λ a. absurd (not_both (takes_part r f) t (a.1 f (inl refl))))
          (λ c. ⊎_elim (λ i. choice_is r (f ∷ []) kd c.0 c.1 ∙ ap (λ (x : Candidate). chosen x.soft x.number) i) (λ n. absurd n) ((is_left r (f ∷ [])).base c.0 c.1).0)
          (either r (f ∷ []))
  passes [] b (f ∷ (_ ∷ _)) hb kd = elim hb [ ]
  passes (f ∷ l) b h hb kd =
      let n = one_more b h f l hb kd in
      passes l (weighed r b f) n.0 n.1 n.2 ∙ n.3

  -- the pass over all the fonts gives the choice
  pub once : (p : Bool) (l : List Candidate) → Keyed l → score_answer (pass r (no_score p) l) ≡ choice r l
  once p l kd = passes l (no_score p) [] (nothing refl) kd

-- ── a pass over two lists is the better of a pass over each
-- the test by two numbers and what follows, from the order
decides : (a b : ℕ) (rest : Bool) → a ≤ b → (b ≤ a → rest ≡ true) → (ltb a b || (eqb a b && rest)) ≡ true
decides a b rest h f = go (ltb a b) refl (eqb a b) refl
  where
    go : (p : Bool) → ltb a b ≡ p → (q : Bool) → eqb a b ≡ q → (p || (q && rest)) ≡ true
    go true e q u = refl
    go false e true u = f (ltb-false a b e)
    go false e false u = absurd (omega (arith, ltb-false a b e, eqb-false a b u))

undecides : (a b : ℕ) (rest : Bool) → b ≤ a → (a ≤ b → rest ≡ false) → (ltb a b || (eqb a b && rest)) ≡ false
undecides a b rest h f = rw (le-ltb a b h) (go (eqb a b) refl)
  where
    go : (q : Bool) → eqb a b ≡ q → (q && rest) ≡ false
    go true u = f (omega (arith, eqb-true a b u))
    go false u = refl

module _ (a b c : ℕ) {p q r : Bool} where
  decided_both : (ltb a b || (eqb a b && p)) ≡ true → (ltb b c || (eqb b c && q)) ≡ true → (p ≡ true → q ≡ true → r ≡ true)
      → (ltb a c || (eqb a c && r)) ≡ true
  decided_both h k f =
      let x = decided a b p h (λ u. u) in
      let y = decided b c q k (λ u. u) in
      decides a c r (omega (arith, x.0, y.0)) (λ z. f (x.1 (omega (arith, y.0))) (y.1 (omega (arith, x.0))))

  undecided_both : (ltb a b || (eqb a b && p)) ≡ false → (ltb b c || (eqb b c && q)) ≡ false → (p ≡ false → q ≡ false → r ≡ false)
      → (ltb a c || (eqb a c && r)) ≡ false
  undecided_both h k f =
      let x = undecided a b p h (λ u. u) in
      let y = undecided b c q k (λ u. u) in
      undecides a c r (omega (arith, x.0, y.0)) (λ z. f (x.1 (omega (arith, y.0))) (y.1 (omega (arith, x.0))))

before_before : (a b c : Score) → comes_before a b ≡ true → comes_before b c ≡ true → comes_before a c ≡ true
before_before a b c h k =
    decided_both a.major b.major c.major h k
    (λ u v. decided_both a.minor b.minor c.minor u v
    (λ x y. lt-ltb a.number c.number (omega (arith, ltb-true a.number b.number x, ltb-true b.number c.number y))))

not_not_before : (a b c : Score) → comes_before a b ≡ false → comes_before b c ≡ false → comes_before a c ≡ false
not_not_before a b c h k =
    undecided_both a.major b.major c.major h k
    (λ u v. undecided_both a.minor b.minor c.minor u v
    (λ x y. le-ltb a.number c.number (omega (arith, ltb-false a.number b.number x, ltb-false b.number c.number y))))

better_of_three : (b x y : Score) → better (better b x) y ≡ better b (better x y)
unfolding better
better_of_three b x y = go (comes_before x b) refl (comes_before y x) refl
  where
    go : (p : Bool) → comes_before x b ≡ p → (q : Bool) → comes_before y x ≡ q
        → cond (comes_before y (cond p x b)) y (cond p x b) ≡ cond (comes_before (cond q y x) b) (cond q y x) b
    go true e true u = rw (u, before_before y x b u e) refl
    go true e false u = rw (u, e) refl
    go false e true u = refl
    go false e false u = rw (e, not_not_before y x b u e) refl

-- no font, or the score of one
Known : Score → Type 0
Known b = ((p : Bool) × (b ≡ no_score p)) ⊎ (b.major < no_major)

better_than_none : (p : Bool) (b : Score) → Known b → better b (no_score p) ≡ b
unfolding better Known
better_than_none p b (inl (q, e)) = rw e refl
better_than_none p b (inr h) = rw (behind b (no_score p) h) refl

none_so_far : (p : Bool) (s : Score) → s.major < no_major → better (no_score p) s ≡ s
unfolding better
none_so_far p s h = rw (lt-ltb s.major no_major h) refl

module _ (r : Request) where
  bound : (f : Candidate) → (score_of r f).major < no_major
  unfolding score_of
  bound f = major_bound r f

  known_font : (f : Candidate) → Known (score_of r f)
  unfolding Known
  known_font f = inr (bound f)

  known_next : (b : Score) (f : Candidate) → Known b → Known (weighed r b f)
  unfolding weighed
  known_next b f k = go (takes_part r f)
    where
      better_known : Known (better b (score_of r f))
      better_known = ⊎_elim (λ w. rw w.0 (known_font f)) (λ w. rw w.0 k) (which b (score_of r f))

      go : (t : Bool) → Known (cond t (better b (score_of r f)) b)
      go true = better_known
      go false = k

  pass_from : (p : Bool) (l : List Candidate) (b : Score) → Known b → pass r b l ≡ better b (pass r (no_score p) l)
  unfolding pass weighed
  pass_from p [] b k = sym (better_than_none p b k)
  pass_from p (f ∷ l) b k =
      ⊎_elim
      (λ t.
      pass_from p l (weighed r b f) (known_next b f k)
      ∙ rw t (better_of_three b (score_of r f) (pass r (no_score p) l)
      ∙ ap (better b) (sym (pass_from p l (score_of r f) (known_font f)))
      ∙ ap (λ (x : Score). better b (pass r x l)) (sym (none_so_far p (score_of r f) (bound f)))))
      (λ t. rw t (pass_from p l b k))
      (whether (takes_part r f))

  passes_joined : (p : Bool) (l k : List Candidate) (b : Score) → Known b → pass r b (l ++ k) ≡ better (pass r b l) (pass r (no_score p) k)
  unfolding pass
  passes_joined p [] k b h = pass_from p k b h
  passes_joined p (f ∷ l) k b h = passes_joined p l k (weighed r b f) (known_next b f h)

  pub of_two_lists : (l k : List Candidate) → pass r (no_score true) (l ++ k) ≡ better (pass r (no_score true) l) (pass r (no_score false) k)
  unfolding Known
  of_two_lists l k = passes_joined false l k (no_score true) (inl (true, refl))

-- the order of tuples of three numbers, as the library compares them, is that of scores
by_tests : (a b c d e f : Bool)
    → is_some_and is_lt (partial_ordering_then (partial_ordering_then (Some (cond a Less (cond b Equal Greater))) (Some (cond c Less (cond d Equal Greater)))) (Some (cond e Less (cond f Equal Greater))))
    ≡ (a || (b && (c || (d && e))))
by_tests true b c d e f = refl
by_tests false true true d e f = refl
by_tests false true false true true f = refl
by_tests false true false true false true = refl
by_tests false true false true false false = refl
by_tests false true false false e f = refl
by_tests false false c d e f = refl

pub tuple_before : (s b : Score)
    → is_some_and is_lt (partial_ordering_then (partial_ordering_then (Some (nat_cmp s.major b.major)) (Some (nat_cmp s.minor b.minor))) (Some (nat_cmp s.number b.number))) ≡ comes_before s b
tuple_before s b = by_tests (ltb s.major b.major) (eqb s.major b.major) (ltb s.minor b.minor) (eqb s.minor b.minor) (ltb s.number b.number) (eqb s.number b.number)

-- one font more, from what the code's calls give
module _ (r : Request) (b : BestSoFar) (f : Candidate) (k : ℕ) where
  pub weighed_out : takes_part r f ≡ false → b ≡ weighed_at r b f k
  unfolding weighed_at
  weighed_out t = rw t

  module _ (t : takes_part r f ≡ true) (m : ℕ) (em : m ≡ major_of r f) where
    pub weighed_behind : b.best.major < m → b ≡ weighed_at r b f k
    unfolding weighed_at better_at score_of
    weighed_behind h = rw (t, behind b.best (score_of r f) (rw em at h))

    pub weighed_in : (n : ℕ) → n ≡ minor_of r f → (x : BestSoFar) → x ≡ better_at b (record { major = m; minor = n; number = f.number; soft = f.soft }) k → x ≡ weighed_at r b f k
    unfolding weighed_at score_of
    weighed_in n en x ex = rw (t, ← em, ← en) ex
