-- The least of a list by a relation, and what the steps are made of: having, least, greatest, or_else, one after another.
-- Assumes nothing.
use Rattle.std.proofs.Common.{◌≡◌, ℕ, ◌+◌, ◌-◌, ◌*◌, ◌<◌, ◌≤◌, Bool, true, false, cond, ◌&&◌, ◌||◌, leb, ◌⊎◌, ◌↔◌, List, [], ◌∷◌, sym, refl, ap, ◌∙◌, inl, inr, ⊎_elim, le_trans, le_refl, mul-le-mul_right, arith, le-leb, leb-false, leb-true}
use Rattle.choice.specs.Lists.{In, having, every, or_if_empty, prefer, least, greatest}
use Rattle.choice.specs.Scores.{miss, digit}

-- a Bool with the equation that says which it is
pub whether : (b : Bool) → (b ≡ true) ⊎ (b ≡ false)
whether true = inl refl
whether false = inr refl

pub not_both : (b : Bool) → b ≡ true → b ≡ false → ⊥
not_both b p q = let z : ◌≡◌ {A = ℕ} 0 1 = cc in omega arith

pub or_left : (a b : Bool) → a ≡ true → (a || b) ≡ true
or_left a b e = rw e refl

pub or_right : (a b : Bool) → b ≡ true → (a || b) ≡ true
or_right true b e = refl
or_right false b e = e

pub or_rest : (a b : Bool) → a ≡ false → (a || b) ≡ true → b ≡ true
or_rest a b e h = rw e at h

pub miss_bound : (b : Bool) → miss b < 2
miss_bound true = omega arith
miss_bound false = omega arith

-- the order of two numbers of two digits, the high one first
joined : (a b c d k : ℕ) → c < k → d < k → ((a ≤ b) × (b ≤ a → c ≤ d)) ↔ (digit k a c ≤ digit k b d)
joined a b c d k hc hd = (to, fro)
  where
    -- a higher high digit outweighs the low ones
    over : (x y : ℕ) → x < y → x * k + k ≤ y * k
    over x y h = omega (arith, mul-le-mul_right k h)

    to : (a ≤ b) × (b ≤ a → c ≤ d) → a * k + c ≤ b * k + d
    to h = go (leb b a) refl
      where
        go : (s : Bool) → leb b a ≡ s → a * k + c ≤ b * k + d
        go true e = omega (arith, mul-le-mul_right k h.0, h.1 (leb-true b a e))
        go false e = omega (arith, over a b (leb-false b a e))

    fro : a * k + c ≤ b * k + d → (a ≤ b) × (b ≤ a → c ≤ d)
    fro h = (go (leb a b) refl, λ l. omega (arith, mul-le-mul_right k l))
      where
        go : (s : Bool) → leb a b ≡ s → a ≤ b
        go true e = leb-true a b e
        go false e = absurd (omega (arith, over b a (leb-false a b e)))

module _ {A : Type 0} where
  pub carry : (l : List A) {x y : A} → x ≡ y → In x l → In y l
  carry l e m = rw e at m

  pub in_having : (p : A → Bool) (l : List A) (x : A) → In x l → p x ≡ true → In x (having p l)
  unfolding having
  in_having p [] x m t = m
  in_having p (y ∷ l) x (inl e) t = rw (← e) (rw t (inl refl))
  in_having p (y ∷ l) x (inr m) t = go (p y) (in_having p l x m t)
    where
      go : (b : Bool) → In x (having p l) → In x (cond b (y ∷ having p l) (having p l))
      go true h = inr h
      go false h = h

  pub having_out : (p : A → Bool) (l : List A) (x : A) → In x (having p l) → In x l × (p x ≡ true)
  unfolding having
  having_out p [] x m = absurd m
  having_out p (y ∷ l) x m = go (p y) refl (having_out p l x) m
    where
      go : (b : Bool) → p y ≡ b → (In x (having p l) → In x l × (p x ≡ true)) → In x (cond b (y ∷ having p l) (having p l)) → In x (y ∷ l) × (p x ≡ true)
      go true e f (inl i) = (inl i, ap p i ∙ e)
      go true e f (inr m') = (inr (f m').0, (f m').1)
      go false e f m' = (inr (f m').0, (f m').1)

  pub every_at : (p : A → Bool) (l : List A) → every p l ≡ true → (x : A) → In x l → p x ≡ true
  unfolding every
  every_at p [] t x m = absurd m
  every_at p (y ∷ l) t x m = go (p y) refl t (λ t'. every_at p l t' x) m
    where
      go : (b : Bool) → p y ≡ b → (b && every p l) ≡ true → (every p l ≡ true → In x l → p x ≡ true) → In x (y ∷ l) → p x ≡ true
      go true e u f (inl i) = ap p i ∙ e
      go true e u f (inr m') = f u m'
      go false e u f m' = absurd (not_both false u refl)

  pub at_every : (p : A → Bool) (l : List A) → ((x : A) → In x l → p x ≡ true) → every p l ≡ true
  unfolding every
  at_every p [] h = refl
  at_every p (y ∷ l) h = rw (h y (inl refl)) (at_every p l (λ x m. h x (inr m)))

  -- m holds those with the property P that come first by R: x comes no later than y if R x y
  pub record Is (P : A → Type 0) (R : A → A → Type 0) (m : List A) : Type 0 where
    pub base : (x : A) → In x m → P x
    pub low : (x y : A) → In x m → P y → R x y
    pub back : (x : A) → P x → ((y : A) → P y → R x y) → In x m
    pub some : (x : A) → P x → (y : A) × In y m

  -- the same under another property and another relation that say the same
  pub is_same : {P Q : A → Type 0} {R S : A → A → Type 0} {m : List A} → ((x : A) → P x ↔ Q x) → ((x y : A) → P x → P y → R x y ↔ S x y)
      → Is P R m → Is Q S m
  is_same pq rs i =
      record {
        base = λ x h. (pq x).0 (i.base x h);
        low = λ x y h q. (rs x y (i.base x h) ((pq y).1 q)).0 (i.low x y h ((pq y).1 q));
        back = λ x q h. i.back x ((pq x).1 q) (λ y p. (rs x y ((pq x).1 q) p).1 (h y ((pq y).0 p)));
        some = λ x q. i.some x ((pq x).1 q);
      }

  -- one step after another: R first, then Q among those that R leaves
  abbrev pub Then : (A → A → Type 0) → (A → A → Type 0) → A → A → Type 0
  Then R Q x y = R x y × (R y x → Q x y)

  pub is_then : {P : A → Type 0} {R Q : A → A → Type 0} {m n : List A} → ((x y z : A) → R x y → R y z → R x z) → Is P R m → Is (λ x. In x m) Q n
      → Is P (Then R Q) n
  is_then tr i j =
      record {
        base = λ x h. i.base x (j.base x h);
        low = λ x y h p. (i.low x y (j.base x h) p, λ ryx. j.low x y h (i.back y p (λ z pz. tr y x z ryx (i.low x z (j.base x h) pz))));
        back = λ x p h. j.back x (i.back x p (λ y py. (h y py).0)) (λ y my. (h y (i.base y my)).1 (i.low y x my p));
        some = λ x p. j.some (i.some x p).0 (i.some x p).1;
      }

  -- x comes no later than y by the number s
  abbrev pub By : (A → ℕ) → A → A → Type 0
  By s x y = s x ≤ s y

  -- two steps by numbers are one by the joined number, if the second number is below the base k
  pub is_join : {P : A → Type 0} {m n : List A} (s t : A → ℕ) (k : ℕ) → ((x : A) → t x < k) → Is P (By s) m → Is (λ x. In x m) (By t) n
      → Is P (By (λ x. digit k (s x) (t x))) n
  is_join s t k b i j =
      is_same (λ x. (λ p. p, λ p. p)) (λ x y _ _. joined (s x) (s y) (t x) (t y) k (b x) (b y)) (is_then (λ x y z h h'. le_trans h h') i j)

  -- those that pass a test
  pub is_having : (p : A → Bool) (l : List A) → Is (λ x. In x l × (p x ≡ true)) (By (λ x. 0)) (having p l)
  is_having p l =
      record {
        base = having_out p l;
        low = λ x y m q. le_refl 0;
        back = λ x q h. in_having p l x q.0 q.1;
        some = λ x q. (x, in_having p l x q.0 q.1);
      }

  pub is_all : (l : List A) → Is (λ x. In x l) (By (λ x. 0)) l
  is_all l = record { base = λ x m. m; low = λ x y m q. le_refl 0; back = λ x m h. m; some = λ x m. (x, m) }

  -- those that come first by a test of two that is total and transitive
  module _ (r : A → A → Bool) (refl' : (x : A) → r x x ≡ true) (total : (x y : A) → r x y ≡ false → r y x ≡ true)
      (trans : (x y z : A) → r x y ≡ true → r y z ≡ true → r x z ≡ true) where
    first : (x : A) (l : List A) → (y : A) × In y (x ∷ l) × ((z : A) → In z (x ∷ l) → r y z ≡ true)
    first x [] = (x, inl refl, λ z. ⊎_elim (λ e. rw e (refl' x)) (λ m. absurd m))
    first x (w ∷ l) = go (first w l)
      where
        go : (y : A) × In y (w ∷ l) × ((z : A) → In z (w ∷ l) → r y z ≡ true)
            → (y : A) × In y (x ∷ w ∷ l) × ((z : A) → In z (x ∷ w ∷ l) → r y z ≡ true)
        go f =
            ⊎_elim
            (λ xy. (x, inl refl, λ z. ⊎_elim (λ e. rw e (refl' x)) (λ m. trans x f.0 z xy (f.2 z m))))
            (λ xy. (f.0, inr f.1, λ z. ⊎_elim (λ e. rw e (total x f.0 xy)) (λ m. f.2 z m)))
            (whether (r x f.0))

    pub is_first : (l : List A) → Is (λ x. In x l) (λ x y. r x y ≡ true) (having (λ x. every (r x) l) l)
    is_first l =
        record {
          base = λ x m. (having_out (λ x. every (r x) l) l x m).0;
          low = λ x y m q. every_at (r x) l (having_out (λ x. every (r x) l) l x m).1 y q;
          back = λ x m h. in_having (λ x. every (r x) l) l x m (at_every (r x) l h);
          some = λ x m. one l x m;
        }
      where
        one : (l : List A) (x : A) → In x l → (y : A) × In y (having (λ x. every (r x) l) l)
        one [] x m = absurd m
        one (w ∷ l') x m = ((first w l').0, in_having (λ x. every (r x) (w ∷ l')) (w ∷ l') (first w l').0 (first w l').1 (at_every (r (first w l').0) (w ∷ l') (first w l').2))

  -- the least and the greatest, by numbers t that stand as what is compared does
  module _ {K : Type 0} (le : K → K → Bool) (s : A → K) (t : A → ℕ) (as-t : (x y : A) → le (s x) (s y) ≡ leb (t x) (t y)) where
    to_t : {x y : A} → le (s x) (s y) ≡ true → t x ≤ t y
    to_t {x} {y} h = leb-true (t x) (t y) (sym (as-t x y) ∙ h)

    of_t : {x y : A} → t x ≤ t y → le (s x) (s y) ≡ true
    of_t {x} {y} h = as-t x y ∙ le-leb (t x) (t y) h

    le_total : (x y : A) → le (s x) (s y) ≡ false → le (s y) (s x) ≡ true
    le_total x y h = of_t (omega (arith, leb-false (t x) (t y) (sym (as-t x y) ∙ h)))

    pub is_least : (l : List A) → Is (λ x. In x l) (By t) (least le s l)
    unfolding least
    is_least l =
        is_same (λ x. (λ m. m, λ m. m)) (λ x y p q. (to_t, of_t))
        (is_first (λ x y. le (s x) (s y)) (λ x. of_t (le_refl (t x))) le_total (λ x y z h k. of_t (le_trans (to_t h) (to_t k))) l)

    pub is_greatest : (k : ℕ) → ((x : A) → t x ≤ k) → (l : List A) → Is (λ x. In x l) (By (λ x. k - t x)) (greatest le s l)
    unfolding greatest
    is_greatest k b l =
        is_same (λ x. (λ m. m, λ m. m)) (λ x y p q. (λ h. omega (arith, to_t h), λ h. of_t (omega (arith, b x, b y))))
        (is_first (λ x y. le (s y) (s x)) (λ x. of_t (le_refl (t x))) (λ x y. le_total y x) (λ x y z h k. of_t (le_trans (to_t k) (to_t h))) l)

    -- of those that pass a test
    pub least_of : (p : A → Bool) (l : List A) → Is (λ x. In x l × (p x ≡ true)) (By t) (least le s (having p l))
    least_of p l = is_same (λ x. (having_out p l x, λ w. in_having p l x w.0 w.1)) (λ x y _ _. (λ h. h, λ h. h)) (is_least (having p l))

    pub greatest_of :
        (k : ℕ) → ((x : A) → t x ≤ k) → (p : A → Bool) (l : List A) → Is (λ x. In x l × (p x ≡ true)) (By (λ x. k - t x)) (greatest le s (having p l))
    greatest_of k b p l =
        is_same (λ x. (having_out p l x, λ w. in_having p l x w.0 w.1)) (λ x y _ _. (λ h. h, λ h. h)) (is_greatest k b (having p l))

  -- the first list or, where nothing is in it, the second: what passes p comes before what does not
  module _ (l : List A) (p q : A → Bool) (s t : A → ℕ) (k : ℕ) (b : (x : A) → s x < k) where
    score : A → ℕ
    score x = cond (p x) (s x) (k + t x)

    yes_score : (x : A) → p x ≡ true → score x ≡ s x
    unfolding score
    yes_score x e = rw e

    no_score_lem : (x : A) → p x ≡ false → score x ≡ k + t x
    unfolding score
    no_score_lem x e = rw e

    pub is_or_else : {m n : List A} → Is (λ x. In x l × (p x ≡ true)) (By s) m → Is (λ x. In x l × (q x ≡ true)) (By t) n
        → Is (λ x. In x l × ((p x || q x) ≡ true)) (By (λ x. cond (p x) (s x) (k + t x))) (or_if_empty m n)
    unfolding or_if_empty score
    is_or_else {m = []} i j =
        record {
          base = λ x h. ((j.base x h).0, or_right (p x) (q x) (j.base x h).1);
          low = λ x y h w. omega (arith, no_score_lem x (none x (j.base x h).0), no_score_lem y (none y w.0), j.low x y h (w.0, or_rest (p y) (q y) (none y w.0) w.1));
          back = λ x w h. j.back x (w.0, or_rest (p x) (q x) (none x w.0) w.1)
              (λ y v. omega (arith, no_score_lem x (none x w.0), no_score_lem y (none y v.0), h y (v.0, or_right (p y) (q y) v.1)));
          some = λ x w. j.some x (w.0, or_rest (p x) (q x) (none x w.0) w.1);
        }
      where
        none : (x : A) → In x l → p x ≡ false
        none x m = ⊎_elim (λ e. absurd (i.some x (m, e)).1) (λ e. e) (whether (p x))
    is_or_else {m = z ∷ m} i j =
        record {
          base = λ x h. ((i.base x h).0, or_left (p x) (q x) (i.base x h).1);
          low = λ x y h w. ⊎_elim (λ e. omega (arith, yes_score x (i.base x h).1, yes_score y e, i.low x y h (w.0, e)))
              (λ e. omega (arith, yes_score x (i.base x h).1, no_score_lem y e, b x)) (whether (p y));
          back = λ x w h. ⊎_elim
              (λ e. i.back x (w.0, e) (λ y v. omega (arith, yes_score x e, yes_score y v.1, h y (v.0, or_left (p y) (q y) v.1))))
              (λ e. absurd (omega (arith, no_score_lem x e, yes_score z (i.base z (inl refl)).1, b z, h z ((i.base z (inl refl)).0, or_left (p z) (q z) (i.base z (inl refl)).1))))
              (whether (p x));
          some = λ x w. (z, inl refl);
        }

  -- those that pass the test, if any does
  pub is_prefer : (p : A → Bool) (l : List A) → Is (λ x. In x l) (By (λ x. miss (p x))) (prefer p l)
  unfolding prefer
  is_prefer p l =
      is_same (λ x. (λ w. w.0, λ m. (m, or_right (p x) true refl))) (λ x y _ _. (λ h. h, λ h. h))
      (is_or_else l p (λ x. true) (λ x. 0) (λ x. 0) 1 (λ x. omega arith) (is_having p l)
      (is_same (λ x. (λ m. (m, refl), λ w. w.0)) (λ x y _ _. (λ h. h, λ h. h)) (is_all l)))

  -- such a step after another is one digit more
  pub then_prefer : {P : A → Type 0} {s : A → ℕ} {m : List A} (p : A → Bool) → Is P (By s) m → Is P (By (λ x. digit 2 (s x) (miss (p x)))) (prefer p m)
  then_prefer {s = s} {m = m} p i = is_join s (λ x. miss (p x)) 2 (λ x. miss_bound (p x)) i (is_prefer p m)

  -- another number that is the same for each
  pub is_score : {P : A → Type 0} {s : A → ℕ} {m : List A} (t : A → ℕ) → ((x : A) → P x → t x ≡ s x) → Is P (By s) m → Is P (By t) m
  is_score {s = s} t e i = is_same (λ x. (λ p. p, λ p. p)) (λ x y p q. (λ h. rw (e x p, e y q) h, λ h. rw (← (e x p), ← (e y q)) h)) i
