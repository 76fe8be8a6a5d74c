-- Laws of the search over rules and codes. Assumes nothing.
use Prim.Native.Nat.{ℕ, zero, suc, ◌+◌, ◌≤◌, ◌<◌}
use mathlib.Core.Path.{◌≡◌, refl, ap, ◌∙◌, subst}
use mathlib.Core.List.{List, [], ◌∷◌}
use mathlib.Core.Bool.{Bool, true, false, cond}
use mathlib.Core.Option.{Option, none, some}
use native.Mathlib.Omega.{arith}
use borrow.Author.Tests.{eqb-true, eqb-false}
use lib.Dec.{eqb}
use Rattle.form.specs.Layout.{last_code}
use Rattle.form.specs.Model.{Rec}
use Rattle.profile.specs.Profile.{RuleBroken, Rule, rule_at, lowest_breaking, none_broken, broken_or, first_broken, BreaksFirst}

-- ── one rule over the codes
-- a test that holds at each of n codes from c on
pub none_lowest : (n c : ℕ) (t : ℕ → Bool) → ((d : ℕ) → c ≤ d → d < c + n → t d ≡ true) → lowest_breaking t c n ≡ none
unfolding lowest_breaking
none_lowest zero c t f = refl
none_lowest (suc n) c t f = rw (f c (omega arith) (omega arith)) (none_lowest n (c + 1) t (λ d a b. f d (omega arith) (omega arith)))

-- and the other way
pub all_hold : (n c : ℕ) (t : ℕ → Bool) → lowest_breaking t c n ≡ none → (d : ℕ) → c ≤ d → d < c + n → t d ≡ true
unfolding lowest_breaking
all_hold zero c t e d a b = absurd (omega arith)
all_hold (suc n) c t e d a b = go (t c) refl e (eqb c d) refl (all_hold n (c + 1) t)
  where
    go : (q : Bool) → t c ≡ q → cond q (lowest_breaking t (c + 1) n) (some c) ≡ none → (x : Bool) → eqb c d ≡ x
        → (lowest_breaking t (c + 1) n ≡ none → (d : ℕ) → c + 1 ≤ d → d < c + 1 + n → t d ≡ true) → t d ≡ true
    go true q e true x ih = subst (λ (i : ℕ). t i ≡ true) (eqb-true c d x) q
    go true q e false x ih = let z = eqb-false c d x in ih e d (omega arith) (omega arith)
    go false q e y x ih = let z : ◌≡◌ {A = ℕ} 0 1 = cc in absurd (omega arith)

-- one that fails at e, and at none of those before it
pub is_lowest : (n c e : ℕ) (t : ℕ → Bool) → c ≤ e → e < c + n → t e ≡ false → ((d : ℕ) → c ≤ d → d < e → t d ≡ true) → lowest_breaking t c n ≡ some e
unfolding lowest_breaking
is_lowest zero c e t a b x f = absurd (omega arith)
is_lowest (suc n) c e t a b x f = go (eqb c e) refl (λ l. is_lowest n (c + 1) e t l (omega arith) x (λ d y z. f d (omega arith) z))
  where
    go : (q : Bool) → eqb c e ≡ q → (c + 1 ≤ e → lowest_breaking t (c + 1) n ≡ some e) → cond (t c) (lowest_breaking t (c + 1) n) (some c) ≡ some e
    go true q ih = let i = eqb-true c e q in rw (i, x)
    go false q ih = let z = eqb-false c e q in rw (f c (omega arith) (omega arith)) (ih (omega arith))

-- and the other way
record Lowest (n c e : ℕ) (t : ℕ → Bool) : Type 0 where
  from : c ≤ e
  within : e < c + n
  fails : t e ≡ false
  before : (d : ℕ) → c ≤ d → d < e → t d ≡ true

lowest_is : (n c e : ℕ) (t : ℕ → Bool) → lowest_breaking t c n ≡ some e → Lowest n c e t
unfolding lowest_breaking
lowest_is zero c e t q = let z : ◌≡◌ {A = ℕ} 0 1 = cc in absurd (omega arith)
lowest_is (suc n) c e t q = go (t c) refl q (lowest_is n (c + 1) e t)
  where
    here : t c ≡ true → Lowest n (c + 1) e t → (d : ℕ) → c ≤ d → d < e → (x : Bool) → eqb c d ≡ x → t d ≡ true
    here p l d a b true x = subst (λ (i : ℕ). t i ≡ true) (eqb-true c d x) p
    here p l d a b false x = let z = eqb-false c d x in l.before d (omega arith) b

    go : (x : Bool) → t c ≡ x → cond x (lowest_breaking t (c + 1) n) (some c) ≡ some e → (lowest_breaking t (c + 1) n ≡ some e → Lowest n (c + 1) e t) → Lowest (suc n) c e t
    go true p q ih =
        let l = ih q in
        record { from = omega (arith, l.from); within = omega (arith, l.within); fails = l.fails; before = λ d a b. here p l d a b (eqb c d) refl }
    go false p q ih = let i : c ≡ e = cc in record { from = omega arith; within = omega arith; fails = subst (λ (k : ℕ). t k ≡ false) i p; before = λ d a b. absurd (omega arith) }

-- tests that agree at each of n codes from c on
same_lowest : (n c : ℕ) (t u : ℕ → Bool) → ((d : ℕ) → c ≤ d → d < c + n → t d ≡ u d) → lowest_breaking t c n ≡ lowest_breaking u c n
unfolding lowest_breaking
same_lowest zero c t u f = refl
same_lowest (suc n) c t u f = rw (f c (omega arith) (omega arith), same_lowest n (c + 1) t u (λ d a b. f d (omega arith) (omega arith)))

-- ── a list of rules
-- no rule looks beyond code 255
pub same_broken : (ts : List Rule) (i : ℕ) (h : List ℕ) (at to : ℕ → Option Rec) → ((c : ℕ) → c ≤ last_code → at c ≡ to c) → first_broken ts i h at ≡ first_broken ts i h to
unfolding first_broken
same_broken [] i h at to f = refl
same_broken (t ∷ ts) i h at to f =
    rw (same_lowest (last_code + 1) 0 (λ c. t h c (at c)) (λ c. t h c (to c)) (λ d a b. ap (t h d) (f d (omega arith))), same_broken ts (i + 1) h at to f)

module _ (h : List ℕ) (at : ℕ → Option Rec) where
  -- a rule at code c
  abbrev pub Holds : Rule → ℕ → Type 0
  Holds t c = t h c (at c) ≡ true

  pub rule_holds : (t : Rule) (ts : List Rule) (i : ℕ) → ((c : ℕ) → c ≤ last_code → Holds t c) → first_broken (t ∷ ts) i h at ≡ first_broken ts (i + 1) h at
  unfolding first_broken
  rule_holds t ts i f = rw (none_lowest (last_code + 1) 0 (λ c. t h c (at c)) (λ d a b. f d (omega arith)))

  pub rule_breaks : (t : Rule) (ts : List Rule) (i e : ℕ) → e ≤ last_code → t h e (at e) ≡ false → ((c : ℕ) → c < e → Holds t c) → first_broken (t ∷ ts) i h at ≡ record { rule = i; code = e }
  unfolding first_broken
  rule_breaks t ts i e l x f = rw (is_lowest (last_code + 1) 0 e (λ c. t h c (at c)) (omega arith) (omega arith) x (λ d a b. f d b))

  pub rules_hold : (ts : List Rule) (i : ℕ) → ((j c : ℕ) → c ≤ last_code → Holds (rule_at ts j) c) → first_broken ts i h at ≡ none_broken
  unfolding first_broken
  rules_hold [] i f = refl
  rules_hold (t ∷ ts) i f = rule_holds t ts i (f 0) ∙ rules_hold ts (i + 1) (λ j. f (suc j))

  pub rules_break : (ts : List Rule) (j i e : ℕ) → e ≤ last_code → ((k c : ℕ) → k < j → c ≤ last_code → Holds (rule_at ts k) c) → rule_at ts j h e (at e) ≡ false → ((c : ℕ) → c < e → Holds (rule_at ts j) c)
      → first_broken ts i h at ≡ record { rule = i + j; code = e }
  rules_break [] j i e l f x g = let z : ◌≡◌ {A = ℕ} 0 1 = cc in absurd (omega arith)
  rules_break (t ∷ ts) zero i e l f x g = let y : i ≡ i + 0 = omega arith in rule_breaks t ts i e l x g ∙ ap (λ (k : ℕ). record { rule = k; code = e }) y
  rules_break (t ∷ ts) (suc j) i e l f x g =
      let y : i + 1 + j ≡ i + suc j = omega arith in
      rule_holds t ts i (λ c m. f 0 c (omega arith) m) ∙ rules_break ts j (i + 1) e l (λ k c m. f (suc k) c (omega arith)) x g ∙ ap (λ (k : ℕ). record { rule = k; code = e }) y

  -- and the other way: where a rule is broken
  pub breaks_first : (ts : List Rule) (i : ℕ) → (first_broken ts i h at ≡ none_broken → ⊥) → BreaksFirst ts i h at (first_broken ts i h at)
  unfolding first_broken
  breaks_first [] i f = absurd (f refl)
  breaks_first (t ∷ ts) i f = go (lowest_breaking (λ c. t h c (at c)) 0 (last_code + 1)) refl f (breaks_first ts (i + 1))
    where
      held : ((c : ℕ) → c ≤ last_code → Holds t c) → (b : RuleBroken) (x : BreaksFirst ts (i + 1) h at b) (j c : ℕ) → j < suc x.place → c ≤ last_code → Holds (rule_at (t ∷ ts) j) c
      held g b x zero c l m = g c m
      held g b x (suc j) c l m = x.first j c (omega arith) m

      go : (o : Option ℕ) → lowest_breaking (λ c. t h c (at c)) 0 (last_code + 1) ≡ o → (broken_or i o (first_broken ts (i + 1) h at) ≡ none_broken → ⊥)
          → ((first_broken ts (i + 1) h at ≡ none_broken → ⊥) → BreaksFirst ts (i + 1) h at (first_broken ts (i + 1) h at))
          → BreaksFirst (t ∷ ts) i h at (broken_or i o (first_broken ts (i + 1) h at))
      go none q f ih =
          let x = ih f in
          let g : (c : ℕ) → c ≤ last_code → Holds t c = λ c m. all_hold (last_code + 1) 0 (λ c. t h c (at c)) q c (omega arith) (omega arith) in
          record { place = suc x.place; number = omega (arith, x.number); code = x.code; broken = x.broken; lowest = x.lowest; first = held g (first_broken ts (i + 1) h at) x }
      go (some e) q f ih =
          let l = lowest_is (last_code + 1) 0 e (λ c. t h c (at c)) q in
          record { place = 0; number = omega arith; code = omega (arith, l.within); broken = l.fails; lowest = λ c m. l.before c (omega arith) m; first = λ j c m k. absurd (omega arith) }

  -- where no rule is broken, each holds at each code
  pub none_broken_lem : (t : Rule) (ts : List Rule) (i : ℕ) → 0 < i → (first_broken (t ∷ ts) i h at).rule ≡ 0 → ((c : ℕ) → c ≤ last_code → Holds t c) × ((first_broken ts (i + 1) h at).rule ≡ 0)
  unfolding first_broken
  none_broken_lem t ts i l e = go (lowest_breaking (λ c. t h c (at c)) 0 (last_code + 1)) refl e
    where
      go : (o : Option ℕ) → lowest_breaking (λ c. t h c (at c)) 0 (last_code + 1) ≡ o → (broken_or i o (first_broken ts (i + 1) h at)).rule ≡ 0
          → ((c : ℕ) → c ≤ last_code → Holds t c) × ((first_broken ts (i + 1) h at).rule ≡ 0)
      go none q e = ((λ c m. all_hold (last_code + 1) 0 (λ c. t h c (at c)) q c (omega arith) (omega arith)), e)
      go (some c) q e = absurd (omega (arith, e))

  pub all_held : (ts : List Rule) (i : ℕ) → 0 < i → (first_broken ts i h at).rule ≡ 0 → (j c : ℕ) → c ≤ last_code → Holds (rule_at ts j) c
  all_held [] i l e j c m = refl
  all_held (t ∷ ts) i l e zero c m = (none_broken_lem t ts i l e).0 c m
  all_held (t ∷ ts) i l e (suc j) c m = all_held ts (i + 1) (omega arith) (none_broken_lem t ts i l e).1 j c m
