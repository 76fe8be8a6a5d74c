-- Laws of the checks of figures that are handed in. Assumes nothing.
use Prim.Native.Nat.{ℕ, zero, suc, ◌+◌, ◌*◌, ◌-◌, ◌^◌, ◌<◌, ◌≤◌}
use mathlib.Core.Path.{◌≡◌, refl, sym, ◌∙◌, subst}
use mathlib.Core.List.{List, [], ◌∷◌}
use mathlib.Core.Bool.{Bool, true, false, ◌&&◌}
use native.Mathlib.Omega.{arith}
use native.Mathlib.Numerals.{add-one}
use native.Mathlib.Nat.{add-zero}
use borrow.Author.Tests.{leb-true, eqb-true, eqb-false, ltb-true, ltb-false, ne_eqb, lt-ltb, le-ltb, le-leb}
use lib.Dec.{eqb, leb, ltb}
use lib.ListN.{length, take, drop}
use Rattle.pictures.proofs.Tests.{both}
use Rattle.form.specs.Layout.{last_code}
use Rattle.form.specs.Num.{num, field, Bytes}
use Rattle.form.specs.Model.{Rec}
use Rattle.collection.proofs.Bytes.{eight_below}
use Rattle.collection.specs.declared.figure.Figure.{Figure}
use Rattle.collection.specs.Figures.{figures_bytes, code_place, stores_in, figure_from, figure_at, most_of_code, most_dots, most_delta, most_stores, within_bound, codes_within, figures_taken}
use Rattle.collection.specs.ByRecord.{Roomy}
use Rattle.collection.proofs.Bounds.{StoreBounds}

and_false : (a : Bool) → a && false ≡ false
and_false true = refl
and_false false = refl

module _ (b : List ℕ) (m : ℕ) where
  pub codes_start : codes_within b m 0 ≡ true
  unfolding codes_within
  codes_start = refl

  pub codes_next : (c : ℕ) → codes_within b m c ≡ true → within_bound m (figure_at b c) ≡ true → codes_within b m (c + 1) ≡ true
  unfolding codes_within
  codes_next c p q = rw (add-one c, p, q)

  fails_on : (k j : ℕ) → codes_within b m k ≡ false → codes_within b m (k + j) ≡ false
  unfolding codes_within
  fails_on k zero e = rw add-zero e
  fails_on k (suc j) e = let z : k + suc j ≡ suc (k + j) = omega arith in rw (z, fails_on k j e)

  pub codes_fail : (c n : ℕ) → c < n → within_bound m (figure_at b c) ≡ false → codes_within b m n ≡ false
  codes_fail c n l e =
      let z : suc c + (n - suc c) ≡ n = omega arith in
      subst (λ (k : ℕ). codes_within b m k ≡ false) z (fails_on (suc c) (n - suc c) here)
    where
      here : codes_within b m (suc c) ≡ false
      here = unfold codes_within in rw e (and_false (codes_within b m c))

  codes_all : (n c : ℕ) → c < n → codes_within b m n ≡ true → within_bound m (figure_at b c) ≡ true
  unfolding codes_within
  codes_all zero c l e = absurd (omega arith)
  codes_all (suc n) c l e = go (eqb c n) refl (both (codes_within b m n) (within_bound m (figure_at b n)) e) (codes_all n c)
    where
      go : (t : Bool) → eqb c n ≡ t → (codes_within b m n ≡ true) × (within_bound m (figure_at b n) ≡ true) → (c < n → codes_within b m n ≡ true → within_bound m (figure_at b c) ≡ true) → within_bound m (figure_at b c) ≡ true
      go true q p f = rw (eqb-true c n q) p.1
      go false q p f = let ne = eqb-false c n q in f (lower ne) p.0
        where
          lower : (c ≡ n → ⊥) → c < n
          lower ne = by (ltb c n) refl
            where
              by : (u : Bool) → ltb c n ≡ u → c < n
              by true q = ltb-true c n q
              by false q = absurd (ne (let g = ltb-false c n q in omega arith))

-- ── the whole check
module _ (b : List ℕ) where
  pub not_long : (length b ≡ figures_bytes → ⊥) → false ≡ figures_taken b
  unfolding figures_taken
  not_long h = rw (ne_eqb (length b) figures_bytes h)

  pub too_many : (n : ℕ) → n ≡ stores_in b → length b ≡ figures_bytes → most_stores ≤ n → false ≡ figures_taken b
  unfolding figures_taken
  too_many n e l h = rw (l, ← e, le-ltb n most_stores h)

  pub taken_by : (n : ℕ) (t : Bool) → n ≡ stores_in b → length b ≡ figures_bytes → n < most_stores → t ≡ codes_within b (n * 606) (last_code + 1) → t ≡ figures_taken b
  unfolding figures_taken
  taken_by n t e l h q = q ∙ rw (l, ← e, lt-ltb n most_stores h)

  pub record Taken : Type 0 where
    pub long : length b ≡ figures_bytes
    pub stores : stores_in b < most_stores
    pub count : (c : ℕ) → c ≤ last_code → (figure_at b c).count ≤ stores_in b * 606
    pub dots : (c : ℕ) → c ≤ last_code → (figure_at b c).dots ≤ stores_in b * 606 * most_dots
    pub sum : (c : ℕ) → c ≤ last_code → (figure_at b c).sum ≤ stores_in b * 606 * most_delta

  pub taken : figures_taken b ≡ true → Taken
  unfolding figures_taken
  taken e =
      let p = both (eqb (length b) figures_bytes && ltb (stores_in b) most_stores) (codes_within b (stores_in b * 606) (last_code + 1)) e in
      let q = both (eqb (length b) figures_bytes) (ltb (stores_in b) most_stores) p.0 in
      let w : (c : ℕ) → c ≤ last_code → ((figure_at b c).count ≤ stores_in b * 606) × ((figure_at b c).dots ≤ stores_in b * 606 * most_dots) × ((figure_at b c).sum ≤ stores_in b * 606 * most_delta) = λ c l. parts (stores_in b * 606) (figure_at b c) (codes_all b (stores_in b * 606) (last_code + 1) c (omega arith) p.1) in
      record { long = eqb-true _ _ q.0; stores = ltb-true _ _ q.1; count = λ c l. (w c l).0; dots = λ c l. (w c l).1; sum = λ c l. (w c l).2 }
    where
      parts : (m : ℕ) (f : Figure) → within_bound m f ≡ true → (f.count ≤ m) × (f.dots ≤ m * most_dots) × (f.sum ≤ m * most_delta)
      parts m f e =
          let p = both (leb f.count m && leb f.dots (m * most_dots)) (leb f.sum (m * most_delta)) e in
          let q = both (leb f.count m) (leb f.dots (m * most_dots)) p.0 in
          (leb-true _ _ q.0, leb-true _ _ q.1, leb-true _ _ p.1)

  pub taken_back : Taken → figures_taken b ≡ true
  taken_back t = sym (taken_by (stores_in b) true refl t.long t.stores (sym (all (last_code + 1) (omega arith))))
    where
      all : (n : ℕ) → n ≤ last_code + 1 → codes_within b (stores_in b * 606) n ≡ true
      all zero l = codes_start b (stores_in b * 606)
      all (suc n) l =
          subst (λ (k : ℕ). codes_within b (stores_in b * 606) k ≡ true) (add-one n)
          (codes_next b (stores_in b * 606) n (all n (omega arith))
          (rw (le-leb _ _ (t.count n (omega arith)), le-leb _ _ (t.dots n (omega arith)), le-leb _ _ (t.sum n (omega arith)))))

-- ── figures that pass have room for the records of a store
pub roomy_start : (s b : List ℕ) (rs : List Rec) → StoreBounds s rs → Bytes b → figures_taken b ≡ true → Roomy b rs
unfolding figure_from
roomy_start s b rs k B e =
    let t = taken b e in
    let m : most_of_code (length s) ≤ 606 = omega (arith, k.small) in
    record {
      long = t.long;
      fit = k.fit;
      least = λ c l. eight_below (code_place c + 16) b B;
      greatest = λ c l. eight_below (code_place c + 24) b B;
      count = λ c l. omega (arith, m, t.stores, t.count c l, k.count c);
      dots = λ c l. omega (arith, m, t.stores, t.dots c l, k.dots c);
      sum = λ c l. omega (arith, m, t.stores, t.sum c l, k.sum c);
    }
