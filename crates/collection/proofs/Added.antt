-- What a store that is taken adds to the figures of each code. Assumes nothing.
use Prim.Native.Nat.{ℕ, zero, suc, ◌+◌, ◌^◌, ◌<◌, ◌≤◌}
use mathlib.Core.Path.{◌≡◌, refl, sym, ap, ◌∙◌, subst}
use mathlib.Core.List.{List, [], ◌∷◌}
use mathlib.Core.Bool.{Bool, true, false, cond}
use native.Mathlib.Omega.{arith}
use native.Mathlib.Nat.{div-le_self, mod-le, lt_of_le_of_lt}
use borrow.Author.Tests.{eqb-true, eq-eqb}
use lib.Dec.{eqb}
use lib.ListN.{length, take}
use lib.Seq.{take_at}
use Rattle.form.specs.Layout.{last_code}
use Rattle.form.specs.Num.{low_first, num, field, Bytes}
use Rattle.form.specs.Model.{Rec, font, character}
use Rattle.form.specs.Records.{is_store, records_in}
use Rattle.form.proofs.Locates.{is_store_lem}
use Rattle.form.proofs.Numbers.{num_le}
use Rattle.blocks.specs.Character.{width}
use Rattle.change.specs.Put.{with_bytes}
use Rattle.change.proofs.Puts.{length_put}
use Rattle.collection.specs.declared.figure.Figure.{Figure}
use Rattle.collection.specs.Figures.{no_figure, joined, figure_of, figure_in, mean, rest, code_bytes, figures_bytes, code_place, stores_in, figure_from, figure_at, bytes_of_figure, code_after, figures_after, codes_after, figures_taken, Adding, adding_figures}
use Rattle.collection.specs.Together.{code_bytes_in, Adds}
use Rattle.collection.specs.ByRecord.{RecsFit, Roomy, with_records}
use Rattle.collection.proofs.Bytes.{length_eight}
use Rattle.collection.proofs.Parts.{part_after, number_in, figure_part, figure_back, Spelled}
use Rattle.collection.proofs.Records.{long_after, code_records, figures_are, figure_none, joined_with_none, joined_count, joined_dots_lem, joined_sum, lesser_below}
use Rattle.collection.proofs.Bounds.{StoreBounds, store_bounds}
use Rattle.collection.proofs.Checking.{taken, roomy_start}
use Rattle.collection.proofs.Passing.{records_are, not_store_lem, not_taken, was_taken}

-- ── the mean and the rest that stand in a figure's bytes
mean_small : (s n m : ℕ) → s < m → mean s n < m
mean_small s zero m l = omega arith
mean_small s (suc n) m l = lt_of_le_of_lt (div-le_self s (suc n)) l

rest_small : (s n m : ℕ) → s < m → rest s n < m
rest_small s zero m l = omega arith
rest_small s (suc n) m l = lt_of_le_of_lt (mod-le s (suc n)) l

module _ (f : Figure) (h : Spelled f) where
  mean_back : field 8 40 (bytes_of_figure f) ≡ mean f.sum f.count
  unfolding bytes_of_figure low_first
  mean_back = num_le 8 (mean f.sum f.count) (mean_small f.sum f.count (2 ^ 64) h.sum)

  rest_back : field 8 48 (bytes_of_figure f) ≡ rest f.sum f.count
  unfolding bytes_of_figure low_first
  rest_back = num_le 8 (rest f.sum f.count) (rest_small f.sum f.count (2 ^ 64) h.sum)

-- ── a code that a store lacks, and one that it has
pub code_lacking : (b : List ℕ) (ts : List Rec) (c : ℕ) → eqb (figure_in ts c).count 0 ≡ true → code_after b ts c ≡ code_bytes_in b c
unfolding code_after
code_lacking b ts c e = rw e

pub code_held : (b : List ℕ) (ts : List Rec) (c : ℕ) → eqb (figure_in ts c).count 0 ≡ false → code_after b ts c ≡ bytes_of_figure (joined (figure_at b c) (figure_in ts c))
unfolding code_after
code_held b ts c e = rw e

-- a code whose bytes are as the definition says
module _ (rs : List Rec) (c : ℕ) (b after : List ℕ) (l : length b ≡ figures_bytes) (m : length after ≡ figures_bytes) (lc : c ≤ last_code)
    (e : code_bytes_in after c ≡ code_after b rs c) (h : Spelled (joined (figure_at b c) (figure_in rs c))) where
  abbrev both : Figure
  both = joined (figure_at b c) (figure_in rs c)

  held : eqb (figure_in rs c).count 0 ≡ false → code_bytes_in after c ≡ bytes_of_figure both
  held q = e ∙ code_held b rs c q

  figure_is : figure_at after c ≡ both
  figure_is = figure_part (code_place c) after (omega arith) ∙ go (eqb (figure_in rs c).count 0) refl
    where
      go : (t : Bool) → eqb (figure_in rs c).count 0 ≡ t → figure_from (code_bytes_in after c) 0 ≡ both
      go true q =
          let z : figure_in rs c ≡ no_figure = figure_none rs c (eqb-true _ 0 q) in
          ap (λ (x : List ℕ). figure_from x 0) (e ∙ code_lacking b rs c q) ∙ sym (figure_part (code_place c) b (omega arith)) ∙ sym (ap (joined (figure_at b c)) z ∙ joined_with_none (figure_at b c))
      go false q = ap (λ (x : List ℕ). figure_from x 0) (held q) ∙ figure_back both h

  number_is : (j v : ℕ) → j + 8 ≤ code_bytes → (eqb (figure_in rs c).count 0 ≡ false → field 8 j (bytes_of_figure both) ≡ v) → 0 < (figure_in rs c).count → field 8 (code_place c + j) after ≡ v
  number_is j v g w p = number_in j (code_place c) after g (omega arith) ∙ go (eqb (figure_in rs c).count 0) refl
    where
      go : (t : Bool) → eqb (figure_in rs c).count 0 ≡ t → field 8 j (code_bytes_in after c) ≡ v
      go true q = absurd (omega (arith, p, eqb-true (figure_in rs c).count 0 q))
      go false q = ap (field 8 j) (held q) ∙ w q

  pub adds_by : Adds rs c b after
  adds_by =
      let f : (u : Figure → ℕ) → u both ≡ u (figure_at after c) = λ u. ap u (sym figure_is) in
      record {
        figure = figure_is;
        mean = number_is 40 (mean (figure_at after c).sum (figure_at after c).count) (omega arith) (λ q. mean_back both h ∙ f (λ (x : Figure). mean x.sum x.count));
        rest = number_is 48 (rest (figure_at after c).sum (figure_at after c).count) (omega arith) (λ q. rest_back both h ∙ f (λ (x : Figure). rest x.sum x.count));
        lacking = λ z. e ∙ code_lacking b rs c (eq-eqb (figure_in rs c).count 0 z);
      }

-- ── widths are spelled by eight bytes
joined_small : (t : Bool) (h d : List ℕ) (f : Figure) → width h < 2 ^ 64 → f.least < 2 ^ 64 → f.greatest < 2 ^ 64
    → ((cond t (joined (figure_of h d) f) f).least < 2 ^ 64) × ((cond t (joined (figure_of h d) f) f).greatest < 2 ^ 64)
unfolding joined
joined_small true h d f a b c = (lesser_below (width h) f.least (2 ^ 64) a b, omega arith)
joined_small false h d f a b c = (b, c)

pub widths_small : (rs : List Rec) → RecsFit rs → (c : ℕ) → ((figure_in rs c).least < 2 ^ 64) × ((figure_in rs c).greatest < 2 ^ 64)
unfolding figure_in
widths_small [] f c = (omega arith, omega arith)
widths_small (font n h ∷ rs) f c = widths_small rs f.1 c
widths_small (character n k h d ∷ rs) f c = let i = widths_small rs f.1 c in joined_small (eqb k c) h d (figure_in rs c) f.0.2 i.0 i.1

pub joined_widths : (f g : Figure) → f.least < 2 ^ 64 → g.least < 2 ^ 64 → f.greatest < 2 ^ 64 → g.greatest < 2 ^ 64 → ((joined f g).least < 2 ^ 64) × ((joined f g).greatest < 2 ^ 64)
unfolding joined
joined_widths f g a b c d = (lesser_below f.least g.least (2 ^ 64) a b, omega arith)

-- ── the figures after the records of a store
module _ (rs : List Rec) (b : List ℕ) (r : Roomy b rs) where
  both_spelled : (c : ℕ) → c ≤ last_code → Spelled (joined (figure_at b c) (figure_in rs c))
  both_spelled c lc =
      let x = widths_small rs r.fit c in
      let w = joined_widths (figure_at b c) (figure_in rs c) (r.least c lc) x.0 (r.greatest c lc) x.1 in
      let n : (figure_at b c).count + (figure_in rs c).count < 2 ^ 64 = r.count c lc in
      let d : (figure_at b c).dots + (figure_in rs c).dots < 2 ^ 64 = r.dots c lc in
      let u : (figure_at b c).sum + (figure_in rs c).sum < 2 ^ 64 = r.sum c lc in
      record {
        count = omega (arith, n, joined_count (figure_at b c) (figure_in rs c));
        dots = omega (arith, d, joined_dots_lem (figure_at b c) (figure_in rs c));
        least = w.0;
        greatest = w.1;
        sum = omega (arith, u, joined_sum (figure_at b c) (figure_in rs c));
      }

  abbrev front : List ℕ
  front = low_first 8 (stores_in (with_records rs b) + 1)

  after_long : length (with_bytes (with_records rs b) 0 front) ≡ figures_bytes
  after_long = length_put (with_records rs b) 0 front (omega (arith, long_after rs b r, length_eight (stores_in (with_records rs b) + 1))) ∙ long_after rs b r

  pub length_after : length (figures_after b rs) ≡ figures_bytes
  length_after = ap length (sym (figures_are rs b r)) ∙ after_long

  part_is : (c : ℕ) → c ≤ last_code → code_bytes_in (figures_after b rs) c ≡ code_after b rs c
  part_is c lc =
      let l = long_after rs b r in
      let e = length_eight (stores_in (with_records rs b) + 1) in
      ap (λ (z : List ℕ). code_bytes_in z c) (sym (figures_are rs b r)) ∙ ap (take code_bytes) (part_after (code_place c) 0 (with_records rs b) front (omega arith) (omega arith)) ∙ code_records rs b r c lc

  adds_after : (c : ℕ) → c ≤ last_code → Adds rs c b (figures_after b rs)
  adds_after c lc = adds_by rs c b (figures_after b rs) r.long length_after lc (part_is c lc) (both_spelled c lc)

-- ── the call, where it is done
pub record Done (s b : List ℕ) : Type 0 where
  pub store : is_store s ≡ true
  pub taken : figures_taken b ≡ true
  pub bytes : (adding_figures s b).bytes ≡ figures_after b (records_in s)
  pub bounds : StoreBounds s (records_in s)
  pub roomy : Roomy b (records_in s)

pub bounds_of : (s : List ℕ) → is_store s ≡ true → Bytes s → StoreBounds s (records_in s)
bounds_of s e B = let x = is_store_lem s e in subst (StoreBounds s) (sym (records_are s x.0 x.1)) (store_bounds s x.0 B x.1)

pub done : (s b : List ℕ) → Bytes s → Bytes b → (adding_figures s b).answer ≡ 0 → Done s b
done s b S B e = go (is_store s) refl (figures_taken b) refl
  where
    go : (t : Bool) → is_store s ≡ t → (u : Bool) → figures_taken b ≡ u → Done s b
    go false p u q = let z : (adding_figures s b).answer ≡ 1 = ap (λ (x : Adding). x.answer) (not_store_lem s b p) in absurd (omega arith)
    go true p false q = let z : (adding_figures s b).answer ≡ 2 = ap (λ (x : Adding). x.answer) (not_taken s b p q) in absurd (omega arith)
    go true p true q =
        let x = is_store_lem s p in
        let k = bounds_of s p S in
        record {
          store = p;
          taken = q;
          bytes = ap (λ (y : Adding). y.bytes) (was_taken s b x.0 x.1 q) ∙ ap (figures_after b) (sym (records_are s x.0 x.1));
          bounds = k;
          roomy = roomy_start s b (records_in s) k B q;
        }

module _ (s b : List ℕ) (S : Bytes s) (B : Bytes b) (e : (adding_figures s b).answer ≡ 0) where
  pub adds : (c : ℕ) → c ≤ last_code → Adds (records_in s) c b (adding_figures s b).bytes
  adds c lc = let x = done s b S B e in subst (Adds (records_in s) c b) (sym x.bytes) (adds_after (records_in s) b x.roomy c lc)

  pub one_store_more : stores_in (adding_figures s b).bytes ≡ stores_in b + 1
  one_store_more =
      let x = done s b S B e in
      ap stores_in x.bytes ∙ stores_are (records_in s) (taken b x.taken).stores
    where
      stores_are : (rs : List Rec) → stores_in b < 64 → stores_in (figures_after b rs) ≡ stores_in b + 1
      stores_are rs l = unfold figures_after in (ap num (take_at (low_first 8 (stores_in b + 1)) (codes_after b rs (last_code + 1)) 8 (length_eight (stores_in b + 1))) ∙ num_le 8 (stores_in b + 1) (omega arith))
