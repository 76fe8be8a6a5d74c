-- The claims of W-210. Assumes nothing.
use Prim.Native.Nat.{ℕ, zero, suc, ◌+◌, ◌*◌, ◌<◌, ◌≤◌, min, max}
use mathlib.Core.Path.{◌≡◌, refl, sym, ap, ap₂, ◌∙◌, subst}
use mathlib.Core.Logic.{◌⊎◌, ◌↔◌, inl, inr}
use mathlib.Core.List.{List, [], ◌∷◌, ◌++◌, map, append-nil}
use mathlib.Core.Bool.{Bool, true, false, cond}
use native.Mathlib.Omega.{arith}
use native.Mathlib.Nat.{mod-lt, div-add-mod'}
use borrow.Author.Tests.{eqb-true, ne_eqb, leb-true, leb-false, ltb-true}
use lib.Dec.{eqb, leb, ltb}
use lib.ListN.{length, take, drop}
use Rattle.blocks.specs.Character.{width, delta_x}
use Rattle.form.specs.Layout.{last_code}
use Rattle.form.specs.Num.{low_first, field, Bytes}
use Rattle.form.specs.Model.{Rec, font, character}
use Rattle.form.specs.Records.{is_store, records_in}
use Rattle.pictures.specs.Dots.{dots_in, unpack}
use Rattle.pictures.specs.Rows.{bitmap_row}
use Rattle.pictures.proofs.Tests.{both}
use Rattle.choice.specs.Lists.{In, every}
use Rattle.blackdots.specs.Black.{black_in, black_dots}
use Rattle.collection.specs.declared.figure.Figure.{Figure}
use Rattle.collection.specs.Figures.{no_figure, lesser_width, joined, figure_of, figure_in, mean, rest, figure_from, figure_at, bytes_of_figure, figures_taken, Adding, adding_figures}
use Rattle.collection.specs.Handed.{store_before, stores_among, AllBytes}
use Rattle.collection.specs.Together.{Adds, handed_in, all_records}
use Rattle.collection.proofs.Checking.{Taken, taken, taken_back}
use Rattle.form.proofs.Locates.{is_store_lem}
use Rattle.collection.proofs.Passing.{not_store_lem, not_taken, was_taken}
use Rattle.collection.proofs.Added.{done, adds, one_store_more, length_after}
use Rattle.collection.proofs.Together.{together_stores, together_long, together, together_front, together_bytes, next_taken, any_order}
use Rattle.marlinfold.specs.Collection.{stores_so_far, figure_number, no_figures, Seen, seen_at, seen_before, seen_in, seen_in_all, sum_of, black_of, width_of, delta_of, handed_width, with_handed, Least, Greatest, Counted, Allowed, FiguresRefused, FiguresAdded, FiguresBounded, collected, taken_among, FiguresTogether, FiguresAnyOrder, FiguresTaken, wide_letter, narrow_letter, letters_store, two_stores, FiguresRow}
use Rattle.marlinfold.proofs.Computing.{computing}
use Rattle.marlinfold.proofs.Seen.{Shown, AllShown, all_shown, seen_among, seen_are}

-- ── the least and the greatest of widths, with one more
lesser_is : (w m : ℕ) → 0 < w → (lesser_width w m ≤ w) × (0 < m → lesser_width w m ≤ m) × ((lesser_width w m ≡ w) ⊎ ((lesser_width w m ≡ m) × (0 < m)))
lesser_is zero m p = absurd (omega arith)
lesser_is (suc w) zero p = (omega arith, λ q. absurd (omega arith), inl refl)
lesser_is (suc w) (suc m) p = go (leb w m) refl
  where
    go : (t : Bool) → leb w m ≡ t → (suc (min w m) ≤ suc w) × (0 < suc m → suc (min w m) ≤ suc m) × ((suc (min w m) ≡ suc w) ⊎ ((suc (min w m) ≡ suc m) × (0 < suc m)))
    go true e = (omega arith, λ q. omega arith, inl (omega (arith, leb-true w m e)))
    go false e = (omega arith, λ q. omega arith, inr (omega (arith, leb-false w m e), omega arith))

module _ (w m : ℕ) (ws : List ℕ) where
  least_more : 0 < w → ((v : ℕ) → In v ws → 0 < v) → Least ws m → Least (w ∷ ws) (lesser_width w m)
  least_more p q l = record { one = one x.2 l.one; each = each l.one }
    where
      x : (lesser_width w m ≤ w) × (0 < m → lesser_width w m ≤ m) × ((lesser_width w m ≡ w) ⊎ ((lesser_width w m ≡ m) × (0 < m)))
      x = lesser_is w m p

      one : (lesser_width w m ≡ w) ⊎ ((lesser_width w m ≡ m) × (0 < m)) → In m ws ⊎ ((ws ≡ []) × (m ≡ 0)) → In (lesser_width w m) (w ∷ ws) ⊎ ((w ∷ ws ≡ []) × (lesser_width w m ≡ 0))
      one (inl e) o = inl (inl e)
      one (inr e) (inl i) = inl (inr (subst (λ (v : ℕ). In v ws) (sym e.0) i))
      one (inr e) (inr o) = absurd (omega (arith, e.1, o.1))

      each : In m ws ⊎ ((ws ≡ []) × (m ≡ 0)) → (v : ℕ) → (v ≡ w) ⊎ In v ws → lesser_width w m ≤ v
      each o v (inl e) = omega (arith, e, x.0)
      each (inl j) v (inr i) = omega (arith, x.1 (q m j), l.each v i)
      each (inr o) v (inr i) = absurd (subst (In v) o.0 i)

  greatest_more : Greatest ws m → Greatest (w ∷ ws) (max w m)
  greatest_more g = record { one = one (leb m w) refl g.one; each = each }
    where
      one : (t : Bool) → leb m w ≡ t → In m ws ⊎ ((ws ≡ []) × (m ≡ 0)) → In (max w m) (w ∷ ws) ⊎ ((w ∷ ws ≡ []) × (max w m ≡ 0))
      one true e o = inl (inl (omega (arith, leb-true m w e)))
      one false e (inl i) = let z : m ≡ max w m = omega (arith, leb-false m w e) in inl (inr (subst (λ (v : ℕ). In v ws) z i))
      one false e (inr o) = absurd (omega (arith, leb-false m w e, o.1))

      each : (v : ℕ) → (v ≡ w) ⊎ In v ws → v ≤ max w m
      each v (inl e) = omega (arith, e)
      each v (inr i) = omega (arith, g.each v i)

-- with what was handed in
least_handed : (v m : ℕ) (ws : List ℕ) → ((w : ℕ) → In w ws → 0 < w) → Least ws m → Least (with_handed v ws) (lesser_width v m)
unfolding handed_width
least_handed zero m ws q l = l
least_handed (suc v) m ws q l = rw (ne_eqb (suc v) 0 (λ e. omega (arith, e))) (least_more (suc v) m ws (omega arith) q l)

greatest_handed : (v m : ℕ) (ws : List ℕ) → Greatest ws m → Greatest (with_handed v ws) (max v m)
unfolding handed_width
greatest_handed zero m ws g = let z : m ≡ max 0 m = omega arith in subst (Greatest ws) z g
greatest_handed (suc v) m ws g = rw (ne_eqb (suc v) 0 (λ e. omega (arith, e))) (greatest_more (suc v) m ws g)

-- ── characters, as they are seen, have these figures
record Sums (l : List Seen) (f : Figure) : Type 0 where
  count : f.count ≡ length l
  dots : f.dots ≡ sum_of (map black_of l)
  sum : f.sum ≡ sum_of (map delta_of l)
  least : Least (map width_of l) f.least
  greatest : Greatest (map width_of l) f.greatest
  wide : (w : ℕ) → In w (map width_of l) → 0 < w

sums_none : Sums [] no_figure
unfolding sum_of
sums_none =
    record {
      count = refl;
      dots = refl;
      sum = refl;
      least = record { one = inr (refl, refl); each = λ w i. absurd i };
      greatest = record { one = inr (refl, refl); each = λ w i. absurd i };
      wide = λ w i. absurd i;
    }

module _ (s : List ℕ) (n c : ℕ) (h d : List ℕ) (x : Shown s n c h d) (l : List Seen) (f : Figure) (g : Sums l f) where
  wide_is : width h ≡ width_of (seen_at s n c)
  wide_is = ap width (sym x.told)

  sums_more : Sums (seen_at s n c ∷ l) (joined (figure_of h d) f)
  unfolding joined sum_of
  sums_more =
      record {
        count = omega (arith, g.count);
        dots = omega (arith, g.dots, x.black);
        sum = omega (arith, g.sum, ap delta_x x.told);
        least = subst (λ (w : ℕ). Least (w ∷ map width_of l) (lesser_width (width h) f.least)) wide_is (least_more (width h) f.least (map width_of l) x.wide g.wide g.least);
        greatest = subst (λ (w : ℕ). Greatest (w ∷ map width_of l) (max (width h) f.greatest)) wide_is (greatest_more (width h) f.greatest (map width_of l) g.greatest);
        wide = wide;
      }
    where
      wide : (w : ℕ) → (w ≡ width_of (seen_at s n c)) ⊎ In w (map width_of l) → 0 < w
      wide w (inl e) = omega (arith, e, wide_is, x.wide)
      wide w (inr i) = g.wide w i

sums_among : (s : List ℕ) (c : ℕ) (rs ts : List Rec) (m : List Seen) → AllShown s rs → Sums m (figure_in ts c) → Sums (seen_among s c rs ++ m) (figure_in (rs ++ ts) c)
unfolding seen_among figure_in
sums_among s c [] ts m a g = g
sums_among s c (font n h ∷ rs) ts m a g = sums_among s c rs ts m a g
sums_among s c (character n k h d ∷ rs) ts m a g = go (eqb k c) refl (sums_among s c rs ts m a.1 g)
  where
    go : (t : Bool) → eqb k c ≡ t → Sums (seen_among s c rs ++ m) (figure_in (rs ++ ts) c) → Sums (seen_before t (seen_at s n c) (seen_among s c rs) ++ m) (cond t (joined (figure_of h d) (figure_in (rs ++ ts) c)) (figure_in (rs ++ ts) c))
    go true e i = unfold seen_before in sums_more s n c h d (subst (λ (j : ℕ). Shown s n j h d) (eqb-true k c e) a.0) (seen_among s c rs ++ m) (figure_in (rs ++ ts) c) i
    go false e i = unfold seen_before in i

none_sums : (c : ℕ) → Sums [] (figure_in [] c)
unfolding figure_in
none_sums c = sums_none

sums_store : (s : List ℕ) (c : ℕ) (ts : List Rec) (m : List Seen) → is_store s ≡ true → c ≤ last_code → Sums m (figure_in ts c) → Sums (seen_in c s ++ m) (figure_in (records_in s ++ ts) c)
sums_store s c ts m i lc g =
    subst (λ (l : List Seen). Sums (l ++ m) (figure_in (records_in s ++ ts) c)) (sym (seen_are s i c lc)) (sums_among s c (records_in s) ts m (all_shown s i) g)

sums_in : (s : List ℕ) (c : ℕ) → is_store s ≡ true → c ≤ last_code → Sums (seen_in c s) (figure_in (records_in s) c)
sums_in s c i lc =
    subst (λ (l : List Seen). Sums l (figure_in (records_in s) c)) (append-nil (seen_in c s))
    (subst (λ (rs : List Rec). Sums (seen_in c s ++ []) (figure_in rs c)) (append-nil (records_in s)) (sums_store s c [] [] i lc (none_sums c)))

-- each is a store
abbrev AllStores : List (List ℕ) → Type 0
AllStores [] = Unit {0}
AllStores (s ∷ ss) = (is_store s ≡ true) × AllStores ss

sums_all : (ss : List (List ℕ)) (c : ℕ) → AllStores ss → c ≤ last_code → Sums (seen_in_all c ss) (figure_in (all_records ss) c)
unfolding seen_in_all all_records
sums_all [] c a lc = none_sums c
sums_all (s ∷ ss) c a lc = sums_store s c (all_records ss) (seen_in_all c ss) a.0 lc (sums_all ss c a.1 lc)

taken_stores : (k : ℕ) (ss : List (List ℕ)) → AllStores ss → AllStores (take k ss)
taken_stores zero ss a = tt
taken_stores (suc k) [] a = tt
taken_stores (suc k) (s ∷ ss) a = (a.0, taken_stores k ss a.1)

among_stores : (ss : List (List ℕ)) → AllStores (stores_among ss)
unfolding stores_among store_before
among_stores [] = tt
among_stores (s ∷ ss) = go (is_store s) refl (among_stores ss)
  where
    go : (t : Bool) → is_store s ≡ t → AllStores (stores_among ss) → AllStores (store_before t s (stores_among ss))
    go true e a = unfold store_before in (e, a)
    go false e a = unfold store_before in a

-- ── the numbers of a code
module _ (c : ℕ) (b : List ℕ) where
  count_at : figure_number c 0 b ≡ (figure_at b c).count
  unfolding figure_from
  count_at = let z : 8 + c * 56 + 0 ≡ 8 + c * 56 = omega arith in ap (λ (p : ℕ). field 8 p b) z

  dots_at : figure_number c 1 b ≡ (figure_at b c).dots
  unfolding figure_from
  dots_at = refl

  least_at : figure_number c 2 b ≡ (figure_at b c).least
  unfolding figure_from
  least_at = refl

  greatest_at : figure_number c 3 b ≡ (figure_at b c).greatest
  unfolding figure_from
  greatest_at = refl

  sum_at : figure_number c 4 b ≡ (figure_at b c).sum
  unfolding figure_from
  sum_at = refl

mean_and_rest : (s n : ℕ) → 0 < n → (mean s n * n + rest s n ≡ s) × (rest s n < n)
mean_and_rest s zero p = absurd (omega arith)
mean_and_rest s (suc n) p = (div-add-mod' s (suc n), mod-lt s p)

module _ (rs : List Rec) (l : List Seen) (c : ℕ) (b after : List ℕ) (a : Adds rs c b after) (g : Sums l (figure_in rs c)) where
  abbrev new : Figure
  new = figure_at after c

  by_field : (u : Figure → ℕ) → u new ≡ u (joined (figure_at b c) (figure_in rs c))
  by_field u = ap u a.figure

  some_there : 0 < length l → 0 < (figure_in rs c).count
  some_there p = omega (arith, p, g.count)

  count_new : new.count ≡ (figure_at b c).count + length l
  unfolding joined
  count_new = omega (arith, by_field (λ (f : Figure). f.count), g.count)

  means : 0 < length l → (figure_number c 5 after * new.count + figure_number c 6 after ≡ new.sum) × (figure_number c 6 after < new.count)
  means p =
      let m : figure_number c 5 after ≡ mean new.sum new.count = a.mean (some_there p) in
      let r : figure_number c 6 after ≡ rest new.sum new.count = a.rest (some_there p) in
      let x = mean_and_rest new.sum new.count (omega (arith, p, count_new)) in
      (ap₂ (λ (y z : ℕ). y * new.count + z) m r ∙ x.0, omega (arith, r, x.1))

  counted : Counted l c b after
  unfolding joined
  counted =
      record {
        count = count_at c after ∙ count_new ∙ ap (λ (x : ℕ). x + length l) (sym (count_at c b));
        dots = dots_at c after ∙ by_field (λ (f : Figure). f.dots) ∙ ap₂ (λ (x y : ℕ). x + y) (sym (dots_at c b)) g.dots;
        least =
            subst (Least (with_handed (figure_number c 2 b) (map width_of l))) (sym (least_at c after ∙ by_field (λ (f : Figure). f.least) ∙ ap (λ (x : ℕ). lesser_width x (figure_in rs c).least) (sym (least_at c b))))
            (least_handed (figure_number c 2 b) (figure_in rs c).least (map width_of l) g.wide g.least);
        greatest =
            subst (Greatest (with_handed (figure_number c 3 b) (map width_of l))) (sym (greatest_at c after ∙ by_field (λ (f : Figure). f.greatest) ∙ ap (λ (x : ℕ). max x (figure_in rs c).greatest) (sym (greatest_at c b))))
            (greatest_handed (figure_number c 3 b) (figure_in rs c).greatest (map width_of l) g.greatest);
        sum = sum_at c after ∙ by_field (λ (f : Figure). f.sum) ∙ ap₂ (λ (x y : ℕ). x + y) (sym (sum_at c b)) g.sum;
        mean = λ p. ap (λ (x : ℕ). figure_number c 5 after * x + figure_number c 6 after) (count_at c after) ∙ (means p).0 ∙ sym (sum_at c after);
        rest = λ p. omega (arith, (means p).1, count_at c after);
        lacking = λ z. a.lacking (g.count ∙ z);
      }

-- ── the claims
allowed_taken : (b : List ℕ) → Allowed b → Taken b
allowed_taken b a =
    record {
      long = a.long;
      stores = a.stores;
      count = λ c l. omega (arith, a.count c l, count_at c b);
      dots = λ c l. omega (arith, a.dots c l, dots_at c b);
      sum = λ c l. omega (arith, a.sum c l, sum_at c b);
    }

taken_allowed : (b : List ℕ) → Taken b → Allowed b
taken_allowed b a =
    record {
      long = a.long;
      stores = a.stores;
      count = λ c l. omega (arith, a.count c l, count_at c b);
      dots = λ c l. omega (arith, a.dots c l, dots_at c b);
      sum = λ c l. omega (arith, a.sum c l, sum_at c b);
    }

pub figures_refused : FiguresRefused
figures_refused s b = go (is_store s) refl (figures_taken b) refl
  where
    is : (j : ℕ) (l : List ℕ) → adding_figures s b ≡ record { answer = j; bytes = l } → (adding_figures s b).answer ≡ j
    is j l e = ap (λ (x : Adding). x.answer) e

    not_both : (t : Bool) → t ≡ true → t ≡ false → ⊥
    not_both t p q = let z : true ≡ false = sym p ∙ q in let y : ◌≡◌ {A = ℕ} 0 1 = cc in absurd (omega arith)

    go : (t : Bool) → is_store s ≡ t → (u : Bool) → figures_taken b ≡ u
        → (((adding_figures s b).answer ≡ 1) ↔ (is_store s ≡ false)) × (((adding_figures s b).answer ≡ 0) ↔ ((is_store s ≡ true) × Allowed b))
    go false p u q = let e = is 1 b (not_store_lem s b p) in ((λ x. p, λ x. e), (λ x. absurd (omega (arith, e, x)), λ x. absurd (not_both (is_store s) x.0 p)))
    go true p false q =
        let e = is 2 b (not_taken s b p q) in
        ((λ x. absurd (omega (arith, e, x)), λ x. absurd (not_both (is_store s) p x)), (λ x. absurd (omega (arith, e, x)), λ x. absurd (not_both (figures_taken b) (taken_back b (allowed_taken b x.1)) q)))
    go true p true q =
        let y = is_store_lem s p in
        let e = ap (λ (x : Adding). x.answer) (was_taken s b y.0 y.1 q) in
        ((λ x. absurd (omega (arith, e, x)), λ x. absurd (not_both (is_store s) p x)), (λ x. (p, taken_allowed b (taken b q)), λ x. e))

pub figures_added : FiguresAdded
figures_added s b S B e =
    let x = done s b S B e in
    (ap length x.bytes ∙ length_after (records_in s) b x.roomy, one_store_more s b S B e, λ c l. counted (records_in s) (seen_in c s) c b (adding_figures s b).bytes (adds s b S B e c l) (sums_in s c x.store l))

pub figures_bounded : FiguresBounded
unfolding joined
figures_bounded s b S B e c l =
    let k = (done s b S B e).bounds in
    let after : List ℕ = (adding_figures s b).bytes in
    let f : figure_at after c ≡ joined (figure_at b c) (figure_in (records_in s) c) = (adds s b S B e c l).figure in (
      omega (arith, k.count c, ap (λ (x : Figure). x.count) f, count_at c after, count_at c b),
      omega (arith, k.dots c, ap (λ (x : Figure). x.dots) f, dots_at c after, dots_at c b),
      omega (arith, k.sum c, ap (λ (x : Figure). x.sum) f, sum_at c after, sum_at c b),
    )

as_handed_in : (ss : List (List ℕ)) (b : List ℕ) → collected ss b ≡ handed_in ss b
unfolding collected handed_in
as_handed_in [] b = refl
as_handed_in (s ∷ ss) b = as_handed_in ss (adding_figures s b).bytes

pub figures_together : FiguresTogether
figures_together ss B =
    let e = as_handed_in ss no_figures in (
      ap length e ∙ together_long ss B,
      ap stores_so_far e ∙ together_stores ss B,
      λ c l. counted (all_records (taken_among ss)) (seen_in_all c (taken_among ss)) c no_figures (collected ss no_figures)
          (subst (Adds (all_records (taken_among ss)) c no_figures) (sym e) (together ss B c l))
          (sums_all (taken_among ss) c (taken_stores 64 (stores_among ss) (among_stores ss)) l),
    )

pub figures_any_order : FiguresAnyOrder
figures_any_order ss ts r B l = as_handed_in ss no_figures ∙ any_order ss ts r B l ∙ sym (as_handed_in ts no_figures)

pub figures_taken_lem : FiguresTaken
figures_taken_lem ss s B i l = ap (λ (b : List ℕ). (adding_figures s b).answer) (as_handed_in ss no_figures) ∙ next_taken ss B s i l

-- ── the row
bytes_by : (s : List ℕ) → every (λ (x : ℕ). ltb x 256) s ≡ true → Bytes s
unfolding every
bytes_by [] e i = omega arith
bytes_by (x ∷ s) e zero = ltb-true x 256 (both (ltb x 256) (every (λ (y : ℕ). ltb y 256) s) e).0
bytes_by (x ∷ s) e (suc i) = bytes_by s (both (ltb x 256) (every (λ (y : ℕ). ltb y 256) s) e).1 i

wide_bytes : every (λ (x : ℕ). ltb x 256) (letters_store wide_letter) ≡ true
unfolding computing letters_store wide_letter
wide_bytes = refl

narrow_bytes : every (λ (x : ℕ). ltb x 256) (letters_store narrow_letter) ≡ true
unfolding computing letters_store narrow_letter
narrow_bytes = refl

two_bytes : AllBytes two_stores
unfolding two_stores
two_bytes = (bytes_by (letters_store wide_letter) wide_bytes, (bytes_by (letters_store narrow_letter) narrow_bytes, tt))

abbrev row_figure : Figure
row_figure = record { count = 2; dots = 263; least = 3; greatest = 258; sum = 307 }

two_figure : figure_in (all_records (taken_among two_stores)) 65 ≡ row_figure
unfolding computing two_stores letters_store wide_letter narrow_letter stores_among store_before all_records figure_in joined black_dots black_in unpack dots_in bitmap_row
two_figure = refl

two_taken : length (taken_among two_stores) ≡ 2
unfolding computing two_stores letters_store wide_letter narrow_letter stores_among store_before
two_taken = refl

pub figures_row : FiguresRow
unfolding low_first bytes_of_figure
figures_row =
    let e = as_handed_in two_stores no_figures in (
      ap (take 8) e ∙ together_front two_stores two_bytes ∙ ap (low_first 8) two_taken,
      ap (λ (b : List ℕ). take 56 (drop 3648 b)) e ∙ together_bytes two_stores two_bytes 65 (omega arith) ∙ ap bytes_of_figure two_figure,
    )
