-- The figures of several stores, handed in one by one. Assumes nothing.
use Prim.Native.Nat.{ℕ, zero, suc, ◌+◌, ◌*◌, ◌-◌, ◌^◌, ◌<◌, ◌≤◌}
use mathlib.Core.Path.{◌≡◌, refl, sym, ap, ap₂, ◌∙◌, subst}
use mathlib.Core.List.{List, [], ◌∷◌, ◌++◌, append_assoc, append-nil}
use mathlib.Core.Bool.{Bool, true, false}
use mathlib.Core.Logic.{◌⊎◌, inl, inr}
use mathlib.Core.Option.{Option, none, some}
use native.Mathlib.Omega.{arith}
use native.Mathlib.Nat.{add-zero}
use borrow.Author.Tests.{eqb-true}
use lib.Dec.{eqb}
use lib.ListN.{length, take, drop, replicate, length-append, replicate-append-replicate}
use lib.Seq.{take_at, drop_at, take_all, take-nil, drop-append-add}
use Rattle.form.specs.Layout.{last_code}
use Rattle.form.specs.Num.{low_first, num, Bytes}
use Rattle.form.specs.Model.{Rec, Store, decode}
use Rattle.form.specs.Records.{some_store, is_store, records_by, records_in}
use Rattle.form.proofs.Locates.{is_store_lem}
use Rattle.form.proofs.Numbers.{num_le, less_or}
use Rattle.collection.specs.declared.figure.Figure.{Figure}
use Rattle.collection.specs.Figures.{no_figure, joined, figure_in, code_bytes, figures_bytes, code_place, stores_in, figure_from, figure_at, bytes_of_figure, code_after, codes_after, figures_after, most_of_code, most_dots, most_delta, most_stores, figures_taken, Adding, adding_figures}
use Rattle.collection.specs.Handed.{store_before, stores_among, AllBytes, Rearranged, same, later, swapped, and_then}
use Rattle.collection.specs.Together.{code_bytes_in, Adds, handed_in, all_records, codes_of, figures_of}
use Rattle.collection.proofs.Bytes.{length_eight}
use Rattle.collection.proofs.Joining.{joined_assoc, joined_comm, joined_none, figure_append}
use Rattle.collection.proofs.Parts.{front_part, figure_part, figure_back, Spelled, length_figure}
use Rattle.collection.proofs.Records.{figure_none, joined_with_none, joined_count, joined_dots_lem, joined_sum}
use Rattle.collection.proofs.Bounds.{StoreBounds}
use Rattle.collection.proofs.Checking.{too_many, taken_back}
use Rattle.collection.proofs.Passing.{records_are, not_store_lem, not_taken, was_taken}
use Rattle.collection.proofs.Added.{code_lacking, code_held, adds_by, widths_small, joined_widths, bounds_of}

-- ── the figures of records, as bytes
length_codes : (rs : List Rec) (m : ℕ) → length (codes_of rs m) ≡ m * code_bytes
unfolding codes_of
length_codes rs zero = refl
length_codes rs (suc m) = omega (arith, length-append (codes_of rs m) (bytes_of_figure (figure_in rs m)), length_codes rs m, length_figure (figure_in rs m))

codes_part : (rs : List Rec) (m c : ℕ) → c < m → take code_bytes (drop (c * code_bytes) (codes_of rs m)) ≡ bytes_of_figure (figure_in rs c)
unfolding codes_of
codes_part rs zero c l = absurd (omega arith)
codes_part rs (suc m) c l = go (less_or c m) (codes_part rs m c)
  where
    go : (c < m) ⊎ (m ≤ c) → (c < m → take code_bytes (drop (c * code_bytes) (codes_of rs m)) ≡ bytes_of_figure (figure_in rs c)) → take code_bytes (drop (c * code_bytes) (codes_of rs m ++ bytes_of_figure (figure_in rs m))) ≡ bytes_of_figure (figure_in rs c)
    go (inl a) f = front_part code_bytes (c * code_bytes) (codes_of rs m) (bytes_of_figure (figure_in rs m)) (omega (arith, length_codes rs m)) ∙ f a
    go (inr a) f =
        let e : m ≡ c = omega arith in
        let d : drop (c * code_bytes) (codes_of rs m ++ bytes_of_figure (figure_in rs m)) ≡ bytes_of_figure (figure_in rs m) = drop_at (codes_of rs m) (bytes_of_figure (figure_in rs m)) (c * code_bytes) (omega (arith, length_codes rs m)) in
        ap (take code_bytes) d ∙ take_all code_bytes (bytes_of_figure (figure_in rs m)) (omega (arith, length_figure (figure_in rs m))) ∙ ap (λ (k : ℕ). bytes_of_figure (figure_in rs k)) e

module _ (n : ℕ) (rs : List Rec) where
  length_figures : length (figures_of n rs) ≡ figures_bytes
  length_figures = omega (arith, length-append (low_first 8 n) (codes_of rs (last_code + 1)), length_eight n, length_codes rs (last_code + 1))

  part_figures : (c : ℕ) → c ≤ last_code → code_bytes_in (figures_of n rs) c ≡ bytes_of_figure (figure_in rs c)
  part_figures c l =
      let z : code_place c ≡ length (low_first 8 n) + c * code_bytes = omega (arith, length_eight n) in
      ap (take code_bytes) (ap (λ (k : ℕ). drop k (figures_of n rs)) z ∙ drop-append-add (low_first 8 n) (codes_of rs (last_code + 1)) (c * code_bytes)) ∙ codes_part rs (last_code + 1) c (omega arith)

  stores_figures : n < 2 ^ 64 → stores_in (figures_of n rs) ≡ n
  stores_figures l = ap num (take_at (low_first 8 n) (codes_of rs (last_code + 1)) 8 (length_eight n)) ∙ num_le 8 n l

  at_figures : (c : ℕ) → c ≤ last_code → Spelled (figure_in rs c) → figure_at (figures_of n rs) c ≡ figure_in rs c
  at_figures c l h = figure_part (code_place c) (figures_of n rs) (omega (arith, length_figures)) ∙ ap (λ (x : List ℕ). figure_from x 0) (part_figures c l) ∙ figure_back (figure_in rs c) h

-- ── the bounds of n stores' records
record Within (n : ℕ) (rs : List Rec) : Type 0 where
  count : (c : ℕ) → (figure_in rs c).count ≤ n * 606
  dots : (c : ℕ) → (figure_in rs c).dots ≤ n * 606 * most_dots
  sum : (c : ℕ) → (figure_in rs c).sum ≤ n * 606 * most_delta
  least : (c : ℕ) → (figure_in rs c).least < 2 ^ 64
  greatest : (c : ℕ) → (figure_in rs c).greatest < 2 ^ 64

within_none : Within 0 []
unfolding figure_in
within_none = record { count = λ c. omega arith; dots = λ c. omega arith; sum = λ c. omega arith; least = λ c. omega arith; greatest = λ c. omega arith }

spelled : (n : ℕ) (rs : List Rec) → n ≤ most_stores → Within n rs → (c : ℕ) → Spelled (figure_in rs c)
spelled n rs l w c =
    record { count = omega (arith, w.count c); dots = omega (arith, w.dots c); least = w.least c; greatest = w.greatest c; sum = omega (arith, w.sum c) }

within_more : (n : ℕ) (rs ts : List Rec) (s : List ℕ) → Within n rs → StoreBounds s ts → Within (n + 1) (rs ++ ts)
within_more n rs ts s w k =
    let m : most_of_code (length s) ≤ 606 = omega (arith, k.small) in
    record {
      count = λ c. omega (arith, m, w.count c, k.count c, ap (λ (f : Figure). f.count) (figure_append rs ts c) ∙ joined_count (figure_in rs c) (figure_in ts c));
      dots = λ c. omega (arith, m, w.dots c, k.dots c, ap (λ (f : Figure). f.dots) (figure_append rs ts c) ∙ joined_dots_lem (figure_in rs c) (figure_in ts c));
      sum = λ c. omega (arith, m, w.sum c, k.sum c, ap (λ (f : Figure). f.sum) (figure_append rs ts c) ∙ joined_sum (figure_in rs c) (figure_in ts c));
      least = λ c. let x = widths_small ts k.fit c in subst (λ (f : Figure). f.least < 2 ^ 64) (sym (figure_append rs ts c)) (joined_widths (figure_in rs c) (figure_in ts c) (w.least c) x.0 (w.greatest c) x.1).0;
      greatest = λ c. let x = widths_small ts k.fit c in subst (λ (f : Figure). f.greatest < 2 ^ 64) (sym (figure_append rs ts c)) (joined_widths (figure_in rs c) (figure_in ts c) (w.least c) x.0 (w.greatest c) x.1).1;
    }

-- ── a code after one more store with the records ts
code_more : (n : ℕ) (rs ts : List Rec) → n ≤ most_stores → Within n rs → (c : ℕ) → c ≤ last_code → code_after (figures_of n rs) ts c ≡ bytes_of_figure (figure_in (rs ++ ts) c)
code_more n rs ts l w c h = go (eqb (figure_in ts c).count 0) refl
  where
    go : (t : Bool) → eqb (figure_in ts c).count 0 ≡ t → code_after (figures_of n rs) ts c ≡ bytes_of_figure (figure_in (rs ++ ts) c)
    go true e =
        let z : figure_in ts c ≡ no_figure = figure_none ts c (eqb-true _ 0 e) in
        let j : figure_in (rs ++ ts) c ≡ figure_in rs c = figure_append rs ts c ∙ ap (joined (figure_in rs c)) z ∙ joined_with_none (figure_in rs c) in
        code_lacking (figures_of n rs) ts c e ∙ part_figures n rs c h ∙ ap bytes_of_figure (sym j)
    go false e =
        let j : joined (figure_at (figures_of n rs) c) (figure_in ts c) ≡ figure_in (rs ++ ts) c = ap (λ (f : Figure). joined f (figure_in ts c)) (at_figures n rs c h (spelled n rs l w c)) ∙ sym (figure_append rs ts c) in
        code_held (figures_of n rs) ts c e ∙ ap bytes_of_figure j

-- ── these figures pass the checks, up to 64 stores
module _ (n : ℕ) (rs : List Rec) (w : Within n rs) (l : n < most_stores) where
  passes : figures_taken (figures_of n rs) ≡ true
  passes =
      let k : stores_in (figures_of n rs) ≡ n = stores_figures n rs (omega arith) in
      let f : (c : ℕ) → c ≤ last_code → figure_at (figures_of n rs) c ≡ figure_in rs c = λ c h. at_figures n rs c h (spelled n rs (omega arith) w c) in
      taken_back (figures_of n rs)
      (record {
        long = length_figures n rs;
        stores = omega (arith, k, l);
        count = λ c h. omega (arith, k, w.count c, ap (λ (x : Figure). x.count) (f c h));
        dots = λ c h. omega (arith, k, w.dots c, ap (λ (x : Figure). x.dots) (f c h));
        sum = λ c h. omega (arith, k, w.sum c, ap (λ (x : Figure). x.sum) (f c h));
      })

  codes_more : (ts : List Rec) (m : ℕ) → m ≤ last_code + 1 → codes_after (figures_of n rs) ts m ≡ codes_of (rs ++ ts) m
  unfolding codes_after codes_of
  codes_more ts zero h = refl
  codes_more ts (suc m) h = ap₂ (λ (x y : List ℕ). x ++ y) (codes_more ts m (omega arith)) (code_more n rs ts (omega arith) w m (omega arith))

  figures_more : (ts : List Rec) → figures_after (figures_of n rs) ts ≡ figures_of (n + 1) (rs ++ ts)
  unfolding figures_after
  figures_more ts = ap₂ (λ (k : ℕ) (x : List ℕ). low_first 8 (k + 1) ++ x) (stores_figures n rs (omega arith)) (codes_more ts (last_code + 1) (omega arith))

  add_more : (s : List ℕ) → is_store s ≡ true → adding_figures s (figures_of n rs) ≡ record { answer = 0; bytes = figures_of (n + 1) (rs ++ records_in s) }
  add_more s e =
      let x = is_store_lem s e in
      was_taken s (figures_of n rs) x.0 x.1 passes
      ∙ ap (λ (l : List ℕ). record { answer = 0; bytes = l }) (figures_more x.0.recs ∙ ap (λ (ts : List Rec). figures_of (n + 1) (rs ++ ts)) (sym (records_are s x.0 x.1)))

-- and no 65th is taken
add_full : (n : ℕ) (rs : List Rec) → n ≡ most_stores → (s : List ℕ) → is_store s ≡ true → adding_figures s (figures_of n rs) ≡ record { answer = 2; bytes = figures_of n rs }
add_full n rs e s i = not_taken s (figures_of n rs) i (sym (too_many (figures_of n rs) n (sym (stores_figures n rs (omega arith))) (length_figures n rs) (omega arith)))

-- ── buffers handed in one by one, of which the first 64 stores are taken
abbrev pub taken_of : ℕ → List (List ℕ) → List (List ℕ)
taken_of n bs = take (most_stores - n) (stores_among bs)

record After (n : ℕ) (rs : List Rec) (bs ss : List (List ℕ)) : Type 0 where
  bytes : handed_in bs (figures_of n rs) ≡ figures_of (n + length ss) (rs ++ all_records ss)
  few : n + length ss ≤ most_stores
  within : Within (n + length ss) (rs ++ all_records ss)

after_none : (n : ℕ) (rs : List Rec) → n ≤ most_stores → Within n rs → After n rs [] []
unfolding handed_in all_records
after_none n rs l w =
    record {
      bytes = ap₂ (λ (k : ℕ) (x : List Rec). figures_of k x) (sym (add-zero n)) (sym (append-nil rs));
      few = omega arith;
      within = subst (λ (k : ℕ). Within k (rs ++ [])) (sym (add-zero n)) (subst (Within n) (sym (append-nil rs)) w);
    }

-- a buffer that is refused changes nothing
after_refused : (n : ℕ) (rs : List Rec) (s : List ℕ) (bs ss : List (List ℕ)) (k : ℕ) → adding_figures s (figures_of n rs) ≡ record { answer = k; bytes = figures_of n rs } → After n rs bs ss → After n rs (s ∷ bs) ss
unfolding handed_in
after_refused n rs s bs ss k e a = record { bytes = ap (λ (x : Adding). handed_in bs x.bytes) e ∙ a.bytes; few = a.few; within = a.within }

after_taken : (n : ℕ) (rs : List Rec) (s : List ℕ) (bs ss : List (List ℕ)) → adding_figures s (figures_of n rs) ≡ record { answer = 0; bytes = figures_of (n + 1) (rs ++ records_in s) } → After (n + 1) (rs ++ records_in s) bs ss → After n rs (s ∷ bs) (s ∷ ss)
unfolding handed_in all_records
after_taken n rs s bs ss e a =
    let z : n + 1 + length ss ≡ n + suc (length ss) = omega arith in
    let q : rs ++ records_in s ++ all_records ss ≡ rs ++ (records_in s ++ all_records ss) = append_assoc rs (records_in s) (all_records ss) in
    record {
      bytes = ap (λ (x : Adding). handed_in bs x.bytes) e ∙ a.bytes ∙ ap₂ (λ (k : ℕ) (l : List Rec). figures_of k l) z q;
      few = omega (arith, a.few);
      within = subst (λ (k : ℕ). Within k (rs ++ (records_in s ++ all_records ss))) z (subst (Within (n + 1 + length ss)) q a.within);
    }

among_store : (s : List ℕ) (bs : List (List ℕ)) → is_store s ≡ true → stores_among (s ∷ bs) ≡ s ∷ stores_among bs
unfolding stores_among store_before
among_store s bs e = rw e

among_other : (s : List ℕ) (bs : List (List ℕ)) → is_store s ≡ false → stores_among (s ∷ bs) ≡ stores_among bs
unfolding stores_among store_before
among_other s bs e = rw e

after : (bs : List (List ℕ)) (n : ℕ) (rs : List Rec) → AllBytes bs → n ≤ most_stores → Within n rs → After n rs bs (taken_of n bs)
after [] n rs B l w = unfold stores_among in subst (After n rs []) (sym (take-nil (most_stores - n))) (after_none n rs l w)
after (s ∷ bs) n rs B l w = go (is_store s) refl (less_or n most_stores) (after bs n rs B.1 l w) (λ h i. after bs (n + 1) (rs ++ records_in s) B.1 h i)
  where
    go : (t : Bool) → is_store s ≡ t → (n < most_stores) ⊎ (most_stores ≤ n) → After n rs bs (taken_of n bs)
        → (n + 1 ≤ most_stores → Within (n + 1) (rs ++ records_in s) → After (n + 1) (rs ++ records_in s) bs (taken_of (n + 1) bs)) → After n rs (s ∷ bs) (taken_of n (s ∷ bs))
    go false e o a f = subst (λ (x : List (List ℕ)). After n rs (s ∷ bs) (take (most_stores - n) x)) (sym (among_other s bs e)) (after_refused n rs s bs (taken_of n bs) 1 (not_store_lem s (figures_of n rs) e) a)
    go true e (inl o) a f =
        let z : most_stores - n ≡ suc (most_stores - (n + 1)) = omega arith in
        let t : taken_of n (s ∷ bs) ≡ s ∷ taken_of (n + 1) bs = ap₂ (λ (k : ℕ) (x : List (List ℕ)). take k x) z (among_store s bs e) in
        subst (After n rs (s ∷ bs)) (sym t)
        (after_taken n rs s bs (taken_of (n + 1) bs) (add_more n rs w o s e) (f (omega arith) (within_more n rs (records_in s) s w (bounds_of s e B.0))))
    go true e (inr o) a f =
        let z : most_stores - n ≡ 0 = omega arith in
        let t : taken_of n (s ∷ bs) ≡ taken_of n bs = ap (λ (k : ℕ). take k (stores_among (s ∷ bs))) z ∙ sym (ap (λ (k : ℕ). take k (stores_among bs)) z) in
        subst (After n rs (s ∷ bs)) (sym t) (after_refused n rs s bs (taken_of n bs) 2 (add_full n rs (omega arith) s e) a)

-- ── from zeros on
codes_zero : (m : ℕ) → codes_of [] m ≡ replicate (m * code_bytes) 0
unfolding codes_of
codes_zero zero = refl
codes_zero (suc m) =
    let z : m * code_bytes + code_bytes ≡ suc m * code_bytes = omega arith in
    ap₂ (λ (x y : List ℕ). x ++ y) (codes_zero m) none_bytes ∙ replicate-append-replicate (m * code_bytes) code_bytes 0 ∙ ap (λ (k : ℕ). replicate k 0) z
  where
    none_bytes : bytes_of_figure (figure_in [] m) ≡ replicate code_bytes 0
    none_bytes = unfold bytes_of_figure figure_in low_first in refl

abbrev zeros : List ℕ
zeros = replicate figures_bytes 0

zeros_are : zeros ≡ figures_of 0 []
zeros_are = sym (ap₂ (λ (x y : List ℕ). x ++ y) first (codes_zero (last_code + 1)) ∙ replicate-append-replicate 8 ((last_code + 1) * code_bytes) 0)
  where
    first : low_first 8 0 ≡ replicate 8 0
    first = unfold low_first in refl

pub zeros_figure : (c : ℕ) → c ≤ last_code → figure_at zeros c ≡ no_figure
zeros_figure c l = ap (λ (x : List ℕ). figure_at x c) zeros_are ∙ at_figures 0 [] c l (spelled 0 [] (omega arith) within_none c) ∙ (unfold figure_in in refl)

module _ (bs : List (List ℕ)) (B : AllBytes bs) where
  abbrev ss : List (List ℕ)
  ss = taken_of 0 bs

  from_zeros : (handed_in bs zeros ≡ figures_of (length ss) (all_records ss)) × (length ss ≤ most_stores) × Within (length ss) (all_records ss)
  from_zeros =
      let a = after bs 0 [] B (omega arith) within_none in
      let z : 0 + length ss ≡ length ss = omega arith in
      (ap (handed_in bs) zeros_are ∙ a.bytes ∙ ap (λ (k : ℕ). figures_of k (all_records ss)) z, omega (arith, a.few), subst (λ (k : ℕ). Within k (all_records ss)) z a.within)

  pub together_stores : stores_in (handed_in bs zeros) ≡ length ss
  together_stores = ap stores_in from_zeros.0 ∙ stores_figures (length ss) (all_records ss) (omega (arith, from_zeros.1))

  pub together_long : length (handed_in bs zeros) ≡ figures_bytes
  together_long = ap length from_zeros.0 ∙ length_figures (length ss) (all_records ss)

  -- "the figures after several stores equal those of all their characters together"
  pub together : (c : ℕ) → c ≤ last_code → Adds (all_records ss) c zeros (handed_in bs zeros)
  together c lc =
      let f = from_zeros in
      let rs : List Rec = all_records ss in
      let p : code_bytes_in (figures_of (length ss) rs) c ≡ code_after zeros rs c = part_figures (length ss) rs c lc ∙ sym (code_more 0 [] rs (omega arith) within_none c lc) ∙ ap (λ (x : List ℕ). code_after x rs c) (sym zeros_are) in
      let z : joined (figure_at zeros c) (figure_in rs c) ≡ figure_in rs c = ap (λ (x : Figure). joined x (figure_in rs c)) (zeros_figure c lc) ∙ joined_none (figure_in rs c) in
      subst (Adds rs c zeros) (sym f.0)
      (adds_by rs c zeros (figures_of (length ss) rs) (ap length zeros_are ∙ length_figures 0 []) (length_figures (length ss) rs) lc p (subst Spelled (sym z) (spelled (length ss) rs f.1 f.2 c)))

  -- byte by byte
  pub together_front : take 8 (handed_in bs zeros) ≡ low_first 8 (length ss)
  together_front = ap (take 8) from_zeros.0 ∙ take_at (low_first 8 (length ss)) (codes_of (all_records ss) (last_code + 1)) 8 (length_eight (length ss))

  pub together_bytes : (c : ℕ) → c ≤ last_code → code_bytes_in (handed_in bs zeros) c ≡ bytes_of_figure (figure_in (all_records ss) c)
  together_bytes c lc = ap (λ (x : List ℕ). code_bytes_in x c) from_zeros.0 ∙ part_figures (length ss) (all_records ss) c lc

  -- what the next call answers: a store is taken up to the 64th
  pub next_taken : (s : List ℕ) → is_store s ≡ true → length (stores_among bs) < most_stores → (adding_figures s (handed_in bs zeros)).answer ≡ 0
  next_taken s e l =
      let f = from_zeros in
      let t : length ss ≡ length (stores_among bs) = ap length (take_all most_stores (stores_among bs) (omega arith)) in
      ap (λ (b : List ℕ). (adding_figures s b).answer) f.0 ∙ ap (λ (x : Adding). x.answer) (add_more (length ss) (all_records ss) f.2 (omega (arith, t)) s e)

-- one store alone
pub one_store : (s : List ℕ) → Bytes s → is_store s ≡ true
    → ((adding_figures s zeros).answer ≡ 0) × (length (adding_figures s zeros).bytes ≡ figures_bytes) × ((c : ℕ) → c ≤ last_code → figure_at (adding_figures s zeros).bytes c ≡ figure_in (records_in s) c)
one_store s B e =
    let rs : List Rec = records_in s in
    let a : adding_figures s zeros ≡ record { answer = 0; bytes = figures_of 1 rs } = ap (adding_figures s) zeros_are ∙ add_more 0 [] within_none (omega arith) s e in
    let w : Within 1 rs = within_more 0 [] rs s within_none (bounds_of s e B) in
    let f : (adding_figures s zeros).bytes ≡ figures_of 1 rs = ap (λ (x : Adding). x.bytes) a in
    (ap (λ (x : Adding). x.answer) a, ap length f ∙ length_figures 1 rs, λ c l. ap (λ (b : List ℕ). figure_at b c) f ∙ at_figures 1 rs c l (spelled 1 rs (omega arith) w c))

-- ── "in any order of handing in"
no_records : (s : List ℕ) → is_store s ≡ false → records_in s ≡ []
unfolding records_in is_store
no_records s e = go (decode s) e
  where
    go : (o : Option Store) → some_store o ≡ false → records_by o ≡ []
    go none e = refl
    go (some st) e = let z : ◌≡◌ {A = ℕ} 0 1 = cc in absurd (omega arith)

all_cons : (s : List ℕ) (bs : List (List ℕ)) (c : ℕ) → figure_in (all_records (stores_among (s ∷ bs))) c ≡ joined (figure_in (records_in s) c) (figure_in (all_records (stores_among bs)) c)
all_cons s bs c = go (is_store s) refl
  where
    go : (t : Bool) → is_store s ≡ t → figure_in (all_records (stores_among (s ∷ bs))) c ≡ joined (figure_in (records_in s) c) (figure_in (all_records (stores_among bs)) c)
    go true e = ap (λ (x : List (List ℕ)). figure_in (all_records x) c) (among_store s bs e) ∙ (unfold all_records in figure_append (records_in s) (all_records (stores_among bs)) c)
    go false e =
        ap (λ (x : List (List ℕ)). figure_in (all_records x) c) (among_other s bs e)
        ∙ sym (ap (λ (x : List Rec). joined (figure_in x c) (figure_in (all_records (stores_among bs)) c)) (no_records s e) ∙ (unfold figure_in in joined_none (figure_in (all_records (stores_among bs)) c)))

record Alike (bs cs : List (List ℕ)) : Type 0 where
  long : length (stores_among bs) ≡ length (stores_among cs)
  bytes : AllBytes bs → AllBytes cs
  figures : (c : ℕ) → figure_in (all_records (stores_among bs)) c ≡ figure_in (all_records (stores_among cs)) c

count_cons : (s : List ℕ) (bs cs : List (List ℕ)) → length (stores_among bs) ≡ length (stores_among cs) → length (stores_among (s ∷ bs)) ≡ length (stores_among (s ∷ cs))
unfolding stores_among store_before
count_cons s bs cs e = go (is_store s)
  where
    go : (t : Bool) → length (store_before t s (stores_among bs)) ≡ length (store_before t s (stores_among cs))
    go true = ap suc e
    go false = e

count_swapped : (s t : List ℕ) (us : List (List ℕ)) → length (stores_among (s ∷ t ∷ us)) ≡ length (stores_among (t ∷ s ∷ us))
unfolding stores_among store_before
count_swapped s t us = go (is_store s) (is_store t)
  where
    go : (a b : Bool) → length (store_before a s (store_before b t (stores_among us))) ≡ length (store_before b t (store_before a s (stores_among us)))
    go true true = refl
    go true false = refl
    go false true = refl
    go false false = refl

alike : (bs cs : List (List ℕ)) → Rearranged bs cs → Alike bs cs
alike bs cs (same us) = record { long = refl; bytes = λ x. x; figures = λ c. refl }
alike bs cs (later s us vs r) =
    let i = alike us vs r in
    record { long = count_cons s us vs i.long; bytes = λ x. (x.0, i.bytes x.1); figures = λ c. all_cons s us c ∙ ap (joined (figure_in (records_in s) c)) (i.figures c) ∙ sym (all_cons s vs c) }
alike bs cs (swapped s t us) =
    record {
      long = count_swapped s t us;
      bytes = λ x. (x.1.0, (x.0, x.1.1));
      figures = λ c.
          let a : Figure = figure_in (records_in s) c in
          let b : Figure = figure_in (records_in t) c in
          let r : Figure = figure_in (all_records (stores_among us)) c in
          all_cons s (t ∷ us) c ∙ ap (joined a) (all_cons t us c) ∙ sym (joined_assoc a b r) ∙ ap (λ (f : Figure). joined f r) (joined_comm a b) ∙ joined_assoc b a r ∙ sym (all_cons t (s ∷ us) c ∙ ap (joined b) (all_cons s us c));
    }
alike bs cs (and_then us vs ws p q) =
    let i = alike us vs p in
    let j = alike vs ws q in
    record { long = i.long ∙ j.long; bytes = λ x. j.bytes (i.bytes x); figures = λ c. i.figures c ∙ j.figures c }

codes_alike : (rs ts : List Rec) → ((c : ℕ) → figure_in rs c ≡ figure_in ts c) → (m : ℕ) → codes_of rs m ≡ codes_of ts m
unfolding codes_of
codes_alike rs ts e zero = refl
codes_alike rs ts e (suc m) = ap₂ (λ (x y : List ℕ). x ++ y) (codes_alike rs ts e m) (ap bytes_of_figure (e m))

few_together : (cs : List (List ℕ)) → AllBytes cs → length (stores_among cs) ≤ most_stores → handed_in cs zeros ≡ figures_of (length (stores_among cs)) (all_records (stores_among cs))
few_together cs B l = (from_zeros cs B).0 ∙ ap (λ (x : List (List ℕ)). figures_of (length x) (all_records x)) (take_all most_stores (stores_among cs) l)

pub any_order : (bs cs : List (List ℕ)) → Rearranged bs cs → AllBytes bs → length (stores_among bs) ≤ most_stores → handed_in bs zeros ≡ handed_in cs zeros
any_order bs cs r B l =
    let i = alike bs cs r in
    few_together bs B l
    ∙ ap₂ (λ (k : ℕ) (x : List ℕ). low_first 8 k ++ x) i.long (codes_alike (all_records (stores_among bs)) (all_records (stores_among cs)) i.figures (last_code + 1))
    ∙ sym (few_together cs (i.bytes B) (omega (arith, i.long)))
