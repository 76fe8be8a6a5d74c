-- The parts of the figures, one for each code. Assumes nothing.
use Prim.Native.Nat.{ℕ, ◌+◌, ◌-◌, ◌^◌, ◌<◌, ◌≤◌}
use mathlib.Core.Path.{◌≡◌, refl, sym, ap, ◌∙◌}
use mathlib.Core.List.{List, ◌++◌, append_assoc}
use mathlib.Core.Logic.{◌⊎◌, inl, inr}
use native.Mathlib.Omega.{arith}
use lib.ListN.{length, take, drop, length-take, length-drop, length-append, take-append-drop}
use lib.Seq.{take_at, drop_at, drop-drop, drop-append-add, drop-append-le, take-append-le, length-take-le}
use Rattle.form.specs.Layout.{last_code}
use Rattle.form.specs.Num.{low_first, num, field}
use Rattle.form.proofs.Numbers.{num_le, less_or}
use Rattle.change.specs.Put.{with_bytes}
use Rattle.collection.specs.Figures.{code_bytes, figures_bytes, code_place, figure_from, figure_at, bytes_of_figure}
use Rattle.collection.specs.Together.{code_bytes_in}
use Rattle.collection.specs.declared.figure.Figure.{Figure}

-- ── parts of a list with other bytes put in it
pub front_part : (n q : ℕ) (xs ys : List ℕ) → q + n ≤ length xs → take n (drop q (xs ++ ys)) ≡ take n (drop q xs)
front_part n q xs ys h = ap (take n) (drop-append-le q xs ys (omega arith)) ∙ take-append-le n (drop q xs) ys (simp length-drop (omega arith))

pub part_before : (n q p : ℕ) (b x : List ℕ) → q + n ≤ p → p ≤ length b → take n (drop q (with_bytes b p x)) ≡ take n (drop q b)
unfolding with_bytes
part_before n q p b x h l =
    let e : length (take p b) ≡ p = length-take-le p b l in
    front_part n q (take p b) (x ++ drop (p + length x) b) (omega arith) ∙ sym (front_part n q (take p b) (drop p b) (omega arith)) ∙ ap (λ (z : List ℕ). take n (drop q z)) (take-append-drop p b)

pub part_after : (q p : ℕ) (b x : List ℕ) → p + length x ≤ q → p + length x ≤ length b → drop q (with_bytes b p x) ≡ drop q b
unfolding with_bytes
part_after q p b x h l =
    let P : List ℕ = take p b ++ x in
    let D : List ℕ = drop (p + length x) b in
    let e : length P ≡ p + length x = omega (arith, length-append (take p b) x, length-take-le p b (omega arith)) in
    let z : q ≡ length P + (q - length P) = omega arith in
    let y : p + length x + (q - length P) ≡ q = omega arith in
    ap (drop q) (sym (append_assoc (take p b) x D)) ∙ ap (λ (k : ℕ). drop k (P ++ D)) z ∙ drop-append-add P D (q - length P) ∙ drop-drop (q - length P) (p + length x) b ∙ ap (λ (k : ℕ). drop k b) y

part_here : (p n : ℕ) (b x : List ℕ) → length x ≡ n → p ≤ length b → take n (drop p (with_bytes b p x)) ≡ x
unfolding with_bytes
part_here p n b x h l =
    ap (take n) (drop_at (take p b) (x ++ drop (p + length x) b) p (length-take-le p b l)) ∙ take_at x (drop (p + length x) b) n h

-- ── the part of a code
pub part_other : (b x : List ℕ) (c k : ℕ) → length b ≡ figures_bytes → length x ≡ code_bytes → c ≤ last_code → k ≤ last_code → (k ≡ c → ⊥) → code_bytes_in (with_bytes b (code_place k) x) c ≡ code_bytes_in b c
part_other b x c k l h lc lk ne = go (less_or c k)
  where
    go : (c < k) ⊎ (k ≤ c) → code_bytes_in (with_bytes b (code_place k) x) c ≡ code_bytes_in b c
    go (inl a) = part_before code_bytes (code_place c) (code_place k) b x (omega arith) (omega arith)
    go (inr a) = let d : k < c = below a in ap (take code_bytes) (part_after (code_place c) (code_place k) b x (omega arith) (omega arith))
      where
        below : k ≤ c → k < c
        below a = by (less_or k c)
          where
            by : (k < c) ⊎ (c ≤ k) → k < c
            by (inl d) = d
            by (inr d) = absurd (ne (omega arith))

-- ── the figure of a part
pub number_in : (j p : ℕ) (b : List ℕ) → j + 8 ≤ code_bytes → p + code_bytes ≤ length b → field 8 (p + j) b ≡ field 8 j (take code_bytes (drop p b))
number_in j p b h l =
    let L : List ℕ = drop p b in
    let n : length (take code_bytes L) ≡ code_bytes = simp (length-take, length-drop) (omega arith) in
    let e : take 8 (drop j (take code_bytes L ++ drop code_bytes L)) ≡ take 8 (drop j (take code_bytes L)) = front_part 8 j (take code_bytes L) (drop code_bytes L) (omega arith) in
    ap num (ap (take 8) (sym (drop-drop j p b)) ∙ ap (λ (z : List ℕ). take 8 (drop j z)) (sym (take-append-drop code_bytes L)) ∙ e)

pub figure_part : (p : ℕ) (b : List ℕ) → p + code_bytes ≤ length b → figure_from b p ≡ figure_from (take code_bytes (drop p b)) 0
unfolding figure_from
figure_part p b l =
    let z : p ≡ p + 0 = omega arith in
    let e0 : field 8 p b ≡ field 8 0 (take code_bytes (drop p b)) = ap (λ (k : ℕ). field 8 k b) z ∙ number_in 0 p b (omega arith) l in
    let e1 : field 8 (p + 8) b ≡ field 8 8 (take code_bytes (drop p b)) = number_in 8 p b (omega arith) l in
    let e2 : field 8 (p + 16) b ≡ field 8 16 (take code_bytes (drop p b)) = number_in 16 p b (omega arith) l in
    let e3 : field 8 (p + 24) b ≡ field 8 24 (take code_bytes (drop p b)) = number_in 24 p b (omega arith) l in
    let e4 : field 8 (p + 32) b ≡ field 8 32 (take code_bytes (drop p b)) = number_in 32 p b (omega arith) l in
    λ i. record { count = e0 i; dots = e1 i; least = e2 i; greatest = e3 i; sum = e4 i }

pub record Spelled (f : Figure) : Type 0 where
  pub count : f.count < 2 ^ 64
  pub dots : f.dots < 2 ^ 64
  pub least : f.least < 2 ^ 64
  pub greatest : f.greatest < 2 ^ 64
  pub sum : f.sum < 2 ^ 64

pub figure_back : (f : Figure) → Spelled f → figure_from (bytes_of_figure f) 0 ≡ f
unfolding figure_from bytes_of_figure low_first
figure_back f h =
    let e0 : num (low_first 8 f.count) ≡ f.count = num_le 8 f.count h.count in
    let e1 : num (low_first 8 f.dots) ≡ f.dots = num_le 8 f.dots h.dots in
    let e2 : num (low_first 8 f.least) ≡ f.least = num_le 8 f.least h.least in
    let e3 : num (low_first 8 f.greatest) ≡ f.greatest = num_le 8 f.greatest h.greatest in
    let e4 : num (low_first 8 f.sum) ≡ f.sum = num_le 8 f.sum h.sum in
    λ i. record { count = e0 i; dots = e1 i; least = e2 i; greatest = e3 i; sum = e4 i }

pub length_figure : (f : Figure) → length (bytes_of_figure f) ≡ code_bytes
unfolding bytes_of_figure low_first
length_figure f = refl

-- ── a figure put at the part of a code
module _ (b : List ℕ) (k : ℕ) (f : Figure) (l : length b ≡ figures_bytes) (lk : k ≤ last_code) where
  pub put_part_here : code_bytes_in (with_bytes b (code_place k) (bytes_of_figure f)) k ≡ bytes_of_figure f
  put_part_here = part_here (code_place k) code_bytes b (bytes_of_figure f) (length_figure f) (omega arith)

  pub put_long : length (with_bytes b (code_place k) (bytes_of_figure f)) ≡ figures_bytes
  unfolding with_bytes
  put_long = simp (length-append, length-take, length-drop, length_figure f) (omega arith)

  pub put_at : Spelled f → figure_at (with_bytes b (code_place k) (bytes_of_figure f)) k ≡ f
  put_at h = figure_part (code_place k) (with_bytes b (code_place k) (bytes_of_figure f)) (omega (arith, put_long)) ∙ ap (λ (x : List ℕ). figure_from x 0) put_part_here ∙ figure_back f h

  pub put_other_at : (c : ℕ) → c ≤ last_code → (k ≡ c → ⊥) → figure_at (with_bytes b (code_place k) (bytes_of_figure f)) c ≡ figure_at b c
  put_other_at c lc ne =
      figure_part (code_place c) (with_bytes b (code_place k) (bytes_of_figure f)) (omega (arith, put_long))
      ∙ ap (λ (x : List ℕ). figure_from x 0) (part_other b (bytes_of_figure f) c k l (length_figure f) lc lk ne)
      ∙ sym (figure_part (code_place c) b (omega arith))
