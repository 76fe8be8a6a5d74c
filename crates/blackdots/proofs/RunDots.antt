-- Black dots by the runs of rows. Assumes nothing.
use Prim.Native.Nat.{ℕ, zero, suc, ◌+◌, ◌*◌, ◌-◌, ◌<◌, ◌≤◌, min}
use mathlib.Core.Path.{◌≡◌, refl, sym, ap, ◌∙◌}
use mathlib.Core.List.{List, [], ◌∷◌, ◌++◌}
use mathlib.Core.Bool.{Bool, true, false, not, cond}
use native.Mathlib.Nat.{add-zero, zero-add, zero-mul, suc-mul, add-mul, mul-le-mul_left, mul-le-mul_right, le_trans}
use native.Mathlib.Omega.{arith}
use borrow.Author.Tests.{eqb-true, eqb-false}
use lib.Dec.{eqb, ltb}
use lib.ListN.{length, drop, take, get_or, replicate, length-append, length-replicate, length-drop}
use lib.Seq.{drop-drop, get_or-drop}
use Rattle.pictures.specs.Size.{row_size}
use Rattle.pictures.specs.Dots.{pack, unpack}
use Rattle.pictures.specs.Runs.{fill_row, on_fill}
use Rattle.pictures.specs.Rows.{row_dots, row_bytes, runs_row, picture}
use Rattle.pictures.specs.Drawing.{Read, no_row, whole, read_line, line_from, line_of, dots_of}
use Rattle.std.specs.Prelude.{MatchOption}
use Rattle.std.specs.Bool.{then_some}
use Rattle.pictures.specs.declared.runs.Filled.{Filled}
use Rattle.pictures.specs.declared.runs.Filled.TheVariants.{Over, Whole, Part}
use Rattle.pictures.proofs.Lines.{line_end, line_over, line_whole, line_part, rows_past, first_here, first_below, first_none}
use Rattle.pictures.proofs.Pictures.{picture_runs}
use Rattle.blackdots.specs.Black.{black_in, black_dots}
use Rattle.blackdots.specs.Counting.{white_eight, black_eight, CountedTo, WholeLine}
use Rattle.blackdots.specs.declared.compressed.BlackLine.{BlackLine}
use Rattle.blackdots.proofs.BitmapDots.{black_append, unpack_append, black_most, black_packed}

-- ── runs
black_white : (b : ℕ) → black_in (replicate b false) ≡ 0
unfolding black_in
black_white zero = refl
black_white (suc b) = rw (black_white b)

black_black : (b : ℕ) → black_in (replicate b true) ≡ b
unfolding black_in
black_black zero = refl
black_black (suc b) = rw (black_black b) (omega arith)

-- ── a row that is whole has as many dots as the width
fill_is : (w f b : ℕ) → fill_row w f b ≡ Whole → f + b ≡ w
unfolding fill_row
fill_is w f b e = go (ltb w (f + b)) (eqb (f + b) w) refl e
  where
    go : (t u : Bool) → eqb (f + b) w ≡ u → cond t Over (cond u Whole (Part (f + b))) ≡ Whole → f + b ≡ w
    go true u p q = let z : ◌≡◌ {A = ℕ} 0 1 = cc in absurd (omega arith)
    go false true p q = eqb-true (f + b) w p
    go false false p q = let z : ◌≡◌ {A = ℕ} 0 1 = cc in absurd (omega arith)

long_by : (w f b : ℕ) (x : Filled) → fill_row w f b ≡ x → (ds es : List Bool) (n k : ℕ) (q : Read) → length ds ≡ f + b
    → on_fill x no_row (whole ds (n + 1)) (λ (_ : ℕ). q) ≡ whole es k → (q ≡ whole es k → length es ≡ w) → length es ≡ w
long_by w f b Over p ds es n k q l e h = let z : ◌≡◌ {A = ℕ} 0 1 = cc in absurd (omega arith)
long_by w f b Whole p ds es n k q l e h = let z : ds ≡ es = cc in omega (arith, ap length z, fill_is w f b p)
long_by w f b (Part m) p ds es n k q l e h = h e

line_long : (w : ℕ) (xs : List ℕ) (ds es : List Bool) (c : Bool) (n k : ℕ) → read_line w ds c n xs ≡ whole es k → length es ≡ w
unfolding read_line
line_long w [] ds es c n k e = let z : ◌≡◌ {A = ℕ} 0 1 = cc in absurd (omega arith)
line_long w (b ∷ xs) ds es c n k e =
    long_by w (length ds) b (fill_row w (length ds) b) refl (ds ++ replicate b c) es n k _ (simp (length-append, length-replicate)) e
    (λ q. line_long w xs (ds ++ replicate b c) es (not c) (n + 1) k q)

-- ── the loop over the runs of a row
pub counting_starts : (w : ℕ) (src : List ℕ) → CountedTo w src src w 0
unfolding line_from black_in
counting_starts w src = record { at = 0; dots = []; long = omega arith; dark = refl; less = omega arith; line = refl; is = refl }

-- a run that is left, and the runs after it
front : (src rest xs : List ℕ) (at a : ℕ) → rest ≡ drop at src → rest ≡ a ∷ xs → (at < length src) × (a ≡ get_or src at 0) × (xs ≡ drop (at + 1) src)
front src rest xs at a e f =
    let g : drop at src ≡ a ∷ xs = sym e ∙ f in (
      omega (arith, ap length g, length-drop at src),
      ap (λ (d : List ℕ). get_or d 0 0) (sym g) ∙ get_or-drop at src 0 0 ∙ rw add-zero,
      ap (drop 1) (sym g) ∙ drop-drop 1 at src,
    )

-- the run after it is a byte
pub next_fits : (src rest xs ys : List ℕ) (at a b : ℕ) → ((i : ℕ) → get_or src i 0 < 256) → rest ≡ drop at src → rest ≡ a ∷ xs → xs ≡ b ∷ ys → b < 256
next_fits src rest xs ys at a b fit e f g = let h = front src xs ys (at + 1) b (front src rest xs at a e f).2 g in rw h.1 (fit (at + 1))

-- what a run that ends its row, or passes it, comes to
ended : (P : BlackLine → Type 0) (Q : Type 0) (t : Bool) (l : BlackLine) → (t ≡ true → P l) → (t ≡ false → Q) → MatchOption (then_some t l) Q P
ended P Q true l f g = f refl
ended P Q false l f g = g refl

module _ (w : ℕ) (src rest : List ℕ) (left black : ℕ) (k : CountedTo w src rest left black) where
  here : read_line w k.dots false k.at (drop k.at src) ≡ line_from w src 0
  here = ap (read_line w k.dots false k.at) (sym k.is) ∙ k.line

  pub counting_ends : length rest ≡ 0 → line_from w src 0 ≡ no_row
  counting_ends l = sym here ∙ line_end w k.dots false k.at src (omega (arith, ap length k.is, length-drop k.at src))

  module _ (a : ℕ) (xs : List ℕ) (q : rest ≡ a ∷ xs) where
    inside : (k.at < length src) × (a ≡ get_or src k.at 0) × (xs ≡ drop (k.at + 1) src)
    inside = front src rest xs k.at a k.is q

    abbrev after_white : List Bool
    after_white = k.dots ++ replicate (get_or src k.at 0) false

    white_long : length after_white ≡ length k.dots + a
    white_long = simp (length-append, length-replicate) (omega (arith, inside.1))

    white_dark : black_in after_white ≡ black
    white_dark = omega (arith, black_append k.dots (replicate (get_or src k.at 0) false), black_white (get_or src k.at 0), k.dark)

    -- the white run ends the row, or passes it
    pub white_last : left ≤ a → (l : BlackLine) → l.rest.now ≡ xs → l.black ≡ black
        → MatchOption (then_some (eqb left a) l) (line_from w src 0 ≡ no_row) (λ l. WholeLine w src l.rest.now l.black)
    white_last g l r b = ended (λ l. WholeLine w src l.rest.now l.black) (line_from w src 0 ≡ no_row) (eqb left a) l
        (λ p. record {
          dots = after_white;
          next = k.at + 1;
          is = sym here ∙ line_whole w k.dots false k.at src inside.0 (length k.dots) refl (omega (arith, inside.1, k.long, eqb-true left a p));
          dark = white_dark ∙ sym b;
          left = r ∙ inside.2;
        })
        (λ p. sym here ∙ line_over w k.dots false k.at src inside.0 (length k.dots) refl (omega (arith, inside.1, g, k.long, eqb-false left a p)))

    module _ (g : a < left) where
      white_line : read_line w after_white true (k.at + 1) (drop (k.at + 1) src) ≡ line_from w src 0
      white_line = sym (line_part w k.dots false k.at src inside.0 (length k.dots) refl (omega (arith, inside.1, g, k.long))) ∙ here

      pub white_unfinished : length xs ≡ 0 → line_from w src 0 ≡ no_row
      white_unfinished l = sym white_line ∙ line_end w after_white true (k.at + 1) src (omega (arith, ap length inside.2, length-drop (k.at + 1) src))

      module _ (b : ℕ) (ys : List ℕ) (f : xs ≡ b ∷ ys) where
        below : (k.at + 1 < length src) × (b ≡ get_or src (k.at + 1) 0) × (ys ≡ drop (k.at + 1 + 1) src)
        below = front src xs ys (k.at + 1) b inside.2 f

        abbrev after_black : List Bool
        after_black = after_white ++ replicate (get_or src (k.at + 1) 0) true

        black_long : length after_black ≡ length k.dots + a + b
        black_long = simp (length-append, length-replicate) (omega (arith, inside.1, below.1))

        black_dark : black_in after_black ≡ black + b
        black_dark = omega (arith, black_append after_white (replicate (get_or src (k.at + 1) 0) true), black_black (get_or src (k.at + 1) 0), white_dark, below.1)

        pub black_last : left - a ≤ b → (l : BlackLine) → l.rest.now ≡ ys → l.black ≡ black + b
            → MatchOption (then_some (eqb (left - a) b) l) (line_from w src 0 ≡ no_row) (λ l. WholeLine w src l.rest.now l.black)
        black_last h l r d = ended (λ l. WholeLine w src l.rest.now l.black) (line_from w src 0 ≡ no_row) (eqb (left - a) b) l
            (λ p. record {
              dots = after_black;
              next = k.at + 1 + 1;
              is = sym white_line ∙ line_whole w after_white true (k.at + 1) src below.0 (length k.dots + a) white_long (omega (arith, below.1, g, k.long, eqb-true (left - a) b p));
              dark = black_dark ∙ sym d;
              left = r ∙ below.2;
            })
            (λ p. sym white_line ∙ line_over w after_white true (k.at + 1) src below.0 (length k.dots + a) white_long (omega (arith, below.1, g, h, k.long, eqb-false (left - a) b p)))

        pub black_next : b < left - a → CountedTo w src ys (left - a - b) (black + b)
        black_next h = record {
          at = k.at + 1 + 1;
          dots = after_black;
          long = omega (arith, black_long, h, k.long);
          dark = black_dark;
          less = omega (arith, h, k.less);
          line = ap (read_line w after_black false (k.at + 1 + 1)) below.2 ∙ sym (line_part w after_white true (k.at + 1) src below.0 (length k.dots + a) white_long (omega (arith, below.1, h, k.long))) ∙ white_line;
          is = below.2;
        }

-- eight runs that leave the row unfinished
pub eight_next : (w : ℕ) (src rest eight after : List ℕ) (left black m n : ℕ) → CountedTo w src rest left black → eight ≡ take 8 rest → after ≡ drop 8 rest → length after + 8 ≡ length rest
    → m ≡ white_eight eight + black_eight eight → n ≡ black_eight eight → m < left → CountedTo w src after (left - m) (black + n)
eight_next w src [] eight after left black m n k p q l u v z = absurd (omega arith)
eight_next w src (a ∷ []) eight after left black m n k p q l u v z = absurd (omega arith)
eight_next w src (a ∷ b ∷ []) eight after left black m n k p q l u v z = absurd (omega arith)
eight_next w src (a ∷ b ∷ c ∷ []) eight after left black m n k p q l u v z = absurd (omega arith)
eight_next w src (a ∷ b ∷ c ∷ d ∷ []) eight after left black m n k p q l u v z = absurd (omega arith)
eight_next w src (a ∷ b ∷ c ∷ d ∷ e ∷ []) eight after left black m n k p q l u v z = absurd (omega arith)
eight_next w src (a ∷ b ∷ c ∷ d ∷ e ∷ f ∷ []) eight after left black m n k p q l u v z = absurd (omega arith)
eight_next w src (a ∷ b ∷ c ∷ d ∷ e ∷ f ∷ g ∷ []) eight after left black m n k p q l u v z = absurd (omega arith)
eight_next w src (a ∷ b ∷ c ∷ d ∷ e ∷ f ∷ g ∷ h ∷ xs) eight after left black m n k p q l u v z =
    let sum : m ≡ a + c + e + g + (b + d + f + h) = u ∙ ap (λ (r : List ℕ). white_eight r + black_eight r) p in
    let dark : n ≡ b + d + f + h = v ∙ ap black_eight p in
    let k1 = black_next w src (a ∷ b ∷ c ∷ d ∷ e ∷ f ∷ g ∷ h ∷ xs) left black k a (b ∷ c ∷ d ∷ e ∷ f ∷ g ∷ h ∷ xs) refl (omega arith) b (c ∷ d ∷ e ∷ f ∷ g ∷ h ∷ xs) refl (omega arith) in
    let k2 = black_next w src (c ∷ d ∷ e ∷ f ∷ g ∷ h ∷ xs) (left - a - b) (black + b) k1 c (d ∷ e ∷ f ∷ g ∷ h ∷ xs) refl (omega arith) d (e ∷ f ∷ g ∷ h ∷ xs) refl (omega arith) in
    let k3 = black_next w src (e ∷ f ∷ g ∷ h ∷ xs) (left - a - b - c - d) (black + b + d) k2 e (f ∷ g ∷ h ∷ xs) refl (omega arith) f (g ∷ h ∷ xs) refl (omega arith) in
    let k4 = black_next w src (g ∷ h ∷ xs) (left - a - b - c - d - e - f) (black + b + d + f) k3 g (h ∷ xs) refl (omega arith) h xs refl (omega arith) in
    let x : left - a - b - c - d - e - f - g - h ≡ left - m = omega arith in
    let y : black + b + d + f + h ≡ black + n = omega arith in
    rw (q, ← x, ← y) k4

-- ── the loop over rows
-- m rows that have the same dots
black_rows : (k w : ℕ) (d : List ℕ) (m t : ℕ) (ds : List Bool) → length ds ≤ row_size w * 8 → ((j : ℕ) → j < m → row_dots k w d (t + j) ≡ ds)
    → black_dots k w (t + m) d ≡ black_dots k w t d + m * black_in ds
unfolding black_dots picture row_bytes
black_rows k w d zero t ds l e = rw (add-zero, zero-mul) (omega arith)
black_rows k w d (suc m) t ds l e =
    let z : t + suc m ≡ suc (t + m) = omega arith in
    rw (z, suc-mul)
    (omega (arith, unpack_append (picture k w d (t + m)) (pack (row_size w) (row_dots k w d (t + m))), black_rows k w d m t ds l (λ j g. e j (omega arith)), black_packed (row_size w) ds l, ap (λ (x : List Bool). black_in (unpack (pack (row_size w) x))) (e m (omega arith))))

-- a row that is whole
whole_long : (w : ℕ) (src rest : List ℕ) (black : ℕ) (c : WholeLine w src rest black) → length c.dots ≡ w
unfolding line_from
whole_long w src rest black c = line_long w (drop 0 src) [] c.dots false 0 c.next c.is

whole_most : (w : ℕ) (src rest : List ℕ) (black : ℕ) (c : WholeLine w src rest black) → black ≤ w
whole_most w src rest black c = omega (arith, black_most c.dots, c.dark, whole_long w src rest black c)

-- no more rows are drawn
black_rest : (w : ℕ) (d : List ℕ) (top h : ℕ) → top ≤ h → ((j : ℕ) → j < h - top → runs_row w d (top + j) ≡ []) → black_dots 2 w top d ≡ black_dots 2 w h d
unfolding row_dots black_in
black_rest w d top h l e =
    let z : top + (h - top) ≡ h = omega arith in
    let r : black_dots 2 w (top + (h - top)) d ≡ black_dots 2 w top d + (h - top) * black_in [] = black_rows 2 w d (h - top) top [] (omega arith) e in
    omega (arith, ap (λ (x : ℕ). black_dots 2 w x d) z, r)

black_more : (w : ℕ) (d : List ℕ) (top m : ℕ) (ds : List Bool) (n black : ℕ) → length ds ≡ w → black_in ds ≡ black → n ≡ black_dots 2 w top d
    → ((j : ℕ) → j < m → runs_row w d (top + j) ≡ ds) → n + m * black ≡ black_dots 2 w (top + m) d
unfolding row_dots
black_more w d top m ds n black l b p e =
    sym (black_rows 2 w d m top ds (omega arith) e ∙ rw (b, ← p))

-- every class but 1 is drawn as class 2
pub black_runs : (k w h : ℕ) (d : List ℕ) → (k ≡ 1 → ⊥) → black_dots 2 w h d ≡ black_dots k w h d
unfolding black_dots
black_runs k w h d n = rw (picture_runs k w d n h)

-- ── the loop over rows: those above `top` are counted, and the data that is left draws those below
pub record Rows (w h : ℕ) (src rest : List ℕ) (top n : ℕ) : Type 0 where
  pub low : top ≤ h
  pub is : n ≡ black_dots 2 w top src
  pub most : n ≤ top * w
  pub fit : (i : ℕ) → get_or rest i 0 < 256
  pub below : top < h → (j : ℕ) → runs_row w rest j ≡ runs_row w src (top + j)

pub rows_start : (w h : ℕ) (src : List ℕ) → ((i : ℕ) → get_or src i 0 < 256) → Rows w h src src 0 0
unfolding black_dots picture unpack black_in
rows_start w h src fit = record { low = omega arith; is = refl; most = omega arith; fit = fit; below = λ _ j. rw zero-add }

most_by : (n t m b w : ℕ) → n ≤ t * w → b ≤ w → n + m * b ≤ (t + m) * w
most_by n t m b w p q = omega (arith, add-mul t m w, mul-le-mul_left m q)

pub rows_room : (n t m b w h : ℕ) → n ≤ t * w → b ≤ w → t + m ≤ h → h ≤ 65535 → w ≤ 65535 → n + m * b ≤ 4294836225
rows_room n t m b w h p q r u v = omega (arith, most_by n t m b w p q, mul-le-mul_right w (le_trans r u), mul-le-mul_left 65535 v)

module _ (w h : ℕ) (src rest : List ℕ) (top n : ℕ) (k : Rows w h src rest top n) where
  by_below : ((j : ℕ) → runs_row w rest j ≡ []) → n ≡ black_dots 2 w h src
  by_below e = k.is ∙ black_rest w src top h k.low (λ j l. sym (k.below (omega (arith, l)) j) ∙ e j)

  pub rows_ended : length rest ≡ 0 → n ≡ black_dots 2 w h src
  rows_ended l = by_below (λ j. rows_past w rest 0 j (omega arith))

  module _ (b : ℕ) (xs : List ℕ) (q : rest ≡ b ∷ xs) where
    pub rows_unfinished : line_from w xs 0 ≡ no_row → n ≡ black_dots 2 w h src
    rows_unfinished e = by_below (λ j. first_none w b rest xs q j (sym (ap line_of e)))

    pub row_byte : b < 256
    row_byte = rw (ap (λ (d : List ℕ). get_or d 0 0) q) at (k.fit 0)

    module _ (m : ℕ) (after : List ℕ) (black : ℕ) (l : top < h) (e : m ≡ min (b + 1) (h - top)) (c : WholeLine w xs after black) where
      -- its sum has room
      pub row_room : h ≤ 65535 → w ≤ 65535 → n + m * black ≤ 4294836225
      row_room u v = rows_room n top m black w h k.most (whole_most w xs after black c) (omega (arith, e)) u v

      pub rows_next : Rows w h src after (top + m) (n + m * black)
      rows_next = record {
        low = omega (arith, e);
        is = black_more w src top m c.dots n black (whole_long w xs after black c) c.dark k.is (λ j u. sym (k.below l j) ∙ first_here w b rest xs q j (omega (arith, e)) ∙ ap dots_of c.is);
        most = most_by n top m black w k.most (whole_most w xs after black c);
        fit = λ i. let d : get_or after i 0 ≡ get_or rest (suc (c.next + i)) 0 = ap (λ (d : List ℕ). get_or d i 0) c.left ∙ get_or-drop c.next xs i 0 ∙ ap (λ (d : List ℕ). get_or d (suc (c.next + i)) 0) (sym q) in rw d (k.fit (suc (c.next + i)));
        below = λ v j.
            let z : top + (b + 1 + j) ≡ top + m + j = omega (arith, e) in
            ap (λ (d : List ℕ). runs_row w d j) c.left ∙ sym (first_below w b rest xs q c.next j (sym (ap line_of c.is))) ∙ k.below l (b + 1 + j) ∙ rw z;
      }
