-- The figures after records, code by code. Assumes nothing.
use Prim.Native.Nat.{ℕ, zero, suc, ◌+◌, ◌*◌, ◌^◌, ◌<◌, ◌≤◌}
use mathlib.Core.Path.{◌≡◌, refl, sym, ap, ap₂, ◌∙◌, subst}
use mathlib.Core.List.{List, [], ◌∷◌, ◌++◌}
use mathlib.Core.Bool.{Bool, true, false, cond}
use native.Mathlib.Omega.{arith}
use borrow.Author.Tests.{eqb-true, eqb-false, ne_eqb}
use lib.Dec.{eqb}
use lib.ListN.{length, take, drop, length-drop}
use lib.Seq.{take-add, take_all, drop-drop}
use Rattle.blocks.specs.Character.{width}
use Rattle.form.specs.Layout.{last_code}
use Rattle.form.specs.Num.{low_first, num}
use Rattle.form.specs.Model.{Rec, font, character}
use Rattle.change.specs.Put.{with_bytes}
use Rattle.collection.specs.declared.figure.Figure.{Figure}
use Rattle.collection.specs.Figures.{no_figure, lesser_width, joined, figure_of, figure_in, code_bytes, figures_bytes, code_place, stores_in, figure_at, bytes_of_figure, code_after, codes_after, figures_after}
use Rattle.collection.specs.Together.{code_bytes_in}
use Rattle.collection.specs.ByRecord.{RoomFor, Roomy, figures_with, with_record, with_records}
use Rattle.collection.proofs.Bytes.{length_eight}
use Rattle.collection.proofs.Joining.{joined_assoc, joined_comm, joined_none}
use Rattle.collection.proofs.Parts.{part_before, part_other, Spelled, length_figure, put_part_here, put_long, put_at, put_other_at}

same_test : (c : ℕ) → eqb c c ≡ true
same_test c = go (eqb c c) refl
  where
    go : (t : Bool) → eqb c c ≡ t → eqb c c ≡ true
    go true e = e
    go false e = absurd (eqb-false c c e refl)

-- ── the figure of one record more
figure_same : (n c : ℕ) (h d : List ℕ) (rs : List Rec) → figure_in (character n c h d ∷ rs) c ≡ joined (figure_of h d) (figure_in rs c)
unfolding figure_in
figure_same n c h d rs = rw (same_test c)

figure_other : (n k c : ℕ) (h d : List ℕ) (rs : List Rec) → (k ≡ c → ⊥) → figure_in (character n k h d ∷ rs) c ≡ figure_in rs c
unfolding figure_in
figure_other n k c h d rs ne = rw (ne_eqb k c ne)

-- a code without characters
none_joined : (t : Bool) (f g : Figure) → (f.count ≡ 0 → f ≡ no_figure) → (cond t (joined (record { count = 1; dots = g.dots; least = g.least; greatest = g.greatest; sum = g.sum }) f) f).count ≡ 0 → cond t (joined (record { count = 1; dots = g.dots; least = g.least; greatest = g.greatest; sum = g.sum }) f) f ≡ no_figure
unfolding joined
none_joined true f g h e = absurd (omega arith)
none_joined false f g h e = h e

pub figure_none : (rs : List Rec) (c : ℕ) → (figure_in rs c).count ≡ 0 → figure_in rs c ≡ no_figure
unfolding figure_in
figure_none [] c e = refl
figure_none (font n h ∷ rs) c e = figure_none rs c e
figure_none (character n k h d ∷ rs) c e = none_joined (eqb k c) (figure_in rs c) (figure_of h d) (figure_none rs c) e

pub joined_with_none : (a : Figure) → joined a no_figure ≡ a
joined_with_none a = joined_comm a no_figure ∙ joined_none a

pub joined_count : (a b : Figure) → (joined a b).count ≡ a.count + b.count
unfolding joined
joined_count a b = refl

pub joined_dots_lem : (a b : Figure) → (joined a b).dots ≡ a.dots + b.dots
unfolding joined
joined_dots_lem a b = refl

pub joined_sum : (a b : Figure) → (joined a b).sum ≡ a.sum + b.sum
unfolding joined
joined_sum a b = refl

pub lesser_below : (a b m : ℕ) → a < m → b < m → lesser_width a b < m
lesser_below zero b m p q = q
lesser_below (suc a) zero m p q = p
lesser_below (suc a) (suc b) m p q = omega arith

-- ── a character is added
module _ (b : List ℕ) (n k : ℕ) (h d : List ℕ) (rs : List Rec) (r : Roomy b (character n k h d ∷ rs)) where
  pub room_for : RoomFor b k h d
  room_for =
      let e = figure_same n k h d rs in
      let lk : k ≤ last_code = r.fit.0.0 in
      let c : (figure_at b k).count + (figure_in (character n k h d ∷ rs) k).count < 2 ^ 64 = r.count k lk in
      let x : (figure_at b k).dots + (figure_in (character n k h d ∷ rs) k).dots < 2 ^ 64 = r.dots k lk in
      let s : (figure_at b k).sum + (figure_in (character n k h d ∷ rs) k).sum < 2 ^ 64 = r.sum k lk in
      record {
        count = omega (arith, c, ap (λ (f : Figure). f.count) e ∙ joined_count (figure_of h d) (figure_in rs k));
        dots = omega (arith, x, ap (λ (f : Figure). f.dots) e ∙ joined_dots_lem (figure_of h d) (figure_in rs k));
        sum = omega (arith, s, ap (λ (f : Figure). f.sum) e ∙ joined_sum (figure_of h d) (figure_in rs k));
      }

  abbrev new : Figure
  new = joined (figure_at b k) (figure_of h d)

  new_spelled : Spelled new
  unfolding joined
  new_spelled =
      record {
        count = room_for.count;
        dots = room_for.dots;
        least = lesser_below (figure_at b k).least (width h) (2 ^ 64) (r.least k r.fit.0.0) r.fit.0.2;
        greatest = let a : (figure_at b k).greatest < 2 ^ 64 = r.greatest k r.fit.0.0 in let x : width h < 2 ^ 64 = r.fit.0.2 in omega arith;
        sum = room_for.sum;
      }

  abbrev after : List ℕ
  after = with_bytes b (code_place k) (bytes_of_figure new)

  after_same : figure_at after k ≡ new
  after_same = put_at b k new r.long r.fit.0.0 new_spelled

  after_other : (c : ℕ) → c ≤ last_code → (k ≡ c → ⊥) → figure_at after c ≡ figure_at b c
  after_other c lc ne = put_other_at b k new r.long r.fit.0.0 c lc ne

  by_code : (P : Figure → ℕ → Type 0) → P new k → ((c : ℕ) → c ≤ last_code → (k ≡ c → ⊥) → P (figure_at b c) c) → (c : ℕ) → c ≤ last_code → P (figure_at after c) c
  by_code P here other c lc = go (eqb k c) refl
    where
      go : (t : Bool) → eqb k c ≡ t → P (figure_at after c) c
      go true e = subst (λ (j : ℕ). P (figure_at after j) j) (eqb-true k c e) (subst (λ (f : Figure). P f k) (sym after_same) here)
      go false e = subst (λ (f : Figure). P f c) (sym (after_other c lc (eqb-false k c e))) (other c lc (eqb-false k c e))

  roomy_next : Roomy after rs
  roomy_next =
      let lk : k ≤ last_code = r.fit.0.0 in
      let e = figure_same n k h d rs in
      record {
        long = put_long b k new r.long lk;
        fit = r.fit.1;
        least = by_code (λ (f : Figure) (c : ℕ). f.least < 2 ^ 64) new_spelled.least (λ c lc ne. r.least c lc);
        greatest = by_code (λ (f : Figure) (c : ℕ). f.greatest < 2 ^ 64) new_spelled.greatest (λ c lc ne. r.greatest c lc);
        count = by_code (λ (f : Figure) (c : ℕ). f.count + (figure_in rs c).count < 2 ^ 64)
            (let x : (figure_at b k).count + (figure_in (character n k h d ∷ rs) k).count < 2 ^ 64 = r.count k lk in
            omega (arith, x, ap (λ (f : Figure). f.count) e ∙ joined_count (figure_of h d) (figure_in rs k), joined_count (figure_at b k) (figure_of h d)))
            (λ c lc ne. let x : (figure_at b c).count + (figure_in (character n k h d ∷ rs) c).count < 2 ^ 64 = r.count c lc in
            omega (arith, x, ap (λ (f : Figure). f.count) (figure_other n k c h d rs ne)));
        dots = by_code (λ (f : Figure) (c : ℕ). f.dots + (figure_in rs c).dots < 2 ^ 64)
            (let x : (figure_at b k).dots + (figure_in (character n k h d ∷ rs) k).dots < 2 ^ 64 = r.dots k lk in
            omega (arith, x, ap (λ (f : Figure). f.dots) e ∙ joined_dots_lem (figure_of h d) (figure_in rs k), joined_dots_lem (figure_at b k) (figure_of h d)))
            (λ c lc ne. let x : (figure_at b c).dots + (figure_in (character n k h d ∷ rs) c).dots < 2 ^ 64 = r.dots c lc in
            omega (arith, x, ap (λ (f : Figure). f.dots) (figure_other n k c h d rs ne)));
        sum = by_code (λ (f : Figure) (c : ℕ). f.sum + (figure_in rs c).sum < 2 ^ 64)
            (let x : (figure_at b k).sum + (figure_in (character n k h d ∷ rs) k).sum < 2 ^ 64 = r.sum k lk in
            omega (arith, x, ap (λ (f : Figure). f.sum) e ∙ joined_sum (figure_of h d) (figure_in rs k), joined_sum (figure_at b k) (figure_of h d)))
            (λ c lc ne. let x : (figure_at b c).sum + (figure_in (character n k h d ∷ rs) c).sum < 2 ^ 64 = r.sum c lc in
            omega (arith, x, ap (λ (f : Figure). f.sum) (figure_other n k c h d rs ne)));
      }

  -- ── what it leaves of each code
  code_next : (c : ℕ) → c ≤ last_code → code_after after rs c ≡ code_after b (character n k h d ∷ rs) c
  unfolding code_after
  code_next c lc = go (eqb k c) refl
    where
      same : code_after after rs k ≡ code_after b (character n k h d ∷ rs) k
      same = unfold code_after in by_none (eqb (figure_in rs k).count 0) refl
        where
          m : (figure_in (character n k h d ∷ rs) k).count ≡ 1 + (figure_in rs k).count
          m = ap (λ (f : Figure). f.count) (figure_same n k h d rs) ∙ joined_count (figure_of h d) (figure_in rs k)

          right : cond (eqb (figure_in (character n k h d ∷ rs) k).count 0) (code_bytes_in b k) (bytes_of_figure (joined (figure_at b k) (figure_in (character n k h d ∷ rs) k)))
              ≡ bytes_of_figure (joined (figure_at b k) (joined (figure_of h d) (figure_in rs k)))
          right = rw (ne_eqb (figure_in (character n k h d ∷ rs) k).count 0 (λ e. omega (arith, m, e)), figure_same n k h d rs)

          by_none : (t : Bool) → eqb (figure_in rs k).count 0 ≡ t
              → cond (eqb (figure_in rs k).count 0) (code_bytes_in after k) (bytes_of_figure (joined (figure_at after k) (figure_in rs k)))
              ≡ cond (eqb (figure_in (character n k h d ∷ rs) k).count 0) (code_bytes_in b k) (bytes_of_figure (joined (figure_at b k) (figure_in (character n k h d ∷ rs) k)))
          by_none true e =
              let z : figure_in rs k ≡ no_figure = figure_none rs k (eqb-true _ 0 e) in
              let w : joined (figure_of h d) (figure_in rs k) ≡ figure_of h d = ap (joined (figure_of h d)) z ∙ joined_with_none (figure_of h d) in
              rw e (put_part_here b k new r.long r.fit.0.0) ∙ sym (right ∙ ap (λ (f : Figure). bytes_of_figure (joined (figure_at b k) f)) w)
          by_none false e =
              rw e (ap (λ (f : Figure). bytes_of_figure (joined f (figure_in rs k))) after_same ∙ ap bytes_of_figure (joined_assoc (figure_at b k) (figure_of h d) (figure_in rs k))) ∙ sym right

      go : (t : Bool) → eqb k c ≡ t → code_after after rs c ≡ code_after b (character n k h d ∷ rs) c
      go true e = subst (λ (j : ℕ). code_after after rs j ≡ code_after b (character n k h d ∷ rs) j) (eqb-true k c e) same
      go false e =
          let ne = eqb-false k c e in
          unfold code_after in
          (ap₂ (λ (p : List ℕ) (f : Figure). cond (eqb (figure_in rs c).count 0) p (bytes_of_figure (joined f (figure_in rs c)))) (part_other b (bytes_of_figure new) c k r.long (length_figure new) lc r.fit.0.0 ne) (after_other c lc ne)
          ∙ ap (λ (g : Figure). cond (eqb g.count 0) (code_bytes_in b c) (bytes_of_figure (joined (figure_at b c) g))) (sym (figure_other n k c h d rs ne)))

-- ── records are added
pub roomy_after : (b : List ℕ) (r : Rec) (rs : List Rec) → Roomy b (r ∷ rs) → Roomy (with_record b r) rs
unfolding with_record figures_with figure_in
roomy_after b (font n h) rs r = record { long = r.long; fit = r.fit.1; least = r.least; greatest = r.greatest; count = r.count; dots = r.dots; sum = r.sum }
roomy_after b (character n k h d) rs r = roomy_next b n k h d rs r

code_after_lem : (b : List ℕ) (r : Rec) (rs : List Rec) → Roomy b (r ∷ rs) → (c : ℕ) → c ≤ last_code → code_after (with_record b r) rs c ≡ code_after b (r ∷ rs) c
unfolding with_record figures_with code_after figure_in
code_after_lem b (font n h) rs r c lc = refl
code_after_lem b (character n k h d) rs r c lc = code_next b n k h d rs r c lc

front_after : (b : List ℕ) (r : Rec) (rs : List Rec) → Roomy b (r ∷ rs) → take 8 (with_record b r) ≡ take 8 b
unfolding with_record figures_with
front_after b (font n h) rs r = refl
front_after b (character n k h d) rs r = part_before 8 0 (code_place k) b (bytes_of_figure (joined (figure_at b k) (figure_of h d))) (omega arith) (let l = r.long in let lk = r.fit.0.0 in omega arith)

pub long_after : (rs : List Rec) (b : List ℕ) → Roomy b rs → length (with_records rs b) ≡ figures_bytes
unfolding with_records
long_after [] b r = r.long
long_after (x ∷ rs) b r = long_after rs (with_record b x) (roomy_after b x rs r)

front_records : (rs : List Rec) (b : List ℕ) → Roomy b rs → take 8 (with_records rs b) ≡ take 8 b
unfolding with_records
front_records [] b r = refl
front_records (x ∷ rs) b r = front_records rs (with_record b x) (roomy_after b x rs r) ∙ front_after b x rs r

pub stores_after : (rs : List Rec) (b : List ℕ) → Roomy b rs → stores_in (with_records rs b) ≡ stores_in b
stores_after rs b r = ap num (front_records rs b r)

pub code_records : (rs : List Rec) (b : List ℕ) → Roomy b rs → (c : ℕ) → c ≤ last_code → code_bytes_in (with_records rs b) c ≡ code_after b rs c
unfolding with_records
code_records [] b r c lc = unfold code_after figure_in in refl
code_records (x ∷ rs) b r c lc = code_records rs (with_record b x) (roomy_after b x rs r) c lc ∙ code_after_lem b x rs r c lc

-- ── all codes
codes_are : (rs : List Rec) (b : List ℕ) → Roomy b rs → (n : ℕ) → n ≤ last_code + 1 → take (n * code_bytes) (drop 8 (with_records rs b)) ≡ codes_after b rs n
unfolding codes_after
codes_are rs b r zero l = refl
codes_are rs b r (suc n) l =
    let z : suc n * code_bytes ≡ n * code_bytes + code_bytes = omega arith in
    let e : drop (n * code_bytes) (drop 8 (with_records rs b)) ≡ drop (code_place n) (with_records rs b) = drop-drop (n * code_bytes) 8 (with_records rs b) in
    ap (λ (k : ℕ). take k (drop 8 (with_records rs b))) z ∙ take-add (n * code_bytes) code_bytes (drop 8 (with_records rs b))
    ∙ ap₂ (λ (x y : List ℕ). x ++ y) (codes_are rs b r n (omega arith)) (ap (take code_bytes) e ∙ code_records rs b r n (omega arith))

-- the stores counted, after all records
pub figures_are : (rs : List Rec) (b : List ℕ) → Roomy b rs → with_bytes (with_records rs b) 0 (low_first 8 (stores_in (with_records rs b) + 1)) ≡ figures_after b rs
unfolding with_bytes figures_after
figures_are rs b r =
    let l = long_after rs b r in
    let f : stores_in (with_records rs b) ≡ stores_in b = ap num (front_records rs b r) in
    let t : take ((last_code + 1) * code_bytes) (drop 8 (with_records rs b)) ≡ drop 8 (with_records rs b) = take_all ((last_code + 1) * code_bytes) (drop 8 (with_records rs b)) (simp length-drop (omega arith)) in
    let c : drop 8 (with_records rs b) ≡ codes_after b rs (last_code + 1) = sym t ∙ codes_are rs b r (last_code + 1) (omega arith) in
    let e : 0 + length (low_first 8 (stores_in (with_records rs b) + 1)) ≡ 8 = omega (arith, length_eight (stores_in (with_records rs b) + 1)) in
    ap (λ (k : ℕ). low_first 8 (stores_in (with_records rs b) + 1) ++ drop k (with_records rs b)) e ∙ ap₂ (λ (k : ℕ) (x : List ℕ). low_first 8 (k + 1) ++ x) f c
