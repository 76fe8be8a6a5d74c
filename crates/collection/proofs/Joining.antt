-- Figures join in any order, and how many characters of a code records have. Assumes nothing.
use Prim.Native.Nat.{ℕ, zero, suc, ◌+◌, ◌*◌, ◌<◌, ◌≤◌, max}
use mathlib.Core.Path.{◌≡◌, refl, sym}
use mathlib.Core.List.{List, [], ◌∷◌, ◌++◌}
use mathlib.Core.Bool.{Bool, true, false, cond}
use native.Mathlib.Omega.{arith}
use lib.Dec.{eqb}
use lib.ListN.{length}
use Rattle.form.specs.Layout.{key_of, character_record}
use Rattle.form.specs.Model.{Rec, font, character, Owner, owner_after, sorted, number, place, key, size_of, total}
use Rattle.form.proofs.Codec.{sorted_inv}
use Rattle.form.proofs.RecordBytes.{Allowed, allowed_char}
use borrow.Author.Tests.{eqb-true}
use Rattle.collection.specs.declared.figure.Figure.{Figure}
use Rattle.collection.specs.Figures.{no_figure, lesser_width, joined, figure_of, figure_in}

-- ── W-210: figures join in any order
lesser_comm : (a b : ℕ) → lesser_width a b ≡ lesser_width b a
lesser_comm zero zero = refl
lesser_comm zero (suc b) = refl
lesser_comm (suc a) zero = refl
lesser_comm (suc a) (suc b) = omega arith

lesser_assoc : (a b c : ℕ) → lesser_width (lesser_width a b) c ≡ lesser_width a (lesser_width b c)
lesser_assoc zero b c = refl
lesser_assoc (suc a) zero c = refl
lesser_assoc (suc a) (suc b) zero = refl
lesser_assoc (suc a) (suc b) (suc c) = omega arith

pub joined_comm : (a b : Figure) → joined a b ≡ joined b a
unfolding joined
joined_comm a b =
    let c : a.count + b.count ≡ b.count + a.count = omega arith in
    let d : a.dots + b.dots ≡ b.dots + a.dots = omega arith in
    let l : lesser_width a.least b.least ≡ lesser_width b.least a.least = lesser_comm a.least b.least in
    let g : max a.greatest b.greatest ≡ max b.greatest a.greatest = omega arith in
    let s : a.sum + b.sum ≡ b.sum + a.sum = omega arith in
    λ i. record { count = c i; dots = d i; least = l i; greatest = g i; sum = s i }

pub joined_assoc : (a b c : Figure) → joined (joined a b) c ≡ joined a (joined b c)
unfolding joined
joined_assoc a b c =
    let n : a.count + b.count + c.count ≡ a.count + (b.count + c.count) = omega arith in
    let d : a.dots + b.dots + c.dots ≡ a.dots + (b.dots + c.dots) = omega arith in
    let l = lesser_assoc a.least b.least c.least in
    let g : max (max a.greatest b.greatest) c.greatest ≡ max a.greatest (max b.greatest c.greatest) = omega arith in
    let s : a.sum + b.sum + c.sum ≡ a.sum + (b.sum + c.sum) = omega arith in
    λ i. record { count = n i; dots = d i; least = l i; greatest = g i; sum = s i }

pub joined_none : (a : Figure) → joined no_figure a ≡ a
unfolding joined
joined_none a =
    let n : 0 + a.count ≡ a.count = omega arith in
    let d : 0 + a.dots ≡ a.dots = omega arith in
    let g : max 0 a.greatest ≡ a.greatest = omega arith in
    let s : 0 + a.sum ≡ a.sum = omega arith in
    λ i. record { count = n i; dots = d i; least = a.least; greatest = g i; sum = s i }

-- the figures of several stores' records are the stores' figures joined
pub figure_append : (a b : List Rec) (c : ℕ) → figure_in (a ++ b) c ≡ joined (figure_in a c) (figure_in b c)
unfolding figure_in
figure_append [] b c = sym (joined_none (figure_in b c))
figure_append (font n h ∷ a) b c = figure_append a b c
figure_append (character n k h d ∷ a) b c = rw (figure_append a b c) (go (eqb k c))
  where
    go : (t : Bool) → cond t (joined (figure_of h d) (joined (figure_in a c) (figure_in b c))) (joined (figure_in a c) (figure_in b c)) ≡ joined (cond t (joined (figure_of h d) (figure_in a c)) (figure_in a c)) (figure_in b c)
    go true = sym (joined_assoc (figure_of h d) (figure_in a c) (figure_in b c))
    go false = refl

-- ── W-210: a font has at most one character of a code, so that each takes 108 bytes at least
count_step : (t : Bool) (h d : List ℕ) (f : Figure) → (cond t (joined (figure_of h d) f) f).count ≡ cond t 1 0 + f.count
unfolding joined
count_step true h d f = refl
count_step false h d f = omega arith

-- the font before these records may still have its character of code c, or not
pub count_bound : (c k : ℕ) (u : Owner) (rs : List Rec) → sorted k u rs ≡ true
    → (108 * (figure_in rs c).count ≤ total rs + 82) × (((n : ℕ) → u.owner ≡ n + 1 → key_of n (c + 1) < k) → 108 * (figure_in rs c).count ≤ total rs)
unfolding figure_in total size_of
count_bound c k u [] e = (omega arith, λ h. omega arith)
count_bound c k u (font n g ∷ rs) e =
    let w = sorted_inv k u (font n g) rs e in
    let i = count_bound c (key (font n g) + 1) (owner_after u (font n g)) rs w.rest in
    (omega (arith, i.0), λ h. omega (arith, i.0))
count_bound c k u (character n m g d ∷ rs) e =
    let w = sorted_inv k u (character n m g d) rs e in
    let a = allowed_char u n m g d w.ok in
    let i = count_bound c (key (character n m g d) + 1) u rs (stays u n m g d rs w.rest) in
    go (eqb m c) refl a (keyed n m g d k w.least) i
  where
    stays : (u : Owner) (n m : ℕ) (g d : List ℕ) (rs : List Rec) → sorted (key (character n m g d) + 1) (owner_after u (character n m g d)) rs ≡ true → sorted (key (character n m g d) + 1) u rs ≡ true
    stays u n m g d rs e = unfold owner_after in e

    keyed : (n m : ℕ) (g d : List ℕ) (k : ℕ) → k ≤ key (character n m g d) → k ≤ key_of n (m + 1)
    keyed n m g d k l = unfold number place in l

    key_is : (n m : ℕ) (g d : List ℕ) → key (character n m g d) ≡ key_of n (m + 1)
    key_is n m g d = unfold number place in refl

    go : (t : Bool) → eqb m c ≡ t → Allowed u n m g d → k ≤ key_of n (m + 1)
        → (108 * (figure_in rs c).count ≤ total rs + 82) × (((x : ℕ) → u.owner ≡ x + 1 → key_of x (c + 1) < key (character n m g d) + 1) → 108 * (figure_in rs c).count ≤ total rs)
        → (108 * (cond t (joined (figure_of g d) (figure_in rs c)) (figure_in rs c)).count ≤ character_record + length d + total rs + 82)
        × (((n : ℕ) → u.owner ≡ n + 1 → key_of n (c + 1) < k) → 108 * (cond t (joined (figure_of g d) (figure_in rs c)) (figure_in rs c)).count ≤ character_record + length d + total rs)
    go true q a l i =
        let mc : m ≡ c = eqb-true m c q in
        let r : 108 * (figure_in rs c).count ≤ total rs = i.1 (λ x o. omega (arith, mc, key_is n m g d, o, a.owner)) in
        (omega (arith, count_step true g d (figure_in rs c), r), λ h. absurd (omega (arith, mc, l, h n a.owner)))
    go false q a l i =
        (omega (arith, i.0), λ h. omega (arith, i.1 (λ x o. omega (arith, key_is n m g d, h x o, l, a.owner))))
