-- What the calls leave of the fonts. Assumes nothing.
use mathlib.Core.Path.{◌≡◌, refl, sym, ap, ◌∙◌}
use mathlib.Core.List.{List, [], ◌∷◌, ◌++◌}
use mathlib.Core.Bool.{Bool, true, false, cond}
use mathlib.Core.Logic.{⊎_elim}
use Prim.Native.Nat.{ℕ, ◌+◌, ◌<◌, ◌≤◌}
use native.Mathlib.Omega.{arith}
use lib.Dec.{leb, ltb}
use borrow.Author.Tests.{ltb-true, ltb-false}
use Rattle.form.specs.Layout.{key_of, last_code}
use Rattle.form.specs.Model.{Rec, font, character, no_owner, sorted, number, place, key}
use Rattle.form.specs.Order.{keep, below, from, replaced}
use Rattle.form.specs.Fonts.{Font, fonts_in, fonts_below, fonts_above, fonts_with}
use Rattle.form.proofs.Order.{split_at, below_in, below_out, from_in, from_out}
use Rattle.form.proofs.Numbers.{less_or}

-- ── among records
pub fonts_append : (a b : List Rec) → fonts_in (a ++ b) ≡ fonts_in a ++ fonts_in b
unfolding fonts_in
fonts_append [] b = refl
fonts_append (font n h ∷ a) b = ap (λ (l : List Font). record { number = n; kept = h } ∷ l) (fonts_append a b)
fonts_append (character n c h d ∷ a) b = fonts_append a b

font_key : (m : ℕ) (h : List ℕ) → key (font m h) ≡ key_of m 0
unfolding number place
font_key m h = refl

-- a character more or less at the front changes no fonts
kept_char : (t : Rec → Bool) (n c : ℕ) (h d : List ℕ) (rs : List Rec) → fonts_in (keep t (character n c h d ∷ rs)) ≡ fonts_in (keep t rs)
unfolding fonts_in keep
kept_char t n c h d rs = go (t (character n c h d))
  where
    go : (x : Bool) → fonts_in (cond x (character n c h d ∷ keep t rs) (keep t rs)) ≡ fonts_in (keep t rs)
    go true = refl
    go false = refl

fonts_below_lem : (n : ℕ) (rs : List Rec) → fonts_in (below (key_of n 0) rs) ≡ fonts_below n (fonts_in rs)
unfolding fonts_in fonts_below keep
fonts_below_lem n [] = refl
fonts_below_lem n (character m c h d ∷ rs) = kept_char (λ r. ltb (key r) (key_of n 0)) m c h d rs ∙ fonts_below_lem n rs
fonts_below_lem n (font m h ∷ rs) = go (ltb m n) refl (fonts_below_lem n rs)
  where
    go : (x : Bool) → ltb m n ≡ x → fonts_in (below (key_of n 0) rs) ≡ fonts_below n (fonts_in rs) → fonts_in (below (key_of n 0) (font m h ∷ rs)) ≡ cond x (record { number = m; kept = h } ∷ fonts_below n (fonts_in rs)) (fonts_below n (fonts_in rs))
    go true q ih = let l : m < n = ltb-true m n q in ap fonts_in (below_in (key_of n 0) (font m h) rs (omega (arith, font_key m h))) ∙ ap (λ (l : List Font). record { number = m; kept = h } ∷ l) ih
    go false q ih = let l : n ≤ m = ltb-false m n q in ap fonts_in (below_out (key_of n 0) (font m h) rs (omega (arith, font_key m h))) ∙ ih

fonts_above_lem : (n : ℕ) (rs : List Rec) → fonts_in (from (key_of (n + 1) 0) rs) ≡ fonts_above n (fonts_in rs)
unfolding fonts_in fonts_above keep
fonts_above_lem n [] = refl
fonts_above_lem n (character m c h d ∷ rs) = kept_char (λ r. leb (key_of (n + 1) 0) (key r)) m c h d rs ∙ fonts_above_lem n rs
fonts_above_lem n (font m h ∷ rs) = go (ltb n m) refl (fonts_above_lem n rs)
  where
    go : (x : Bool) → ltb n m ≡ x → fonts_in (from (key_of (n + 1) 0) rs) ≡ fonts_above n (fonts_in rs) → fonts_in (from (key_of (n + 1) 0) (font m h ∷ rs)) ≡ cond x (record { number = m; kept = h } ∷ fonts_above n (fonts_in rs)) (fonts_above n (fonts_in rs))
    go true q ih = let l : n < m = ltb-true n m q in ap fonts_in (from_in (key_of (n + 1) 0) (font m h) rs (omega (arith, font_key m h))) ∙ ap (λ (l : List Font). record { number = m; kept = h } ∷ l) ih
    go false q ih = let l : m ≤ n = ltb-false n m q in ap fonts_in (from_out (key_of (n + 1) 0) (font m h) rs (omega (arith, font_key m h))) ∙ ih

-- a font with its characters gives way
pub fonts_font : (n : ℕ) (new rs : List Rec) → fonts_in (replaced (key_of n 0) (key_of (n + 1) 0) new rs) ≡ fonts_with n (fonts_in new) (fonts_in rs)
unfolding fonts_with
fonts_font n new rs =
    fonts_append (below (key_of n 0) rs) (new ++ from (key_of (n + 1) 0) rs)
    ∙ ap (λ (l : List Font). fonts_in (below (key_of n 0) rs) ++ l) (fonts_append new (from (key_of (n + 1) 0) rs))
    ∙ ap (λ (l : List Font). l ++ (fonts_in new ++ fonts_in (from (key_of (n + 1) 0) rs))) (fonts_below_lem n rs)
    ∙ ap (λ (l : List Font). fonts_below n (fonts_in rs) ++ (fonts_in new ++ l)) (fonts_above_lem n rs)

-- no font stands at a character's key
from_past : (n c : ℕ) (rs : List Rec) → c ≤ last_code → fonts_in (from (key_of n (c + 1) + 1) rs) ≡ fonts_in (from (key_of n (c + 1)) rs)
unfolding fonts_in keep
from_past n c [] b = refl
from_past n c (character m i h d ∷ rs) b = kept_char (λ r. leb (key_of n (c + 1) + 1) (key r)) m i h d rs ∙ from_past n c rs b ∙ sym (kept_char (λ r. leb (key_of n (c + 1)) (key r)) m i h d rs)
from_past n c (font m h ∷ rs) b = ⊎_elim
    (λ (l : n < m). ap fonts_in (from_in (key_of n (c + 1) + 1) (font m h) rs (omega (arith, font_key m h))) ∙ ap (λ (l : List Font). record { number = m; kept = h } ∷ l) (from_past n c rs b) ∙ sym (ap fonts_in (from_in (key_of n (c + 1)) (font m h) rs (omega (arith, font_key m h)))))
    (λ (l : m ≤ n). ap fonts_in (from_out (key_of n (c + 1) + 1) (font m h) rs (omega (arith, font_key m h))) ∙ from_past n c rs b ∙ sym (ap fonts_in (from_out (key_of n (c + 1)) (font m h) rs (omega (arith, font_key m h)))))
    (less_or n m)

-- one character gives way to characters: the fonts stay
pub fonts_char : (n c : ℕ) (new rs : List Rec) → sorted 0 no_owner rs ≡ true → c ≤ last_code → fonts_in new ≡ [] → fonts_in (replaced (key_of n (c + 1)) (key_of n (c + 1) + 1) new rs) ≡ fonts_in rs
fonts_char n c new rs o b e =
    fonts_append (below (key_of n (c + 1)) rs) (new ++ from (key_of n (c + 1) + 1) rs)
    ∙ ap (λ (l : List Font). fonts_in (below (key_of n (c + 1)) rs) ++ l) (fonts_append new (from (key_of n (c + 1) + 1) rs) ∙ ap (λ (l : List Font). l ++ fonts_in (from (key_of n (c + 1) + 1) rs)) e ∙ from_past n c rs b)
    ∙ sym (fonts_append (below (key_of n (c + 1)) rs) (from (key_of n (c + 1)) rs)) ∙ ap fonts_in (sym (split_at (key_of n (c + 1)) 0 no_owner rs o))
