-- Laws of a character as the code looks at it, and of the run of records. Assumes nothing.
use Prim.Native.Nat.{ℕ, suc, ◌+◌, ◌-◌, ◌≤◌, ◌<◌}
use mathlib.Core.Path.{◌≡◌, refl, sym, ap, ◌∙◌}
use mathlib.Core.List.{List, [], ◌∷◌}
use mathlib.Core.Bool.{Bool, true, false, cond, false≢true}
use native.Mathlib.Omega.{arith}
use borrow.Author.Tests.{leb-true, leb-false, lt-ltb, le-ltb, le-leb, ltb-true, ltb-false}
use lib.Dec.{leb, ltb}
use Rattle.std.proofs.Common.{Option, Some, None, is_some}
use lib.IntN.{pos, negsuc, ◌+ℤ◌}
use lib.Signed.{le_z}
use lib.ListN.{length, take, drop, length-take, length-drop}
use Rattle.blocks.specs.Field.{signed, negative}
use Rattle.blocks.specs.Header.{cell_width}
use Rattle.blocks.specs.Character.{descriptor_bytes, class, left_offset, width, height}
use Rattle.blocks.proofs.Signed.{leb_iff, negative_by}
use Rattle.pictures.specs.Picture.{held}
use Rattle.pictures.specs.declared.picture.Held.{Held}
use Rattle.form.specs.Model.{Rec, held_of}
use Rattle.profile.specs.Profile.{RuleBroken, is_whole, right_inside, none_broken}
use Rattle.profile.specs.declared.rules.ProfileRule.{ProfileRule}
use Rattle.profile.specs.declared.rules.ProfileRule.TheVariants.{TypeZero, FixedSpacing, CodesComplete, LeftInside, RightInside, HeightInside, PitchAdvance}
use Rattle.profile.specs.declared.pass.BrokenRule.{BrokenRule}
use Rattle.profile.specs.Pass.{FoundSoFar, rule_number, as_told, numbers_or_8, first_broken_of, broken_by, next_wanted, behind_character, behind_record, passed_over, nothing_found}

-- ── rule 5, where the left offset is not negative, and where it is
from_zero : (l w m : ℕ) → l < 65536 → negative 16 l ≡ false → leb (l + w) m ≡ le_z (signed 16 l +ℤ pos w) (pos m)
unfolding signed
from_zero l w m h e = simp (lt-ltb l 32768 (leb-false 32768 l (sym (negative_by 16 l h) ∙ e)))

from_below : (l w m : ℕ) → l < 65536 → negative 16 l ≡ true → leb (l + w) (m + 65536) ≡ le_z (signed 16 l +ℤ pos w) (pos m)
unfolding signed
from_below l w m h e =
    let x = leb-true 32768 l (sym (negative_by 16 l h) ∙ e) in
    simp (le-ltb l 32768 x, lt-ltb l 65536 h) (go (ltb w (suc (65536 - suc l))) refl)
  where
    go : (t : Bool) → ltb w (suc (65536 - suc l)) ≡ t → leb (l + w) (m + 65536) ≡ le_z (cond t (negsuc (suc (65536 - suc l) - suc w)) (pos (w - suc (65536 - suc l)))) (pos m)
    go true q = le-leb (l + w) (m + 65536) (omega (arith, ltb-true w (suc (65536 - suc l)) q))
    go false q = let y = ltb-false w (suc (65536 - suc l)) q in leb_iff (l + w) (m + 65536) (w - suc (65536 - suc l)) m (λ z. omega arith) (λ z. omega arith)

-- the same by the offset's number alone
pub right_low : (l w m : ℕ) → l < 32768 → leb (l + w) m ≡ le_z (signed 16 l +ℤ pos w) (pos m)
unfolding signed
right_low l w m h = simp (lt-ltb l 32768 h)

pub right_high : (l w m : ℕ) → 32768 ≤ l → leb (l + w) (m + 65536) ≡ le_z (signed 16 l +ℤ pos w) (pos m)
right_high l w m h = go (ltb l 65536) refl
  where
    above : 65536 ≤ l → leb (l + w) (m + 65536) ≡ le_z (signed 16 l +ℤ pos w) (pos m)
    above k = unfold signed in simp (le-ltb l 32768 h, le-ltb l 65536 k) (leb_iff (l + w) (m + 65536) (l - 65536 + w) m (λ z. omega arith) (λ z. omega arith))

    go : (t : Bool) → ltb l 65536 ≡ t → leb (l + w) (m + 65536) ≡ le_z (signed 16 l +ℤ pos w) (pos m)
    go true e = let k = ltb-true l 65536 e in from_below l w m k (negative_by 16 l k ∙ le-leb 32768 l h)
    go false e = above (ltb-false l 65536 e)

-- rule 4 by the offset's number
pub negative_range : (l : ℕ) → negative 16 l ≡ true → (32768 ≤ l) × (l < 65536)
negative_range l e = go (ltb l 65536) refl
  where
    above : 65536 ≤ l → negative 16 l ≡ false
    above k = unfold negative signed in simp (le-ltb l 32768 (omega arith), le-ltb l 65536 k, le-ltb (l - 65536) 0 (omega arith))

    go : (t : Bool) → ltb l 65536 ≡ t → (32768 ≤ l) × (l < 65536)
    go true q = let k = ltb-true l 65536 q in (leb-true 32768 l (sym (negative_by 16 l k) ∙ e), k)
    go false q = let z : true ≡ false = sym e ∙ above (ltb-false l 65536 q) in let y : ◌≡◌ {A = ℕ} 0 1 = cc in absurd (omega arith)

module _ (h k : List ℕ) (l w m : ℕ) (p : l ≡ left_offset k) (q : w ≡ width k) (r : m ≡ cell_width h) (s : l < 65536) where
  pub right_from_zero : negative 16 l ≡ false → leb (l + w) m ≡ right_inside h k
  unfolding right_inside
  right_from_zero e = rw (← p, ← q, ← r) (from_zero l w m s e)

  pub right_from_below : negative 16 l ≡ true → leb (l + w) (m + 65536) ≡ right_inside h k
  unfolding right_inside
  right_from_below e = rw (← p, ← q, ← r) (from_below l w m s e)

-- ── a character's data
pub whole_by : (k d : List ℕ) (a w y : ℕ) → a ≡ class k → w ≡ width k → y ≡ height k → (v : Held) → v ≡ held a w y d → is_whole (held_of k d) ≡ is_whole v
whole_by k d a w y p q r v e = let i : held_of k d ≡ v = rw (← p, ← q, ← r) (sym e) in ap is_whole i

-- ── behind a character
module _ (h : List ℕ) (p : FoundSoFar) (c : ℕ) (k d : List ℕ) (w r : ℕ) (e : w ≡ next_wanted p.wanted c (is_whole (held_of k d))) (i : r ≡ broken_by h k) where
  pub noted_is : (x : RuleBroken) → x ≡ first_broken_of (record { rule = p.rule; code = p.code }) r c → record { wanted = w; rule = x.rule; code = x.code } ≡ behind_character h p c k d
  unfolding behind_character
  noted_is x q = rw (q, ← e, ← i) (go (ltb r p.rule))
    where
      go : (t : Bool) → let y : RuleBroken = cond t (record { rule = r; code = c }) (record { rule = p.rule; code = p.code }) in
          ◌≡◌ {A = FoundSoFar} (record { wanted = w; rule = y.rule; code = y.code }) (record { wanted = w; rule = cond t r p.rule; code = cond t c p.code })
      go true = refl
      go false = refl

-- ── the first broken rule of a run, as it is told
number_bound : (r : ProfileRule) → leb (rule_number r) 7 ≡ true
number_bound TypeZero = refl
number_bound FixedSpacing = refl
number_bound CodesComplete = refl
number_bound LeftInside = refl
number_bound RightInside = refl
number_bound HeightInside = refl
number_bound PitchAdvance = refl

pub told_is : (o : Option BrokenRule) → as_told o ≡ cond (leb (numbers_or_8 o).rule 7) (record { rule = (numbers_or_8 o).rule; code = (numbers_or_8 o).code }) none_broken
told_is None = refl
told_is (Some b) = rw (number_bound b.rule) refl

pub told_some : (o : Option BrokenRule) → is_some o ≡ true → (as_told o).rule ≡ 0 → ⊥
told_some None e z = absurd (false≢true e)
told_some (Some b) e z = go b.rule z
  where
    go : (r : ProfileRule) → rule_number r ≡ 0 → ⊥
    go TypeZero z = omega (arith, z)
    go FixedSpacing z = omega (arith, z)
    go CodesComplete z = omega (arith, z)
    go LeftInside z = omega (arith, z)
    go RightInside z = omega (arith, z)
    go HeightInside z = omega (arith, z)
    go PitchAdvance z = omega (arith, z)

pub told_none : (o : Option BrokenRule) → is_some o ≡ false → (as_told o).rule ≡ 0
told_none None e = refl
told_none (Some b) e = absurd (false≢true (sym e))

-- ── a run of records: what is left of it gives the whole's findings
module _ (h : List ℕ) (p all : FoundSoFar) (left : List Rec) (i : passed_over left h p ≡ all) where
  pub pass_next : (more : List Rec) (r : Rec) → left ≡ r ∷ more → (q : FoundSoFar) → q ≡ behind_record h p r → passed_over more h q ≡ all
  unfolding passed_over
  pass_next more r e q g = ap (passed_over more h) g ∙ sym (ap (λ (l : List Rec). passed_over l h p) e) ∙ i

  pub pass_ended : left ≡ [] → p ≡ all
  unfolding passed_over
  pass_ended e = sym (ap (λ (l : List Rec). passed_over l h p) e) ∙ i
