-- The first broken rule by numbers, and the second call. Assumes nothing.
use Prim.Native.Nat.{ℕ, zero, suc, ◌+◌, ◌-◌, ◌≤◌, ◌<◌}
use mathlib.Core.Path.{◌≡◌, refl, sym, ap, ◌∙◌, subst}
use mathlib.Core.Logic.{◌⊎◌, inl, inr}
use mathlib.Core.List.{List}
use mathlib.Core.Bool.{Bool, true, false, not, ◌&&◌, ◌||◌}
use mathlib.Core.Option.{Option, none, some}
use native.Mathlib.Omega.{arith}
use borrow.Author.Tests.{eqb-true, eqb-false, ne_eqb, le-leb, lt-leb, leb-true, leb-false, ltb-true, ltb-false}
use lib.Dec.{eqb, leb, ltb}
use Rattle.blocks.specs.Field.{negative}
use Rattle.blocks.specs.Header.{font_type, spacing, cell_width, cell_height, pitch}
use Rattle.blocks.specs.Character.{left_offset, width, height, delta_x}
use Rattle.blocks.proofs.Signed.{negative_by}
use Rattle.pictures.specs.Size.{within}
use Rattle.pictures.specs.declared.picture.Held.{Held}
use Rattle.pictures.specs.declared.picture.Held.TheVariants.{Whole, Unfinished, Foreign}
use Rattle.form.specs.Layout.{last_font, key_of}
use Rattle.form.specs.Model.{Rec, Store, held_of, decode}
use Rattle.form.specs.Checks.{on_store, checked, finding, on_font}
use Rattle.form.specs.Order.{find_record, character_at}
use Rattle.store.specs.Calls.{kept_of, data_of}
use Rattle.stream.specs.Written.{WriteOut, unwritten, writing_font}
use Rattle.profile.specs.declared.check.ProfileChecked.{ProfileChecked}
use Rattle.profile.specs.Profile.{RuleBroken, unchecked, checked_as, checking_profile, meets, writing_profiled, is_whole, complete, left_inside, right_inside, height_inside, advances_by_pitch, of_each, rules, broken_in, none_broken, rule_at, BreaksFirst, Breaks, other_type, proportional, absent, incomplete, left_of_cell, right_of_cell, right_from_left, above_cell, other_advance, BrokenFirst, NoneBroken, FoundByNumbers}
use Rattle.profile.proofs.Characters.{right_low, right_high, negative_range}
use Rattle.profile.proofs.Search.{rules_hold, breaks_first, all_held}

-- ── a test that fails, by numbers
not_whole : (v : Held) → (v ≡ Whole → ⊥) → is_whole v ≡ false
not_whole Whole f = absurd (f refl)
not_whole Unfinished f = refl
not_whole Foreign f = refl

not_true : (t : Bool) → t ≡ true → t ≡ false → ⊥
not_true t p q = let z : ◌≡◌ {A = ℕ} 0 1 = cc in omega arith

module _ (h : List ℕ) (c : ℕ) (o : Option Rec) where
  abbrev Fails : ℕ → Type 0
  Fails j = rule_at rules j h c o ≡ false

  at_place : (k j : ℕ) → k ≡ j → Fails k → Fails j
  at_place k j e x = subst Fails e x

  -- a rule that is broken fails its test: number i stands at place i - 1
  broken_fails : (i j : ℕ) → Breaks h c o i → i ≡ j + 1 → Fails j
  unfolding left_inside right_inside height_inside advances_by_pitch
  broken_fails i j (other_type e p) q = at_place 0 j (omega arith) (ne_eqb (font_type h) 0 (λ z. omega arith))
  broken_fails i j (proportional e p) q = at_place 1 j (omega arith) (ne_eqb (spacing h) 0 (λ z. omega arith))
  broken_fails i j (absent e l m x) q = at_place 2 j (omega arith) (rw (le-leb 32 c l, le-leb c 127 m, x))
  broken_fails i j (incomplete e r x l m f) q = at_place 2 j (omega arith) (rw (le-leb 32 c l, le-leb c 127 m, x) (not_whole (held_of (kept_of r) (data_of r)) f))
  broken_fails i j (left_of_cell e r x l m) q = at_place 3 j (omega arith) (rw (x, negative_by 16 (left_offset (kept_of r)) m, le-leb 32768 (left_offset (kept_of r)) l))
  broken_fails i j (right_of_cell e r x l m) q =
      at_place 4 j (omega arith) (rw x (sym (right_low (left_offset (kept_of r)) (width (kept_of r)) (cell_width h) l) ∙ lt-leb (left_offset (kept_of r) + width (kept_of r)) (cell_width h) m))
  broken_fails i j (right_from_left e r x l m) q =
      at_place 4 j (omega arith) (rw x (sym (right_high (left_offset (kept_of r)) (width (kept_of r)) (cell_width h) l) ∙ lt-leb (left_offset (kept_of r) + width (kept_of r)) (cell_width h + 65536) m))
  broken_fails i j (above_cell e r x l) q = at_place 5 j (omega arith) (rw x (lt-leb (height (kept_of r)) (cell_height h) l))
  broken_fails i j (other_advance e r x f) q = at_place 6 j (omega arith) (rw x (ne_eqb (delta_x (kept_of r)) (pitch h) f))

  -- and the other way
  missing : (t : Option Rec) → o ≡ t → (not (within 32 127 c) || complete t) ≡ false → Breaks h c o 3
  missing t e q = go (leb 32 c) refl (leb c 127) refl t e q
    where
      held : (r : Rec) → o ≡ some r → 32 ≤ c → c ≤ 127 → is_whole (held_of (kept_of r) (data_of r)) ≡ false → Breaks h c o 3
      held r x l m f = incomplete refl r x l m (λ z. not_true _ (ap is_whole z) f)

      go : (a : Bool) → leb 32 c ≡ a → (b : Bool) → leb c 127 ≡ b → (t : Option Rec) → o ≡ t → (not (a && b) || complete t) ≡ false → Breaks h c o 3
      go true p true u none x f = absent refl (leb-true 32 c p) (leb-true c 127 u) x
      go true p true u (some r) x f = held r x (leb-true 32 c p) (leb-true c 127 u) f
      go true p false u t x f = absurd (not_true true refl f)
      go false p b u t x f = absurd (not_true true refl f)

  -- a rule on the character, whose test fails
  character_fails : (u : List ℕ → List ℕ → Bool) (i : ℕ) → ((r : Rec) → o ≡ some r → u h (kept_of r) ≡ false → Breaks h c o i) → (t : Option Rec) → o ≡ t → of_each u h c t ≡ false → Breaks h c o i
  character_fails u i f none x e = absurd (not_true true refl e)
  character_fails u i f (some r) x e = f r x e

  left_fails : (r : Rec) → o ≡ some r → left_inside h (kept_of r) ≡ false → Breaks h c o 4
  unfolding left_inside
  left_fails r x e = go (negative 16 (left_offset (kept_of r))) refl e
    where
      go : (t : Bool) → negative 16 (left_offset (kept_of r)) ≡ t → not t ≡ false → Breaks h c o 4
      go true q f = let n = negative_range (left_offset (kept_of r)) q in left_of_cell refl r x n.0 n.1
      go false q f = absurd (not_true true refl f)

  right_fails : (r : Rec) → o ≡ some r → right_inside h (kept_of r) ≡ false → Breaks h c o 5
  unfolding right_inside
  right_fails r x e = go (ltb l 32768) refl
    where
      l : ℕ
      l = left_offset (kept_of r)

      go : (t : Bool) → ltb l 32768 ≡ t → Breaks h c o 5
      go true q =
          let k = ltb-true l 32768 q in
          right_of_cell refl r x k (leb-false (l + width (kept_of r)) (cell_width h) (right_low l (width (kept_of r)) (cell_width h) k ∙ e))
      go false q =
          let k = ltb-false l 32768 q in
          right_from_left refl r x k (leb-false (l + width (kept_of r)) (cell_width h + 65536) (right_high l (width (kept_of r)) (cell_width h) k ∙ e))

  height_fails : (r : Rec) → o ≡ some r → height_inside h (kept_of r) ≡ false → Breaks h c o 6
  unfolding height_inside
  height_fails r x e = above_cell refl r x (leb-false (height (kept_of r)) (cell_height h) e)

  advance_fails : (r : Rec) → o ≡ some r → advances_by_pitch h (kept_of r) ≡ false → Breaks h c o 7
  unfolding advances_by_pitch
  advance_fails r x e = other_advance refl r x (eqb-false (delta_x (kept_of r)) (pitch h) e)

  fails_broken : (j : ℕ) → Fails j → Breaks h c o (j + 1)
  fails_broken zero e = other_type refl (omega (arith, eqb-false (font_type h) 0 e))
  fails_broken (suc zero) e = proportional refl (omega (arith, eqb-false (spacing h) 0 e))
  fails_broken (suc (suc zero)) e = missing o refl e
  fails_broken (suc (suc (suc zero))) e = character_fails left_inside 4 left_fails o refl e
  fails_broken (suc (suc (suc (suc zero)))) e = character_fails right_inside 5 right_fails o refl e
  fails_broken (suc (suc (suc (suc (suc zero))))) e = character_fails height_inside 6 height_fails o refl e
  fails_broken (suc (suc (suc (suc (suc (suc zero)))))) e = character_fails advances_by_pitch 7 advance_fails o refl e
  fails_broken (suc (suc (suc (suc (suc (suc (suc j))))))) e = absurd (not_true true refl e)

positive_rule : (h : List ℕ) (c : ℕ) (o : Option Rec) (i : ℕ) → Breaks h c o i → 0 < i
positive_rule h c o i (other_type e p) = omega arith
positive_rule h c o i (proportional e p) = omega arith
positive_rule h c o i (absent e l m x) = omega arith
positive_rule h c o i (incomplete e r x l m f) = omega arith
positive_rule h c o i (left_of_cell e r x l m) = omega arith
positive_rule h c o i (right_of_cell e r x l m) = omega arith
positive_rule h c o i (right_from_left e r x l m) = omega arith
positive_rule h c o i (above_cell e r x l) = omega arith
positive_rule h c o i (other_advance e r x f) = omega arith

-- ── what the search finds
module _ (n : ℕ) (h : List ℕ) (rs : List Rec) where
  abbrev at : ℕ → Option Rec
  at c = character_at n c rs

  -- where a rule's test holds it is not broken
  not_broken : (i c : ℕ) → ((j : ℕ) → i ≡ j + 1 → rule_at rules j h c (at c) ≡ true) → Breaks h c (at c) i → ⊥
  not_broken i c f x =
      let p : 0 < i = positive_rule h c (at c) i x in
      let e : i ≡ i - 1 + 1 = omega arith in
      not_true (rule_at rules (i - 1) h c (at c)) (f (i - 1) e) (broken_fails h c (at c) i (i - 1) x e)

  pub found_none : (broken_in n h rs).rule ≡ 0 → (broken_in n h rs ≡ none_broken) × NoneBroken h at
  unfolding broken_in
  found_none e =
      let f = all_held h at rules 1 (omega arith) e in
      (rules_hold h at rules 1 f, λ i c l x. not_broken i c (λ j q. f j c l) x)

  found_first : BreaksFirst rules 1 h at (broken_in n h rs) → BrokenFirst h at (broken_in n h rs).rule (broken_in n h rs).code
  found_first x =
      let e : (broken_in n h rs).rule ≡ x.place + 1 = omega (arith, x.number) in
      record {
        inside = x.code;
        broken = subst (λ (i : ℕ). Breaks h (broken_in n h rs).code (at (broken_in n h rs).code) i) (sym e) (fails_broken h (broken_in n h rs).code (at (broken_in n h rs).code) x.place x.broken);
        lowest = λ c l y. not_broken (broken_in n h rs).rule c (λ j q. let z : x.place ≡ j = omega arith in subst (λ (k : ℕ). rule_at rules k h c (at c) ≡ true) z (x.lowest c l)) y;
        first = λ i c l m y. not_broken i c (λ j q. x.first j c (omega arith) m) y;
      }

pub found_by_numbers : FoundByNumbers
unfolding broken_in
found_by_numbers n h rs = go (eqb (broken_in n h rs).rule 0) refl
  where
    go : (t : Bool) → eqb (broken_in n h rs).rule 0 ≡ t
        → ((broken_in n h rs ≡ none_broken) × NoneBroken h (λ c. character_at n c rs)) ⊎ BrokenFirst h (λ c. character_at n c rs) (broken_in n h rs).rule (broken_in n h rs).code
    go true e = inl (found_none n h rs (eqb-true (broken_in n h rs).rule 0 e))
    go false e = inr (found_first n h rs (breaks_first h (λ c. character_at n c rs) rules 1 (λ z. eqb-false (broken_in n h rs).rule 0 e (ap (λ (b : RuleBroken). b.rule) z))))

-- ── the second call, where it is done, writes out a font that meets the profile. One law for each check: w is its answer, f that of the write-out
-- and c that of the first call.
abbrev pub Profiled : WriteOut → WriteOut → ProfileChecked → Type 0
Profiled w f c = w.refusal ≡ 0 → (w ≡ f) × (c ≡ checked_as none_broken)

module _ (out : List ℕ) where
  by_store_lem : (o : Option Store) (a b : Store → WriteOut) (c : Store → ProfileChecked) → ((st : Store) → Profiled (a st) (b st) (c st)) → Profiled (on_store (unwritten out) o a) (on_store (unwritten out) o b) (on_store unchecked o c)
  unfolding on_store
  by_store_lem none a b c g = λ z. absurd (omega (arith, z))
  by_store_lem (some st) a b c g = g st

  by_check : (t : Bool) (k : ℕ) (a b : WriteOut) (c : ProfileChecked) → 0 < k → Profiled a b c → Profiled (checked (unwritten out) t k a) (checked (unwritten out) t k b) (checked unchecked t k c)
  by_check true k a b c l g = g
  by_check false k a b c l g = λ z. absurd (omega (arith, z, l))

  by_find : (o : Option Rec) (k : ℕ) (a b : Rec → WriteOut) (c : Rec → ProfileChecked) → 0 < k → ((r : Rec) → Profiled (a r) (b r) (c r)) → Profiled (finding (unwritten out) o k a) (finding (unwritten out) o k b) (finding unchecked o k c)
  unfolding finding
  by_find none k a b c l g = λ z. absurd (omega (arith, z, l))
  by_find (some r) k a b c l g = g r

  by_meets : (x : RuleBroken) (a : WriteOut) → (meets x ≡ true → x ≡ none_broken) → Profiled (checked (unwritten out) (meets x) 14 a) a (checked_as x)
  by_meets x a f = go (meets x) refl
    where
      go : (t : Bool) → meets x ≡ t → Profiled (checked (unwritten out) t 14 a) a (checked_as x)
      go true e = λ z. (refl, ap checked_as (f e))
      go false e = λ z. absurd (omega (arith, z))

pub profiled : (n : ℕ) (s out : List ℕ) → Profiled (writing_profiled n s out) (writing_font n s out) (checking_profile n s)
unfolding writing_profiled writing_font checking_profile on_font
profiled n s out =
    by_store_lem out (decode s) _ _ _ (λ st. by_check out (leb n last_font) 2 _ _ _ (omega arith) (by_find out (find_record (key_of n 0) st.recs) 6 _ _ _ (omega arith)
    (λ r. by_meets out (broken_in n (kept_of r) st.recs) _ (λ e. (found_none n (kept_of r) st.recs (eqb-true (broken_in n (kept_of r) st.recs).rule 0 e)).0))))
