-- A font meets the profile exactly when all its rules hold. Assumes nothing.
use Prim.Native.Nat.{ℕ, ◌+◌, ◌≤◌}
use mathlib.Core.Path.{◌≡◌, refl, sym, ap, ◌∙◌}
use mathlib.Core.List.{List, [], ◌∷◌}
use mathlib.Core.Bool.{Bool, true, false, not, ◌||◌}
use mathlib.Core.Option.{Option, none, some}
use native.Mathlib.Omega.{arith}
use borrow.Author.Tests.{eqb-true, eq-eqb, le-leb, leb-true}
use lib.Dec.{leb}
use Rattle.blocks.specs.Header.{font_type, spacing}
use Rattle.pictures.specs.Size.{within}
use Rattle.pictures.specs.declared.picture.Held.{Held}
use Rattle.pictures.specs.declared.picture.Held.TheVariants.{Whole, Unfinished, Foreign}
use Rattle.form.specs.Layout.{last_code, key_of}
use Rattle.form.specs.Model.{Rec, held_of}
use Rattle.form.specs.Order.{find_record}
use Rattle.store.specs.Calls.{kept_of, data_of}
use Rattle.profile.specs.Profile.{meets, of_type_zero, fixed_spaced, first_required, last_required, is_whole, complete, has_character, left_inside, right_inside, height_inside, advances_by_pitch, of_each, character_rules, first_broken, rules, broken_in, none_broken, Simple, Meets, MeetsExactly, FirstAndLowest}
use Rattle.profile.proofs.Search.{rule_holds, none_broken_lem, breaks_first}

whole_is : (v : Held) → is_whole v ≡ true → v ≡ Whole
whole_is Whole e = refl
whole_is Unfinished e = let z : ◌≡◌ {A = ℕ} 0 1 = cc in absurd (omega arith)
whole_is Foreign e = let z : ◌≡◌ {A = ℕ} 0 1 = cc in absurd (omega arith)

complete_is : (o : Option Rec) → complete o ≡ true → (r : Rec) × (o ≡ some r) × (held_of (kept_of r) (data_of r) ≡ Whole)
complete_is none e = let z : ◌≡◌ {A = ℕ} 0 1 = cc in absurd (omega arith)
complete_is (some r) e = (r, refl, whole_is (held_of (kept_of r) (data_of r)) e)

module _ (n : ℕ) (h : List ℕ) (rs : List Rec) where
  abbrev at : ℕ → Option Rec
  at c = find_record (key_of n (c + 1)) rs

  required_is : (c : ℕ) → first_required ≤ c → c ≤ last_required → has_character h c (at c) ≡ true → complete (at c) ≡ true
  required_is c a b e = rw (le-leb first_required c a, le-leb c last_required b) at e

  kept_is : (t : List ℕ → List ℕ → Bool) (c : ℕ) (r : Rec) → at c ≡ some r → of_each t h c (at c) ≡ true → t h (kept_of r) ≡ true
  kept_is t c r e q = rw e at q

  meets_all : (broken_in n h rs).rule ≡ 0 → Meets n h rs
  unfolding broken_in
  meets_all e =
      let a = none_broken_lem h at of_type_zero (fixed_spaced ∷ has_character ∷ character_rules) 1 (omega arith) e in
      let b = none_broken_lem h at fixed_spaced (has_character ∷ character_rules) 2 (omega arith) a.1 in
      let c = none_broken_lem h at has_character character_rules 3 (omega arith) b.1 in
      let d = none_broken_lem h at (of_each left_inside) (of_each right_inside ∷ of_each height_inside ∷ of_each advances_by_pitch ∷ []) 4 (omega arith) c.1 in
      let f = none_broken_lem h at (of_each right_inside) (of_each height_inside ∷ of_each advances_by_pitch ∷ []) 5 (omega arith) d.1 in
      let g = none_broken_lem h at (of_each height_inside) (of_each advances_by_pitch ∷ []) 6 (omega arith) f.1 in
      let i = none_broken_lem h at (of_each advances_by_pitch) [] 7 (omega arith) g.1 in
      record {
        plain = eqb-true (font_type h) 0 (a.0 0 (omega arith));
        fixed = eqb-true (spacing h) 0 (b.0 0 (omega arith));
        present = λ k l m. complete_is (at k) (required_is k l m (c.0 k (omega arith)));
        simple = λ k r l q. record {
          left = kept_is left_inside k r q (d.0 k l);
          right = kept_is right_inside k r q (f.0 k l);
          tall = kept_is height_inside k r q (g.0 k l);
          advance = kept_is advances_by_pitch k r q (i.0 k l);
        };
      }

  module _ (m : Meets n h rs) where
    has : (c : ℕ) → has_character h c (at c) ≡ true
    has c = go (leb first_required c) refl (leb c last_required) refl
      where
        or_true : (t : Bool) → (t || true) ≡ true
        or_true true = refl
        or_true false = refl

        go : (a : Bool) → leb first_required c ≡ a → (b : Bool) → leb c last_required ≡ b → has_character h c (at c) ≡ true
        go false p b q = rw p
        go true p false q = rw (p, q)
        go true p true q =
            let x = m.present c (leb-true first_required c p) (leb-true c last_required q) in
            rw (x.1, x.2) (or_true (not (within first_required last_required c)))

    each : (t : List ℕ → List ℕ → Bool) → ((k : List ℕ) → Simple h k → t h k ≡ true) → (c : ℕ) → c ≤ last_code → of_each t h c (at c) ≡ true
    each t f c l = go (at c) refl
      where
        go : (o : Option Rec) → at c ≡ o → of_each t h c o ≡ true
        go none e = refl
        go (some r) e = f (kept_of r) (m.simple c r l e)

    none_is : broken_in n h rs ≡ none_broken
    unfolding broken_in first_broken
    none_is =
        rule_holds h at of_type_zero (fixed_spaced ∷ has_character ∷ character_rules) 1 (λ c l. eq-eqb (font_type h) 0 m.plain)
        ∙ rule_holds h at fixed_spaced (has_character ∷ character_rules) 2 (λ c l. eq-eqb (spacing h) 0 m.fixed)
        ∙ rule_holds h at has_character character_rules 3 (λ c l. has c)
        ∙ rule_holds h at (of_each left_inside) (of_each right_inside ∷ of_each height_inside ∷ of_each advances_by_pitch ∷ []) 4 (each left_inside (λ k s. s.left))
        ∙ rule_holds h at (of_each right_inside) (of_each height_inside ∷ of_each advances_by_pitch ∷ []) 5 (each right_inside (λ k s. s.right))
        ∙ rule_holds h at (of_each height_inside) (of_each advances_by_pitch ∷ []) 6 (each height_inside (λ k s. s.tall))
        ∙ rule_holds h at (of_each advances_by_pitch) [] 7 (each advances_by_pitch (λ k s. s.advance))

pub meets_exactly : MeetsExactly
meets_exactly n h rs = ((λ e. meets_all n h rs (eqb-true (broken_in n h rs).rule 0 e)), none_is n h rs)

pub first_and_lowest : FirstAndLowest
unfolding broken_in
first_and_lowest n h rs e = breaks_first h (λ c. find_record (key_of n (c + 1)) rs) rules 1 (λ x. let i : meets (first_broken rules 1 h (λ c. find_record (key_of n (c + 1)) rs)) ≡ true = ap meets x in let z : true ≡ false = sym i ∙ e in let y : ◌≡◌ {A = ℕ} 0 1 = cc in omega arith)
