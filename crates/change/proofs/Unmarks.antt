-- Closing the open mark by the character that it names. Assumes nothing.
use mathlib.Core.Path.{◌≡◌, refl, ap, ◌∙◌}
use mathlib.Core.List.{List}
use mathlib.Core.Bool.{Bool, true, false}
use Prim.Native.Nat.{ℕ}
use Rattle.std.specs.Prelude.{Option, Some, None, cond, nat_eq, ◌&&◌}
use Rattle.std.specs.Option.{option_eq}
use borrow.Author.Tests.{eq-eqb, ne_eqb}
use Rattle.form.specs.Num.{◌and◌}
use Rattle.form.specs.Model.{Mark, shut, mark_in}
use Rattle.change.specs.declared.CharacterId.{CharacterId}
use Rattle.change.specs.Change.{named_by, remarked, unmarked_for, unmarked_at}

-- whether a named character is one of font n
of_font : ℕ → Option CharacterId → Bool
of_font n None = false
of_font n (Some id) = nat_eq id.font n

names_font : (n : ℕ) (m : Mark) → of_font n (named_by m) ≡ (nat_eq m.on 1 and nat_eq m.font_of n)
unfolding of_font ◌and◌
names_font n m =
    let id : CharacterId = record { font = m.font_of; code = m.code_of } in
    elim (nat_eq m.on 1) as (λ t. of_font n (cond t (Some id) None) ≡ (t and nat_eq m.font_of n)) [ true ↦ refl | false ↦ refl ]

unmark_by : (n : ℕ) (s : List ℕ) (o : Option CharacterId) → o ≡ named_by (mark_in s) → cond (of_font n o) (remarked shut s) s ≡ unmarked_for n s
unfolding unmarked_for
unmark_by n s o e = ap (λ t. cond t (remarked shut s) s) (ap (of_font n) e ∙ names_font n (mark_in s))

pub unmark_none : (n : ℕ) (s : List ℕ) → None ≡ named_by (mark_in s) → s ≡ unmarked_for n s
unfolding of_font
unmark_none n s e = unmark_by n s None e

pub unmark_other : (n : ℕ) (s : List ℕ) (id : CharacterId) → Some id ≡ named_by (mark_in s) → (id.font ≡ n → ⊥) → s ≡ unmarked_for n s
unfolding of_font
unmark_other n s id e h = rw (ne_eqb id.font n h) at (unmark_by n s (Some id) e)

pub unmark_font : (n : ℕ) (s : List ℕ) (id : CharacterId) → Some id ≡ named_by (mark_in s) → id.font ≡ n → remarked shut s ≡ unmarked_for n s
unfolding of_font
unmark_font n s id e h = rw (eq-eqb id.font n h) at (unmark_by n s (Some id) e)

same_both : (a b : Bool) → a && b ≡ (a and b)
unfolding ◌and◌
same_both true b = refl
same_both false b = refl

-- a test that holds if the open mark names this character
pub names_character : (id : CharacterId) (m : Mark) → option_eq (λ (x y : CharacterId). nat_eq x.font y.font && nat_eq x.code y.code) (named_by m) (Some id) ≡ (nat_eq m.on 1 and nat_eq m.font_of id.font and nat_eq m.code_of id.code)
unfolding ◌and◌
names_character id m =
    let o : CharacterId = record { font = m.font_of; code = m.code_of } in
    elim (nat_eq m.on 1) as (λ t. option_eq (λ (x y : CharacterId). nat_eq x.font y.font && nat_eq x.code y.code) (cond t (Some o) None) (Some id) ≡ (t and nat_eq m.font_of id.font and nat_eq m.code_of id.code))
    [ true ↦ same_both (nat_eq m.font_of id.font) (nat_eq m.code_of id.code) | false ↦ refl ]

pub unmark_at : (id : CharacterId) (s : List ℕ) → cond (option_eq (λ (x y : CharacterId). nat_eq x.font y.font && nat_eq x.code y.code) (named_by (mark_in s)) (Some id)) (remarked shut s) s ≡ unmarked_at id.font id.code s
unfolding unmarked_at
unmark_at id s = ap (λ t. cond t (remarked shut s) s) (names_character id (mark_in s))
