-- Laws of the lines and of the whole text. Assumes nothing.
use Prim.Native.Nat.{ℕ, zero, suc, ◌+◌, ◌*◌, ◌<◌, ◌≤◌}
use mathlib.Core.Path.{◌≡◌, refl, sym, ap, ap₂, ◌∙◌, subst}
use mathlib.Core.List.{List, [], ◌∷◌, ◌++◌}
use mathlib.Core.Bool.{true, false}
use native.Mathlib.Omega.{arith}
use native.Mathlib.Numerals.{add-one}
use borrow.Author.Tests.{eq-eqb, ne_eqb}
use lib.ListN.{length, replicate}
use Rattle.form.specs.Layout.{last_code}
use Rattle.form.specs.Num.{Bytes}
use Rattle.form.specs.Model.{Rec}
use Rattle.form.specs.Records.{is_store, records_in}
use Rattle.change.specs.Put.{with_bytes}
use Rattle.collection.specs.Figures.{figure_in, mean, rest, figures_bytes, figure_at, adding_figures}
use Rattle.collection.specs.declared.figure.Figure.{Figure}
use Rattle.collection.proofs.Passing.{not_store_lem}
use Rattle.collection.proofs.Together.{one_store}
use Rattle.text.specs.Wrote.{Wrote}
use Rattle.text.specs.Column.{column}
use Rattle.text.proofs.Writes.{wrote_none, wrote_put, wrote_length, wrote_then}
use Rattle.figures.specs.Table.{figures_heading, not_store, first_columns, last_columns, figure_line, code_line, figure_lines, figures_table, line_room, table_room}
use Rattle.figures.specs.Lines.{four_columns, lines_in}

-- ── a line
pub wrote_four : (s o₁ o₂ o₃ o₄ : List ℕ) (at e₁ e₂ e₃ e₄ a b c d x : ℕ) → Wrote s at (column a 32) e₁ o₁ → Wrote o₁ e₁ (column b 32) e₂ o₂
    → Wrote o₂ e₂ (column c 32) e₃ o₃ → Wrote o₃ e₃ (column d x) e₄ o₄ → Wrote s at (column a 32 ++ (column b 32 ++ (column c 32 ++ column d x))) e₄ o₄
wrote_four s o₁ o₂ o₃ o₄ at e₁ e₂ e₃ e₄ a b c d x p q r t = wrote_then _ _ _ _ _ _ _ _ p (wrote_then _ _ _ _ _ _ _ _ q (wrote_then _ _ _ _ _ _ _ _ r t))

pub wrote_line : (s o₁ o₂ : List ℕ) (at e₁ e₂ code m r : ℕ) (f : Figure) → Wrote s at (four_columns (code ∷ f.count ∷ f.dots ∷ f.least ∷ []) 32) e₁ o₁
    → m ≡ mean f.sum f.count → r ≡ rest f.sum f.count → Wrote o₁ e₁ (four_columns (f.greatest ∷ f.sum ∷ m ∷ r ∷ []) 10) e₂ o₂ → Wrote s at (figure_line code f) e₂ o₂
unfolding figure_line first_columns last_columns
wrote_line s o₁ o₂ at e₁ e₂ code m r f w p q x = wrote_then _ _ _ _ _ _ _ _ w (rw (p, q) at x)

pub wrote_lacking : (s : List ℕ) (at code : ℕ) (f g : Figure) → f ≡ g → f.count ≡ 0 → at ≤ length s → Wrote s at (code_line code g) at s
unfolding code_line
wrote_lacking s at code f g e z l = rw (← e, eq-eqb f.count 0 z) (wrote_none s at l)

pub wrote_held : (s out : List ℕ) (at end code : ℕ) (f g : Figure) → f ≡ g → (f.count ≡ 0 → ⊥) → Wrote s at (figure_line code f) end out → Wrote s at (code_line code g) end out
unfolding code_line
wrote_held s out at end code f g e z w = rw (← e, ne_eqb f.count 0 z) w

-- ── the lines below a code are written
pub record Going (b s : List ℕ) (at code to : ℕ) (out : List ℕ) : Type 0 where
  pub below : code ≤ last_code + 1
  pub room : to ≤ at + line_room * code
  pub long : length out ≡ length s
  pub wrote : Wrote s at (lines_in b code) to out

pub going_starts : (b s : List ℕ) (at : ℕ) → at ≤ length s → Going b s at 0 at s
unfolding lines_in
going_starts b s at l = record { below = omega arith; room = omega arith; long = refl; wrote = wrote_none s at l }

pub going_next : (b s : List ℕ) (at code to : ℕ) (out : List ℕ) → Going b s at code to out → code ≤ last_code → (end : ℕ) (last : List ℕ)
    → Wrote out to (code_line code (figure_at b code)) end last → end ≤ to + line_room → Going b s at (code + 1) end last
unfolding lines_in
going_next b s at code to out g l end last w r =
    record {
      below = omega arith;
      room = omega (arith, g.room);
      long = wrote_length out (code_line code (figure_at b code)) last to end w ∙ g.long;
      wrote = rw (add-one code) (wrote_then _ _ _ _ _ _ _ _ g.wrote w);
    }

pub going_ends : (b s : List ℕ) (at code to : ℕ) (out : List ℕ) → Going b s at code to out → last_code < code → Wrote s at (lines_in b (last_code + 1)) to out
going_ends b s at code to out g l = let z : code ≡ last_code + 1 = omega (arith, g.below) in subst (λ (c : ℕ). Wrote s at (lines_in b c) to out) z g.wrote

-- ── the lines by the records
lines_are : (b : List ℕ) (rs : List Rec) → ((c : ℕ) → c ≤ last_code → figure_at b c ≡ figure_in rs c) → (n : ℕ) → n ≤ last_code + 1 → lines_in b n ≡ figure_lines rs n
unfolding lines_in figure_lines
lines_are b rs e zero l = refl
lines_are b rs e (suc c) l = ap₂ (λ (x y : List ℕ). x ++ y) (lines_are b rs e c (omega arith)) (ap (code_line c) (e c (omega arith)))

-- ── the whole text
module _ (input b : List ℕ) (k : ℕ) (B : Bytes input) (p : k ≡ (adding_figures input (replicate figures_bytes 0)).answer) (q : b ≡ (adding_figures input (replicate figures_bytes 0)).bytes) where
  pub wrote_not : (k ≡ 0 → ⊥) → (s out : List ℕ) (end : ℕ) → table_room ≤ length s → (end ≡ 0 + length not_store) × (out ≡ with_bytes s 0 not_store) → Wrote s 0 (figures_table input) end out
  wrote_not z s out end l w = go (is_store input) refl
    where
      go : (t : _) → is_store input ≡ t → Wrote s 0 (figures_table input) end out
      go true e = absurd (z (p ∙ (one_store input B e).0))
      go false e = unfold figures_table in rw e (wrote_put s not_store out 0 end (omega arith) w.0 w.1)

  store_text : is_store input ≡ true → figures_table input ≡ figures_heading ++ lines_in b (last_code + 1)
  unfolding figures_table
  store_text e = rw e (ap (λ (x : List ℕ). figures_heading ++ x) (sym (lines_are b (records_in input) (λ c h. ap (λ (v : List ℕ). figure_at v c) q ∙ (one_store input B e).2 c h) (last_code + 1) (omega arith))))

  pub wrote_table : k ≡ 0 → (s o₁ o₂ : List ℕ) (e₁ e₂ : ℕ) → table_room ≤ length s → (e₁ ≡ 0 + length figures_heading) × (o₁ ≡ with_bytes s 0 figures_heading)
      → Wrote o₁ e₁ (lines_in b (last_code + 1)) e₂ o₂ → Wrote s 0 (figures_table input) e₂ o₂
  wrote_table z s o₁ o₂ e₁ e₂ l w x = go (is_store input) refl
    where
      go : (t : _) → is_store input ≡ t → Wrote s 0 (figures_table input) e₂ o₂
      go true e = subst (λ (y : List ℕ). Wrote s 0 y e₂ o₂) (sym (store_text e)) (wrote_then _ _ _ _ _ _ _ _ (wrote_put s figures_heading o₁ 0 e₁ (omega arith) w.0 w.1) x)
      go false e = absurd (omega (arith, z, p, ap (λ (x : _). x.answer) (not_store_lem input (replicate figures_bytes 0) e)))
