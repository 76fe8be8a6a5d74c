-- For the code alone: what downloads to a buffer that is known to be a store answer, and the places that they leave.
use Rattle.std.specs.Prelude.{ℕ, ◌+◌, ◌-◌, ◌≤◌, ◌≡◌, List, cond, eqb, length}
use Rattle.std.specs.Prelude.{Option as Optional, Some, None}
use Rattle.std.proofs.Math.Option.{none, some}
use Rattle.form.specs.Layout.{most_store, last_font, last_code, key_of, mark_record, font_record, character_record}
use Rattle.form.specs.Num.{field}
use Rattle.form.specs.Model.{Store, total, decode}
use Rattle.form.specs.Order.{below}
use Rattle.form.specs.Cursor.{Points}
use Rattle.form.specs.declared.walk.Places.{Places}
use Rattle.form.specs.declared.locate.Cursor.{Cursor}

-- what opening a buffer answers
unfoldable pub Opening : List ℕ → Optional Cursor → Type 0
Opening s (Some c) = Points s c
Opening s None = decode s ≡ none

-- where the records end behind a font block that was answered k, for a font with these places
abbrev pub font_end : Places → ℕ → ℕ
font_end w k = cond (eqb k 0) (w.used - (w.hi - w.lo) + font_record) w.used

-- places in order, within a store's length
pub record Ordered (w : Places) : Type 0 where
  pub span : w.lo ≤ w.hi
  pub end : w.hi ≤ w.used
  pub one : w.from ≤ w.to
  pub last : w.to ≤ w.used
  pub small : w.used ≤ most_store

-- a character block for font n and code c, whose places were w, was answered k and left the store t
pub record Came (n c k : ℕ) (t : List ℕ) (w : Places) : Type 0 where
  pub store : Store
  pub is : decode t ≡ some store
  pub low : n ≤ last_font
  pub code : c ≤ last_code
  pub ordered : Ordered w
  pub short : mark_record + total store.recs ≤ most_store
  -- the font's place is as it was
  pub lo : w.lo ≡ mark_record + total (below (key_of n 0) store.recs)
  -- 10: the font is gone
  pub struck : k ≡ 10 → w.used - (w.hi - w.lo) ≡ mark_record + total store.recs
  -- else the character's place is as it was
  pub from : (k ≡ 10 → ⊥) → w.from ≡ mark_record + total (below (key_of n (c + 1)) store.recs)
  -- 0: the character stands there
  pub room : k ≡ 0 → w.from + character_record ≤ length t
  pub grown : k ≡ 0 → w.used - (w.to - w.from) + field 4 w.from t ≡ mark_record + total store.recs
  -- another answer: nothing changed
  pub same : (k ≡ 10 → ⊥) → (k ≡ 0 → ⊥) → w.used ≡ mark_record + total store.recs
