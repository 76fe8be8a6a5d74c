-- For the code alone: how a buffer is changed.
use Rattle.std.specs.Prelude.{ℕ, ◌+◌, ◌-◌, ◌≤◌, ◌<◌, ◌≡◌, List, ◌++◌, cond, eqb, length, take, drop, replicate, Option, Some, None}
use Rattle.form.specs.Layout.{most_store, font_characters_at, font_kept_at, character_record, mark_code_at, mark_font_at, mark_on_at}
use Rattle.form.specs.Num.{◌and◌, word_end, double_end, low_first, field}
use Rattle.form.specs.Model.{Mark, tally_bytes, tally_in, shut}
use Rattle.form.specs.declared.tally.Tally.{Tally}
use Rattle.change.specs.declared.CharacterId.{CharacterId}
use Rattle.change.specs.Put.{with_bytes}

-- the old bytes at `at` given the length new: what is behind them, up to used, moves, and what that frees is 0
unfoldable pub spliced_at : ℕ → ℕ → ℕ → ℕ → List ℕ → List ℕ
spliced_at at old used new s =
    take (at + new) s ++ (take (used - (at + old)) (drop (at + old) s) ++ (replicate (old - new) 0 ++ drop (used + (new - old)) s))

-- ── W-205: "Every download, replacement, continuation and removal .. keeps both equal to a fresh count"
-- what a character's record of len bytes adds to its font's numbers
abbrev pub tally_by : ℕ → Tally
tally_by len = record { characters = cond (eqb len 0) 0 1; bytes = len - character_record }

-- a character's record of old bytes gives way to one of new bytes, 0 where there is none
abbrev pub recount : ℕ → ℕ → Tally → Tally
recount old new t = record { characters = t.characters + (tally_by new).characters - (tally_by old).characters; bytes = t.bytes + (tally_by new).bytes - (tally_by old).bytes }

-- the numbers of the font whose record begins at `at`
unfoldable pub recounted : ℕ → ℕ → ℕ → List ℕ → List ℕ
recounted at old new s = with_bytes s (at + font_characters_at) (tally_bytes (recount old new (tally_in (drop at s))))

-- the old character is among them, and the new one's numbers fit
pub record Recounting (s : List ℕ) (at old new : ℕ) : Type 0 where
  pub room : at + font_kept_at ≤ length s
  pub was : (old ≡ 0 → ⊥) → character_record ≤ old
  pub is : (new ≡ 0 → ⊥) → character_record ≤ new
  pub small : new ≤ most_store
  pub characters : (tally_by old).characters ≤ (tally_in (drop at s)).characters
  pub bytes : (tally_by old).bytes ≤ (tally_in (drop at s)).bytes
  pub few : (tally_in (drop at s)).characters + (tally_by new).characters < word_end
  pub short : (tally_in (drop at s)).bytes + (tally_by new).bytes < double_end

-- the open mark that names a character, or none, and the character that an open mark names
abbrev pub mark_of : Option CharacterId → Mark
mark_of None = shut
mark_of (Some id) = record { on = 1; font_of = id.font; code_of = id.code }

abbrev pub named_by : Mark → Option CharacterId
named_by m = cond (eqb m.on 1) (Some (record { font = m.font_of; code = m.code_of })) None

-- the open mark of a buffer's first record made m
unfoldable pub remarked : Mark → List ℕ → List ℕ
remarked m s = with_bytes s mark_on_at (low_first 2 m.on ++ (low_first 2 m.font_of ++ low_first 2 m.code_of))

-- closed if it names a character of font n, or this character
unfoldable pub unmarked_for : ℕ → List ℕ → List ℕ
unmarked_for n s = cond (eqb (field 2 mark_on_at s) 1 and eqb (field 2 mark_font_at s) n) (remarked shut s) s

unfoldable pub unmarked_at : ℕ → ℕ → List ℕ → List ℕ
unmarked_at n c s = cond (eqb (field 2 mark_on_at s) 1 and eqb (field 2 mark_font_at s) n and eqb (field 2 mark_code_at s) c) (remarked shut s) s
