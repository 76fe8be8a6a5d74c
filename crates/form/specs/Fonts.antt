-- What the store promises of its kept fonts, to a caller that knows nothing of its form.
use Rattle.std.specs.Prelude.{ℕ, suc, ◌+◌, ◌≤◌, ◌<◌, ◌≡◌, List, [], ◌∷◌, ◌++◌, cond, eqb, ltb, length, take, drop}
use Rattle.std.specs.Prelude.{Option as Optional, Some, None}
use Rattle.blocks.specs.Header.{header_bytes}
use Rattle.form.specs.Layout.{last_font, font_kept_at}
use Rattle.form.specs.Model.{Rec, font, character}
use Rattle.form.specs.Records.{records_in, font_place, records_at, RecordPlace}

-- a font: its number and its kept bytes
pub record Font : Type 0 where
  pub number : ℕ
  pub kept : List ℕ

-- the fonts among records, in their order
unfoldable pub fonts_in : List Rec → List Font
fonts_in [] = []
fonts_in (font n h ∷ rs) = record { number = n; kept = h } ∷ fonts_in rs
fonts_in (character n c h d ∷ rs) = fonts_in rs

-- the kept fonts of a buffer, by rising number; none, if it is no store
unfoldable pub fonts_of : List ℕ → List Font
fonts_of s = fonts_in (records_in s)

-- ── what the calls leave of them
-- those with a number below n, and above
unfoldable pub fonts_below : ℕ → List Font → List Font
fonts_below n [] = []
fonts_below n (f ∷ l) = cond (ltb f.number n) (f ∷ fonts_below n l) (fonts_below n l)

unfoldable pub fonts_above : ℕ → List Font → List Font
fonts_above n [] = []
fonts_above n (f ∷ l) = cond (ltb n f.number) (f ∷ fonts_above n l) (fonts_above n l)

-- the font with number n gives way to new ones of that number
unfoldable pub fonts_with : ℕ → List Font → List Font → List Font
fonts_with n new l = fonts_below n l ++ (new ++ fonts_above n l)

-- a call on font n that, answered k, lets it give way to new ones, and leaves the fonts otherwise
abbrev pub fonts_after : ℕ → ℕ → List Font → ℕ → List Font → List Font
fonts_after k n new answer l = cond (eqb answer k) (fonts_with n new l) l

-- ── one after the other
-- those from a place of the run of records on
unfoldable pub fonts_at : List ℕ → ℕ → List Font
fonts_at s at = fonts_in (records_at s at)

-- the numbers rise, the first at least n
abbrev pub RisingFrom : ℕ → List Font → Type 0
RisingFrom n [] = Unit {0}
RisingFrom n (f ∷ l) = (n ≤ f.number) × RisingFrom (suc f.number) l
