-- What the iterator over a store's kept fonts gives, and what it has left.
use Rattle.std.specs.Prelude.{ℕ, ◌+◌, ◌≤◌, ◌<◌, ◌≡◌, List, [], ◌∷◌, length, take, drop, Option, None, Some}
use Rattle.blocks.specs.Header.{header_bytes}
use Rattle.form.specs.Layout.{last_font, font_kept_at}
use Rattle.form.specs.Records.{records_in, font_place, RecordPlace}
use Rattle.form.specs.Fonts.{Font, fonts_at}
use Rattle.form.specs.declared.kept_fonts.KeptFont.{KeptFont}
use Rattle.form.specs.declared.kept_fonts.KeptFonts.{KeptFonts}

-- the font that is given
abbrev pub font_given : KeptFont → Font
font_given f = record { number = f.number; kept = f.kept.now }

-- the fonts that are still to come
abbrev pub fonts_to_come : KeptFonts → List Font
fonts_to_come it = fonts_at it.store.now it.at

-- it stands at a place of the run of records
abbrev pub FontsOn : KeptFonts → Type 0
FontsOn it = RecordPlace it.store.now it.at

-- what a store keeps of a font, and where its kept bytes stand
pub record FontKeptAt (s : List ℕ) (f : KeptFont) : Type 0 where
  pub low : f.number ≤ last_font
  pub whole : length f.kept.now ≡ header_bytes
  pub place : f.kept_at ≡ font_place f.number (records_in s) + font_kept_at
  pub room : f.kept_at + header_bytes ≤ length s
  pub kept : f.kept.now ≡ take header_bytes (drop f.kept_at s)

-- the iterator stands further on then, after the kept bytes of the font that was given
pub record FurtherOn (old : KeptFonts) (f : KeptFont) (new : KeptFonts) : Type 0 where
  pub ahead : old.at < new.at
  pub within : new.at ≤ length old.store.now
  pub after : new.at ≡ f.kept_at + header_bytes

-- the first font is given, or none is left then or later, and the iterator is as it was
abbrev pub FontGiven : KeptFonts → Option KeptFont → KeptFonts → Type 0
FontGiven old None new = (fonts_to_come old ≡ []) × (fonts_to_come new ≡ []) × (new ≡ old)
FontGiven old (Some f) new =
    (fonts_to_come old ≡ font_given f ∷ fonts_to_come new) × (new.store.now ≡ old.store.now) × FontKeptAt old.store.now f × FurtherOn old f new
