-- What the iterator over a store's records gives, and what it has left.
use Rattle.std.specs.Prelude.{ℕ, ◌+◌, ◌-◌, ◌≤◌, ◌<◌, ◌≡◌, List, [], ◌∷◌, true, length, take, drop, Option, None, Some}
use Rattle.blocks.specs.Header.{header_bytes, is_kept_header}
use Rattle.blocks.specs.Character.{descriptor_bytes, width, is_kept_first}
use Rattle.form.specs.Layout.{last_font, last_code, font_record, font_kept_at, character_record, character_kept_at}
use Rattle.form.specs.Model.{Rec, font, character, held_of, is_kept, size_of}
use Rattle.form.specs.Records.{RecordPlace, FontMet, CharacterMet, Between, RecordRun, run_records}
use Rattle.form.specs.declared.records.Record.{Record}
use Rattle.form.specs.declared.records.Record.TheVariants.{Font, Character}
use Rattle.form.specs.declared.records.Records.{Records}

-- the record that is given
abbrev pub record_of : Record → Rec
record_of (Font n h) = font n h.now
record_of (Character n c b) = character n c (take descriptor_bytes b.now) (drop descriptor_bytes b.now)

-- the records that are still to come
abbrev pub records_left : Records → List Rec
records_left it = run_records it.left.now

-- what is left is a run of records
abbrev pub RunsOn : Records → Type 0
RunsOn it = RecordRun it.left.now

-- what a store keeps of a font, and of a character whose kept bytes and data are b
pub record FontKept (n : ℕ) (h : List ℕ) : Type 0 where
  pub low : n ≤ last_font
  pub whole : length h ≡ header_bytes
  pub header : is_kept_header h ≡ true

pub record CharacterKept (n c : ℕ) (b : List ℕ) : Type 0 where
  pub low : n ≤ last_font
  pub code : c ≤ last_code
  pub whole : descriptor_bytes ≤ length b
  pub orientation : ℕ
  pub descriptor : is_kept_first (take descriptor_bytes b) orientation ≡ true
  pub held : is_kept (held_of (take descriptor_bytes b) (drop descriptor_bytes b)) ≡ true
  pub wide : 0 < width (take descriptor_bytes b)

abbrev pub RecordKept : Record → Type 0
RecordKept (Font n h) = FontKept n h.now
RecordKept (Character n c b) = CharacterKept n c b.now

-- where its bytes stand in the b that it begins: a font's kept bytes, a character's with its data up to the record's end
abbrev pub BytesIn : List ℕ → Record → Type 0
BytesIn b (Font n h) = h.now ≡ take header_bytes (drop font_kept_at b)
BytesIn b (Character n c d) = d.now ≡ take (size_of (record_of (Character n c d)) - character_kept_at) (drop character_kept_at b)

-- a record stood at the front of b, of which it takes some bytes, and what is left now stood after it
pub record StoodFirst (b : List ℕ) (r : Record) (left : List ℕ) : Type 0 where
  pub ahead : 0 < size_of (record_of r)
  pub within : size_of (record_of r) ≤ length b
  pub bytes : BytesIn b r
  pub after : left ≡ drop (size_of (record_of r)) b

-- the first record is given, or none is left then or later, and the iterator is as it was
abbrev pub RecordGiven : Records → Option Record → Records → Type 0
RecordGiven old None new = (records_left old ≡ []) × (records_left new ≡ []) × (new ≡ old)
RecordGiven old (Some r) new = (records_left old ≡ record_of r ∷ records_left new) × RecordKept r × StoodFirst old.left.now r new.left.now

-- ── by the places of a store
-- the place after a record that stands at a place
abbrev pub place_after : ℕ → Record → ℕ
place_after at r = at + size_of (record_of r)

-- a record stands at a place of the run, and the others from the place after it on
abbrev pub RecordStandsAt : List ℕ → ℕ → Record → Type 0
RecordStandsAt s at (Font n h) = FontMet s at n (at + font_kept_at) (at + font_record)
RecordStandsAt s at (Character n c b) = CharacterMet s at n c (at + character_kept_at) (at + character_record) (place_after at (Character n c b))

-- where what is left stands from a place of the run on, the record there is given, and what is left then stands from the place after it on
abbrev pub GivenInPlace : Type 0
GivenInPlace = (s : List ℕ) (at : ℕ) (old new : Records) (r : Record) → RecordPlace s at → old.left.now ≡ drop at s → RecordGiven old (Some r) new
    → RecordStandsAt s at r × (new.left.now ≡ drop (place_after at r) s)

-- the same where what is left stands up to another place
abbrev pub GivenBetween : Type 0
GivenBetween = (s : List ℕ) (at hi : ℕ) (rs : List Rec) (old new : Records) (r : Record) → Between s at hi rs → old.left.now ≡ take (hi - at) (drop at s) → RecordGiven old (Some r) new
    → RecordStandsAt s at r × Between s (place_after at r) hi (records_left new) × (new.left.now ≡ take (hi - place_after at r) (drop (place_after at r) s))
