-- What the store promises of its records, fonts and characters alike, to a caller that knows nothing of its form: where they begin, what
-- stands at a place, and where the next one stands.
use Rattle.std.specs.Prelude.{ℕ, ◌+◌, ◌-◌, ◌≤◌, ◌<◌, ◌≡◌, List, [], ◌∷◌, ◌++◌, Bool, true, false, eqb, length, take, drop}
use Rattle.std.specs.Prelude.{Option as Optional, Some, None}
use Rattle.std.proofs.Math.Option.{Option, none, some}
use Rattle.blocks.specs.Header.{header_bytes, is_kept_header}
use Rattle.blocks.specs.Character.{descriptor_bytes, width, is_kept_first}
use Rattle.form.specs.Layout.{most_store, last_font, last_code, key_of, mark_record, kind_at, number_at, font_kind, font_record, font_kept_at}
use Rattle.form.specs.Num.{field}
use Rattle.form.specs.Model.{Rec, font, character, tally_of, tally_in, Store, Owner, held_of, is_kept, sorted, number, size_of, total, split, decode}
use Rattle.form.specs.Order.{keep, below, font_at}
use Rattle.form.specs.declared.tally.Tally.{Tally}

abbrev pub some_store : Option Store → Bool
some_store none = false
some_store (some st) = true

-- the buffer is a store
unfoldable pub is_store : List ℕ → Bool
is_store s = some_store (decode s)

abbrev pub records_by : Option Store → List Rec
records_by none = []
records_by (some st) = st.recs

-- the records of a buffer, in their order; none, if it is no store
unfoldable pub records_in : List ℕ → List Rec
records_in s = records_by (decode s)

-- those of font n: the font itself, then its characters by rising code
unfoldable pub records_of : ℕ → List Rec → List Rec
records_of n rs = keep (λ r. eqb (number r) n) rs

-- where the record of font n begins: after the first record and those of lower fonts with their characters
abbrev pub font_place : ℕ → List Rec → ℕ
font_place n rs = mark_record + total (below (key_of n 0) rs)

-- the record of font n, whose kept bytes are h, stands at a place: it is one of the records of s, those before it fill the bytes up to there, and
-- every byte of it is said
pub record FontStands (s : List ℕ) (at n : ℕ) (h : List ℕ) : Type 0 where
  pub before : List Rec
  pub later : List Rec
  pub records : records_in s ≡ before ++ (font n h ∷ later)
  pub here : at ≡ mark_record + total before
  pub whole : at + font_record ≤ length s
  pub size : field 4 at s ≡ font_record
  pub kind : field 2 (at + kind_at) s ≡ font_kind
  pub number : field 2 (at + number_at) s ≡ n
  pub tally : tally_in (drop at s) ≡ tally_of (records_in s) n
  pub kept : take header_bytes (drop (at + font_kept_at) s) ≡ h

-- those from a place of the run on
abbrev pub records_among : Option (List Rec) → List Rec
records_among none = []
records_among (some rs) = rs

unfoldable pub records_at : List ℕ → ℕ → List Rec
records_at s at = records_among (split (drop at s))

-- `at` is a place of the run: records that a store may hold stand from there on
pub record RecordPlace (s : List ℕ) (at : ℕ) : Type 0 where
  pub within : at ≤ length s
  pub recs : List Rec
  pub is : split (drop at s) ≡ some recs
  pub least : ℕ
  pub behind : Owner
  pub order : sorted least behind recs ≡ true
  -- after those before it, with which they are all the records of the buffer
  pub before : List Rec
  pub all : records_in s ≡ before ++ recs
  pub sum : mark_record + total before ≡ at

-- where the run begins, if the buffer is a store
abbrev pub Begun : List ℕ → Optional ℕ → Type 0
Begun s None = is_store s ≡ false
Begun s (Some p) = (is_store s ≡ true) × RecordPlace s p × (records_at s p ≡ records_in s)

-- ── W-205: "Every download, replacement, continuation and removal .. keeps both equal to a fresh count."
-- the records that stand behind the first one, whatever numbers they hold
abbrev pub records_behind : List ℕ → List Rec
records_behind s = records_at s mark_record

-- the numbers that the record of font n holds, in its own bytes
abbrev pub tally_by_font : ℕ → List ℕ → Tally
tally_by_font n s = tally_in (drop (font_place n (records_behind s)) s)

-- each font holds those of a fresh count
abbrev pub CountsTrue : List ℕ → Type 0
CountsTrue s = (n : ℕ) (h : List ℕ) → font_at n (records_behind s) ≡ some (font n h) → tally_by_font n s ≡ tally_of (records_behind s) n

-- ── one after the other
-- the record r stands at a place of the run, and the others from next on
pub record MetAt (s : List ℕ) (at : ℕ) (r : Rec) (next : ℕ) : Type 0 where
  pub records : records_at s at ≡ r ∷ records_at s next
  pub place : RecordPlace s next
  pub size : at + size_of r ≡ next
  pub ahead : at < next
  pub within : next ≤ length s

-- a font whose kept bytes stand at `kept`
abbrev pub font_from : List ℕ → ℕ → ℕ → Rec
font_from s n kept = font n (take header_bytes (drop kept s))

pub record FontMet (s : List ℕ) (at n kept next : ℕ) : Type 0 where
  pub met : MetAt s at (font_from s n kept) next
  pub low : n ≤ last_font
  pub here : kept ≡ at + font_kept_at
  pub room : kept + header_bytes ≤ length s
  pub header : is_kept_header (take header_bytes (drop kept s)) ≡ true

-- a character whose kept bytes stand at `kept`, and its data from `bytes` up to the next record
abbrev pub character_from : List ℕ → ℕ → ℕ → ℕ → ℕ → ℕ → Rec
character_from s n c kept bytes next = character n c (take descriptor_bytes (drop kept s)) (take (next - bytes) (drop bytes s))

pub record CharacterMet (s : List ℕ) (at n c kept bytes next : ℕ) : Type 0 where
  pub met : MetAt s at (character_from s n c kept bytes next) next
  pub low : n ≤ last_font
  pub code : c ≤ last_code
  pub join : kept + descriptor_bytes ≡ bytes
  pub last : bytes ≤ next
  pub orientation : ℕ
  pub descriptor : is_kept_first (take descriptor_bytes (drop kept s)) orientation ≡ true
  pub held : is_kept (held_of (take descriptor_bytes (drop kept s)) (take (next - bytes) (drop bytes s))) ≡ true
  pub wide : 0 < width (take descriptor_bytes (drop kept s))

-- the records rs stand from one place of the run up to another
pub record Between (s : List ℕ) (at hi : ℕ) (rs : List Rec) : Type 0 where
  pub place : RecordPlace s at
  pub are : records_at s at ≡ rs ++ records_at s hi
  pub sum : at + total rs ≡ hi
  pub within : hi ≤ length s
  pub small : length s ≤ most_store

-- ── one after the other, in a slice
-- the bytes are records that a store may hold, and zeros after them
pub record RecordRun (b : List ℕ) : Type 0 where
  pub recs : List Rec
  pub is : split b ≡ some recs
  pub least : ℕ
  pub behind : Owner
  pub order : sorted least behind recs ≡ true

-- the records that bytes are
unfoldable pub run_records : List ℕ → List Rec
run_records b = records_among (split b)
