-- Document 01, "The store": the store as a value (its length, its open mark, its records in order), its bytes (`encode`), and the store that
-- bytes are (`decode`). A buffer is a store exactly if it decodes. The laws `ReadBack` and `WrittenBack` tie the two.
use Rattle.std.specs.Prelude.{ℕ, zero, suc, ◌+◌, ◌-◌, ◌≤◌, ◌≡◌, List, [], ◌∷◌, ◌++◌, Bool, true, false, ◌||◌, cond, length, take, drop, replicate, eqb, leb}
use Rattle.std.proofs.Math.Option.{Option, none, some}
use Rattle.blocks.specs.Header.{header_bytes, orientation, is_kept_header}
use Rattle.blocks.specs.Character.{descriptor_bytes, class, width, height, is_kept_first}
use Rattle.pictures.specs.Picture.{held}
use Rattle.pictures.specs.declared.picture.Held.{Held}
use Rattle.pictures.specs.declared.picture.Held.TheVariants.{Whole, Unfinished, Foreign}
use Rattle.form.specs.Layout.{least_store, most_store, mark_record, mark_kind, font_record, font_kind, character_record, character_kind, last_font, last_code, key_of, character_kept_at, code_at, font_kept_at, font_characters_at, font_bytes_at, kind_at, mark_code_at, mark_font_at, mark_on_at, number_at}
use Rattle.form.specs.Num.{◌and◌, low_first, field, all_zero, Bytes}
use Rattle.form.specs.declared.tally.Tally.{Tally}

-- a record: a font (number, kept bytes), or a character (font number, code, kept bytes, data)
pub data Rec : Type 0 where
  font : ℕ → List ℕ → Rec
  character : ℕ → ℕ → List ℕ → List ℕ → Rec

-- "open mark 0 or 1, font number, code"
pub record Mark : Type 0 where
  pub on : ℕ
  pub font_of : ℕ
  pub code_of : ℕ

-- "all 0 if none is open"
abbrev pub shut : Mark
shut = record { on = 0; font_of = 0; code_of = 0 }

pub record Store : Type 0 where
  pub size : ℕ
  pub mark : Mark
  pub recs : List Rec

-- ── W-205: "the number of its characters .. and the sum of their kept data bytes": a fresh count of those of font n among records
abbrev pub no_characters : Tally
no_characters = record { characters = 0; bytes = 0 }

-- with one character more, if the test holds, of k data bytes
abbrev pub one_more : Bool → ℕ → Tally → Tally
one_more true k t = record { characters = t.characters + 1; bytes = t.bytes + k }
one_more false k t = t

unfoldable pub tally_of : List Rec → ℕ → Tally
tally_of [] n = no_characters
tally_of (font m h ∷ rs) n = tally_of rs n
tally_of (character m c h d ∷ rs) n = one_more (eqb m n) (length d) (tally_of rs n)

-- ── bytes: "low byte first: length of the whole record (4 bytes), kind (2), body"

-- Kind 2: font number, the two numbers of W-205, kept bytes: what stands before the kept bytes, and a font and its numbers read at the front
-- of s
unfoldable pub tally_bytes : Tally → List ℕ
tally_bytes t = low_first 2 t.characters ++ low_first 4 t.bytes

unfoldable pub font_head : ℕ → Tally → List ℕ
font_head n t = low_first 4 font_record ++ (low_first 2 font_kind ++ (low_first 2 n ++ tally_bytes t))

abbrev pub tally_in : List ℕ → Tally
tally_in s = record { characters = field 2 font_characters_at s; bytes = field 4 font_bytes_at s }

abbrev pub font_in : List ℕ → Rec
font_in s = font (field 2 number_at s) (take header_bytes (drop font_kept_at s))

-- "Kind 3, 26 bytes and the data: font number, code, 16 kept bytes, data.": the same of a character whose record has len bytes
unfoldable pub character_head : ℕ → ℕ → ℕ → List ℕ
character_head len n c = low_first 4 len ++ (low_first 2 character_kind ++ (low_first 2 n ++ low_first 2 c))

abbrev pub character_in : List ℕ → Rec
character_in s = character (field 2 number_at s) (field 2 code_at s) (take descriptor_bytes (drop character_kept_at s)) (take (field 4 0 s - character_record) (drop character_record s))

unfoldable pub character_bytes : ℕ → ℕ → List ℕ → List ℕ → List ℕ
character_bytes n c h d = character_head (character_record + length d) n c ++ (h ++ d)

-- a record, where each font has the numbers that T says
unfoldable pub bytes_of : (ℕ → Tally) → Rec → List ℕ
bytes_of T (font n h) = font_head n (T n) ++ h
bytes_of T (character n c h d) = character_bytes n c h d

unfoldable pub run : (ℕ → Tally) → List Rec → List ℕ
run T [] = []
run T (r ∷ rs) = bytes_of T r ++ run T rs

-- "Kind 1, once, first, 12 bytes: open mark 0 or 1, font number, code, two bytes each"
unfoldable pub mark_bytes : Mark → List ℕ
mark_bytes m = low_first 4 mark_record ++ (low_first 2 mark_kind ++ (low_first 2 m.on ++ (low_first 2 m.font_of ++ low_first 2 m.code_of)))

-- "All remaining bytes are 0."
abbrev pub with_zeros : ℕ → List ℕ → List ℕ
with_zeros n l = l ++ replicate (n - length l) 0

unfoldable pub encode : Store → List ℕ
encode st = with_zeros st.size (mark_bytes st.mark ++ run (tally_of st.recs) st.recs)

-- ── what a store may hold: "numbers are in range, every kept field is as the rules above leave it, every character could have been accepted"

unfoldable pub number : Rec → ℕ
number (font n h) = n
number (character n c h d) = n

unfoldable pub place : Rec → ℕ
place (font n h) = 0
place (character n c h d) = c + 1

abbrev pub key : Rec → ℕ
key r = key_of (number r) (place r)

-- the font whose characters may stand next: its number and 1 (0 where there is none), and its orientation
pub record Owner : Type 0 where
  pub owner : ℕ
  pub orientation : ℕ

abbrev pub no_owner : Owner
no_owner = record { owner = 0; orientation = 0 }

unfoldable pub owner_after : Owner → Rec → Owner
owner_after u (font n h) = record { owner = n + 1; orientation = orientation h }
owner_after u (character n c h d) = u

-- a character's data, by its descriptor
abbrev pub held_of : List ℕ → List ℕ → Held
held_of h d = held (class h) (width h) (height h) d

abbrev pub is_kept : Held → Bool
is_kept Whole = true
is_kept Unfinished = true
is_kept Foreign = false

abbrev pub is_unfinished : Held → Bool
is_unfinished Whole = false
is_unfinished Unfinished = true
is_unfinished Foreign = false

-- the same, where the descriptor must be a kept one of a font of this orientation
unfoldable pub held_under : ℕ → List ℕ → List ℕ → Held
held_under o h d = cond (is_kept_first h o) (held_of h d) Foreign

-- a record that may stand behind the font u
unfoldable pub allowed : Owner → Rec → Bool
allowed u (font n h) = leb n last_font and is_kept_header h
allowed u (character n c h d) = eqb u.owner (n + 1) and leb n last_font and leb c last_code and is_kept (held_under u.orientation h d)

-- "Fonts stand by rising number, each followed by its characters by rising code." The first key is at least k.
unfoldable pub sorted : ℕ → Owner → List Rec → Bool
sorted k u [] = true
sorted k u (r ∷ rs) = allowed u r and leb k (key r) and sorted (key r + 1) (owner_after u r) rs

unfoldable pub unfinished : Rec → Bool
unfinished (font n h) = false
unfinished (character n c h d) = is_unfinished (held_of h d)

-- one of the records has this key, and is an incomplete character
unfoldable pub opened : ℕ → List Rec → Bool
opened k [] = false
opened k (r ∷ rs) = eqb (key r) k and unfinished r || opened k rs

-- "all 0 if none is open"; "the open mark names a kept, incomplete character"
unfoldable pub mark_ok : Mark → List Rec → Bool
mark_ok m rs =
    cond (eqb m.on 0)
    (eqb m.font_of 0 and eqb m.code_of 0)
    (eqb m.on 1 and leb m.font_of last_font and leb m.code_of last_code and opened (key_of m.font_of (m.code_of + 1)) rs)

-- ── reading

unfoldable pub only_if {ℓ} : {A : Type ℓ} → Bool → Option A → Option A
only_if true o = o
only_if false o = none

-- the record at the front of s, if there is one
unfoldable pub head_rec : List ℕ → Option Rec
head_rec s =
    only_if (leb (field 4 0 s) (length s))
    (cond (eqb (field 2 kind_at s) font_kind)
    (only_if (eqb (field 4 0 s) font_record) (some (font_in s)))
    (only_if (eqb (field 2 kind_at s) character_kind) (only_if (leb character_record (field 4 0 s)) (some (character_in s)))))

-- the length of a record, and of a run of records
unfoldable pub size_of : Rec → ℕ
size_of (font n h) = font_record
size_of (character n c h d) = character_record + length d

unfoldable pub total : List Rec → ℕ
total [] = 0
total (r ∷ rs) = size_of r + total rs

unfoldable pub cons_to : Rec → Option (List Rec) → Option (List Rec)
cons_to r none = none
cons_to r (some rs) = some (r ∷ rs)

unfoldable pub and_then : Option Rec → (Rec → Option (List Rec)) → Option (List Rec)
and_then none g = none
and_then (some r) g = cons_to r (g r)

-- the records that s is, with zeros after, in at most k steps
unfoldable pub split_in : ℕ → List ℕ → Option (List Rec)
split_in zero s = none
split_in (suc k) s = cond (all_zero s) (some []) (and_then (head_rec s) (λ r. split_in k (drop (size_of r) s)))

unfoldable pub split : List ℕ → Option (List Rec)
split s = split_in (suc (length s)) s

-- W-205, "1 also where a held count is untrue": the numbers that the font records of s hold are those that T says
abbrev pub same_tally : Tally → Tally → Bool
same_tally t u = eqb t.characters u.characters and eqb t.bytes u.bytes

unfoldable pub holds_tally : (ℕ → Tally) → List ℕ → Rec → Bool
holds_tally T s (font n h) = same_tally (tally_in s) (T n)
holds_tally T s (character n c h d) = true

unfoldable pub counted : (ℕ → Tally) → List ℕ → List Rec → Bool
counted T s [] = true
counted T s (r ∷ rs) = holds_tally T s r and counted T (drop (size_of r) s) rs

-- the open mark in the first record
abbrev pub mark_in : List ℕ → Mark
mark_in s = record { on = field 2 mark_on_at s; font_of = field 2 mark_font_at s; code_of = field 2 mark_code_at s }

-- 12..65,536 bytes, and the first record
unfoldable pub begins : List ℕ → Bool
begins s = leb least_store (length s) and leb (length s) most_store and eqb (field 4 0 s) mark_record and eqb (field 2 kind_at s) mark_kind

-- the store of n bytes with the mark m and these records, which stand in s
unfoldable pub valid_or : ℕ → Mark → List ℕ → Option (List Rec) → Option Store
valid_or n m s none = none
valid_or n m s (some rs) = only_if ((sorted 0 no_owner rs and counted (tally_of rs) s rs) and mark_ok m rs) (some (record { size = n; mark = m; recs = rs }))

-- the store that s is, if it is one
unfoldable pub decode : List ℕ → Option Store
decode s = only_if (begins s) (valid_or (length s) (mark_in s) (drop mark_record s) (split (drop mark_record s)))

-- ── laws of the two
-- what a store may be
pub record Valid (st : Store) : Type 0 where
  pub order : sorted 0 no_owner st.recs ≡ true
  pub marked : mark_ok st.mark st.recs ≡ true
  pub small : st.size ≤ most_store
  pub room : mark_record + total st.recs ≤ st.size

-- the bytes of a store are read as that store
abbrev pub ReadBack : Type 0
ReadBack = (st : Store) → Valid st → decode (encode st) ≡ some st

-- bytes that are read as a store are just the bytes of that store
abbrev pub WrittenBack : Type 0
WrittenBack = (s : List ℕ) (st : Store) → Bytes s → decode s ≡ some st → (s ≡ encode st) × Valid st
