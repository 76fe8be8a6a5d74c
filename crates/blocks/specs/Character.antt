-- Document 01, "The character block": a block's kind, a first block's checks in their order, and what is kept of its descriptor.
use Rattle.std.specs.Prelude.{ℕ, ◌≡◌, List, [], ◌∷◌, Bool, true, Result, Ok, ◌&&◌, not, cond, length, take, set, leb, eqb}
use Rattle.blocks.specs.Field.{byte, word, signed_within, negative, floor_word}
use Rattle.pictures.specs.Size.{bitmap_class, runs_class, within, side_limit, picture_size, data_limit}
use Rattle.blocks.specs.Check.{Check, ◌else◌, verdict}
use Rattle.blocks.specs.Header.{block_limit}
use Rattle.blocks.specs.declared.character.Kind.{Kind}
use Rattle.blocks.specs.declared.character.Kind.TheVariants.{First, Continuation, Unknown}

-- how many bytes of a first block are its descriptor, and how many stand before a continuation's data
abbrev pub descriptor_bytes : ℕ
descriptor_bytes = 16

abbrev pub continuation_bytes : ℕ
continuation_bytes = 2

-- where the fields stand (source document 001)
abbrev pub format_at : ℕ
format_at = 0

abbrev pub continued_at : ℕ
continued_at = 1

abbrev pub descriptor_size_at : ℕ
descriptor_size_at = 2

abbrev pub class_at : ℕ
class_at = 3

abbrev pub orientation_at : ℕ
orientation_at = 4

abbrev pub reserved_at : ℕ
reserved_at = 5

abbrev pub left_offset_at : ℕ
left_offset_at = 6

abbrev pub top_offset_at : ℕ
top_offset_at = 8

abbrev pub width_at : ℕ
width_at = 10

abbrev pub height_at : ℕ
height_at = 12

abbrev pub delta_x_at : ℕ
delta_x_at = 14

-- the fields
abbrev pub format : List ℕ → ℕ
format b = byte b format_at

abbrev pub continued : List ℕ → ℕ
continued b = byte b continued_at

abbrev pub descriptor_size : List ℕ → ℕ
descriptor_size b = byte b descriptor_size_at

abbrev pub class : List ℕ → ℕ
class b = byte b class_at

abbrev pub orientation : List ℕ → ℕ
orientation b = byte b orientation_at

abbrev pub left_offset : List ℕ → ℕ
left_offset b = word b left_offset_at

abbrev pub top_offset : List ℕ → ℕ
top_offset b = word b top_offset_at

abbrev pub width : List ℕ → ℕ
width b = word b width_at

abbrev pub height : List ℕ → ℕ
height b = word b height_at

abbrev pub delta_x : List ℕ → ℕ
delta_x b = word b delta_x_at

-- the format and the descriptor size that are taken
abbrev pub character_format : ℕ
character_format = 4

abbrev pub size_taken : ℕ
size_taken = 14

-- how far an offset goes
abbrev pub offset_limit : ℕ
offset_limit = 16384

-- "Length 2..32767, else 3"
unfoldable pub character_length : List ℕ → Bool
character_length b = within continuation_bytes block_limit (length b)

-- "byte 0 is 4, else 4. Byte 1 zero, a first block"; "Byte 1 not zero, a continuation"
unfoldable pub kind_of : List ℕ → Kind
kind_of b = cond (eqb (format b) character_format) (cond (eqb (continued b) 0) First Continuation) Unknown

-- "length at least 16, else 3"
abbrev pub first_length : List ℕ → Bool
first_length b = leb descriptor_bytes (length b)

-- the classes that a first block is taken with
abbrev pub taken_class : ℕ → Bool
taken_class k = within bitmap_class runs_class k

-- the classes of the characters in a store
abbrev pub held_class : ℕ → Bool
held_class k = within bitmap_class runs_class k

-- "descriptor size (2) 14 and class (3) 1 or 2, else 4"
abbrev pub first_form : List ℕ → Bool
first_form b = eqb (descriptor_size b) size_taken && taken_class (class b)

-- "left (6) and top offset (8), signed, -16,384..16,384; width (10) and height (12) 1..16,384"
abbrev pub first_extent : List ℕ → Bool
first_extent b =
    signed_within 16 offset_limit (left_offset b)
    && signed_within 16 offset_limit (top_offset b)
    && within 1 side_limit (width b)
    && within 1 side_limit (height b)

-- "Then, else 5: orientation (4) the font's", and these
abbrev pub first_fields : List ℕ → ℕ → Bool
first_fields b o = eqb (orientation b) o && first_extent b

-- "A picture has height rows of width/8 rounded up bytes; above 32,768 bytes in all is 9."
abbrev pub first_size : List ℕ → Bool
first_size b = leb (picture_size (width b) (height b)) data_limit

abbrev pub first_checks : List ℕ → ℕ → List Check
first_checks b o =
    (first_length b else 3)
    ∷ (first_form b else 4)
    ∷ (first_fields b o else 5)
    ∷ (first_size b else 9)
    ∷ []

unfoldable pub read_first : List ℕ → ℕ → Result Unit ℕ
read_first b o = verdict (first_checks b o)

-- "byte 5 zero, a negative delta X (14) made 0"
unfoldable pub fix_first : List ℕ → List ℕ
fix_first b = floor_word delta_x_at (set b reserved_at 0)

-- "Kept: the 16 bytes", so fixed
unfoldable pub kept_first : List ℕ → List ℕ
kept_first b = fix_first (take descriptor_bytes b)

-- the bytes that an accepted first block always has, or that the rules change, stand as the rules leave them
abbrev pub fixed_first : List ℕ → Bool
fixed_first k =
    eqb (format k) character_format
    && eqb (continued k) 0
    && eqb (descriptor_size k) size_taken
    && eqb (byte k reserved_at) 0
    && not (negative 16 (delta_x k))

-- bytes that an accepted first block leaves of its descriptor, for a font of this orientation. The law `KeptDescriptors` says that they are
-- just those.
unfoldable pub is_kept_first : List ℕ → ℕ → Bool
is_kept_first k o =
    eqb (length k) descriptor_bytes && (fixed_first k && (held_class (class k) && (first_fields k o && first_size k)))

-- a law of them: what an accepted first block leaves passes the test, and bytes that pass it are accepted and left the same
abbrev pub KeptDescriptors : Type 0
KeptDescriptors =
    ((b : List ℕ) (o : ℕ) → kind_of b ≡ First → read_first b o ≡ Ok tt → is_kept_first (kept_first b) o ≡ true)
    × ((k : List ℕ) (o : ℕ) → is_kept_first k o ≡ true → (kind_of k ≡ First) × (read_first k o ≡ Ok tt) × (kept_first k ≡ k))
