-- Document 01, "The store": the numbers of its form, each by one name.
use Rattle.std.specs.Prelude.{ℕ, ◌+◌, ◌*◌}
use Rattle.blocks.specs.Header.{orientation_at}

-- "12..65,536 long"
abbrev pub least_store : ℕ
least_store = 12

abbrev pub most_store : ℕ
most_store = 65536

-- "length of the whole record (4 bytes), kind (2), body": where the kind stands, and the font number that the body of a font or of a character begins with
abbrev pub kind_at : ℕ
kind_at = 4

abbrev pub number_at : ℕ
number_at = 6

-- "Kind 1, once, first, 12 bytes: open mark 0 or 1, font number, code, two bytes each"
abbrev pub mark_kind : ℕ
mark_kind = 1

abbrev pub mark_record : ℕ
mark_record = 12

abbrev pub mark_on_at : ℕ
mark_on_at = 6

abbrev pub mark_font_at : ℕ
mark_font_at = 8

abbrev pub mark_code_at : ℕ
mark_code_at = 10

-- Kind 2, 82 bytes: font number, W-205: "the number of its characters (2 bytes) and the sum of their kept data bytes (4 bytes) after the font
-- number", 68 kept bytes, W-206: "The font record grows at its end by those four bytes for every font"
abbrev pub font_kind : ℕ
font_kind = 2

abbrev pub font_record : ℕ
font_record = 82

abbrev pub font_characters_at : ℕ
font_characters_at = 8

abbrev pub font_bytes_at : ℕ
font_bytes_at = 10

abbrev pub font_kept_at : ℕ
font_kept_at = 14

-- where the font's orientation stands in the record
abbrev pub font_orientation_at : ℕ
font_orientation_at = font_kept_at + orientation_at

-- "Kind 3, 26 bytes and the data: font number, code, 16 kept bytes, data."
abbrev pub character_kind : ℕ
character_kind = 3

abbrev pub character_record : ℕ
character_record = 26

abbrev pub code_at : ℕ
code_at = 8

abbrev pub character_kept_at : ℕ
character_kept_at = 10

-- "Font numbers 0..32767, codes 0..255."
abbrev pub last_font : ℕ
last_font = 32767

abbrev pub last_code : ℕ
last_code = 255

-- the order of records: by font number, and in a font by place: 0 the font itself, code + 1 a character
abbrev pub keys_each : ℕ
keys_each = 257

abbrev pub key_of : ℕ → ℕ → ℕ
key_of n place = n * keys_each + place
