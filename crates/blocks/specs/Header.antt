-- Document 01, "The font block": its checks in their order, and what is kept.
use Rattle.std.specs.Prelude.{ℕ, ◌/◌, ◌%◌, ◌≡◌, List, [], ◌∷◌, ◌++◌, Bool, true, Result, Ok, not, ◌&&◌, ◌||◌, cond, length, take, set, leb, ltb, eqb}
use Rattle.blocks.specs.Field.{byte, high_low, word, is_word, signed_within, put_word, cap_extended}
use Rattle.pictures.specs.Size.{within}
use Rattle.blocks.specs.Check.{Check, ◌else◌, verdict}

-- a block has at most so many bytes
abbrev pub block_limit : ℕ
block_limit = 32767

-- how many bytes a header of format 0 has, and one of format 20 (W-206: "68 bytes"); so many are kept of every header: "The font record grows
-- at its end by those four bytes for every font"
abbrev pub plain_bytes : ℕ
plain_bytes = 64

abbrev pub header_bytes : ℕ
header_bytes = 68

-- where the fields stand (source document 004)
abbrev pub descriptor_size_at : ℕ
descriptor_size_at = 0

abbrev pub format_at : ℕ
format_at = 2

abbrev pub font_type_at : ℕ
font_type_at = 3

abbrev pub style_high_at : ℕ
style_high_at = 4

abbrev pub reserved_at : ℕ
reserved_at = 5

abbrev pub baseline_at : ℕ
baseline_at = 6

abbrev pub cell_width_at : ℕ
cell_width_at = 8

abbrev pub cell_height_at : ℕ
cell_height_at = 10

abbrev pub orientation_at : ℕ
orientation_at = 12

abbrev pub spacing_at : ℕ
spacing_at = 13

abbrev pub symbol_set_at : ℕ
symbol_set_at = 14

abbrev pub pitch_at : ℕ
pitch_at = 16

abbrev pub height_at : ℕ
height_at = 18

abbrev pub style_low_at : ℕ
style_low_at = 23

abbrev pub stroke_weight_at : ℕ
stroke_weight_at = 24

abbrev pub typeface_low_at : ℕ
typeface_low_at = 25

abbrev pub typeface_high_at : ℕ
typeface_high_at = 26

-- W-202: the extended bytes, "256ths of a quarter-dot"
abbrev pub pitch_extended_at : ℕ
pitch_extended_at = 40

abbrev pub height_extended_at : ℕ
height_extended_at = 41

-- W-206: "X resolution at byte 64 and Y at 66"
abbrev pub x_resolution_at : ℕ
x_resolution_at = 64

abbrev pub y_resolution_at : ℕ
y_resolution_at = 66

-- the fields
abbrev pub descriptor_size : List ℕ → ℕ
descriptor_size b = word b descriptor_size_at

abbrev pub format : List ℕ → ℕ
format b = byte b format_at

abbrev pub font_type : List ℕ → ℕ
font_type b = byte b font_type_at

abbrev pub style : List ℕ → ℕ
style b = high_low (byte b style_high_at) (byte b style_low_at)

abbrev pub baseline : List ℕ → ℕ
baseline b = word b baseline_at

abbrev pub cell_width : List ℕ → ℕ
cell_width b = word b cell_width_at

abbrev pub cell_height : List ℕ → ℕ
cell_height b = word b cell_height_at

abbrev pub orientation : List ℕ → ℕ
orientation b = byte b orientation_at

abbrev pub spacing : List ℕ → ℕ
spacing b = byte b spacing_at

abbrev pub symbol_set : List ℕ → ℕ
symbol_set b = word b symbol_set_at

abbrev pub pitch : List ℕ → ℕ
pitch b = word b pitch_at

abbrev pub height : List ℕ → ℕ
height b = word b height_at

abbrev pub stroke_weight : List ℕ → ℕ
stroke_weight b = byte b stroke_weight_at

abbrev pub typeface : List ℕ → ℕ
typeface b = high_low (byte b typeface_high_at) (byte b typeface_low_at)

abbrev pub pitch_extended : List ℕ → ℕ
pitch_extended b = byte b pitch_extended_at

abbrev pub height_extended : List ℕ → ℕ
height_extended b = byte b height_extended_at

-- of a kept header, whose X and Y resolution are one
abbrev pub resolution : List ℕ → ℕ
resolution b = word b x_resolution_at

-- the formats that are taken (W-206: 20), and how far the fields go
abbrev pub plain_format : ℕ
plain_format = 0

abbrev pub resolution_format : ℕ
resolution_format = 20

abbrev pub coarse_resolution : ℕ
coarse_resolution = 300

abbrev pub fine_resolution : ℕ
fine_resolution = 600

abbrev pub last_font_type : ℕ
last_font_type = 2

abbrev pub last_style : ℕ
last_style = 1023

abbrev pub last_orientation : ℕ
last_orientation = 3

abbrev pub last_spacing : ℕ
last_spacing = 1

abbrev pub last_symbol_set : ℕ
last_symbol_set = 2047

abbrev pub weight_limit : ℕ
weight_limit = 7

abbrev pub pitch_limit : ℕ
pitch_limit = 16800

abbrev pub height_limit : ℕ
height_limit = 10922

-- W-206: the header is of format 20, which says its resolution
abbrev pub says_resolution : List ℕ → Bool
says_resolution b = eqb (format b) resolution_format

-- how many bytes a header has at least, by its format; every format but 20 counts as 0 here
unfoldable pub own_bytes : List ℕ → ℕ
own_bytes b = cond (says_resolution b) header_bytes plain_bytes

-- "Length 64..32767, else 3." W-206: "3 below 68 bytes .., for format 20 only"
abbrev pub header_length : List ℕ → Bool
header_length b = within (own_bytes b) block_limit (length b)

-- "Byte 2 (format) 0 and descriptor size 64 up to the block's length, else 4." W-206: "4 for a descriptor size below 68, for format 20 only"
abbrev pub header_form : List ℕ → Bool
header_form b = (eqb (format b) plain_format || says_resolution b) && within (own_bytes b) (length b) (descriptor_size b)

-- "Then, else 5: type (3) 0..2; style word (byte 4 high, byte 23 low) 0..1023; cell width (8) and height (10) at least 1; baseline (6) below
-- cell height; .. spacing (13) 0 fixed or 1 proportional; symbol set (14) 0..2047; stroke weight (24, signed) -7..7." W-203: "Orientation
-- becomes 0 to 3 in headers and requests (2 reverse portrait, 3 reverse landscape)"
abbrev pub header_fields : List ℕ → Bool
header_fields b =
    leb (font_type b) last_font_type
    && leb (style b) last_style
    && leb 1 (cell_width b)
    && leb 1 (cell_height b)
    && ltb (baseline b) (cell_height b)
    && leb (orientation b) last_orientation
    && leb (spacing b) last_spacing
    && leb (symbol_set b) last_symbol_set
    && signed_within 8 weight_limit (stroke_weight b)

-- W-206: "Take them where both are 300 or both are 600."
abbrev pub both_are : ℕ → List ℕ → Bool
both_are n b = is_word x_resolution_at n b && is_word y_resolution_at n b

-- "5 for another resolution, last among the fields": bytes 64 to 67 of a format 0 block are not looked at
abbrev pub header_resolution : List ℕ → Bool
header_resolution b = not (says_resolution b) || (both_are coarse_resolution b || both_are fine_resolution b)

abbrev pub header_checks : List ℕ → List Check
header_checks b = (header_length b else 3) ∷ (header_form b else 4) ∷ (header_fields b && header_resolution b else 5) ∷ []

unfoldable pub read_header : List ℕ → Result Unit ℕ
read_header b = verdict (header_checks b)

-- "Kept: the first 64 bytes". W-206: the first 68 of a format 20 block; "a format 0 font gets 300 and 300"
abbrev pub coarse_bytes : List ℕ
coarse_bytes = coarse_resolution / 256 ∷ coarse_resolution % 256 ∷ coarse_resolution / 256 ∷ coarse_resolution % 256 ∷ []

unfoldable pub first_bytes : List ℕ → List ℕ
first_bytes b = cond (says_resolution b) (take header_bytes b) (take plain_bytes b ++ coarse_bytes)

-- "with descriptor size 64, byte 5 zero, pitch (16) above 16,800 made 16,800, height (18) above 10,922 made 10,922"
-- W-202: "A field cut to its limit keeps its extended byte as zero." One at its limit that was not cut keeps the byte that it has.
-- W-206: "A format 20 font keeps format 20 and descriptor size 68."
unfoldable pub fix_header : List ℕ → List ℕ
fix_header b =
    cap_extended height_at height_extended_at height_limit
    (cap_extended pitch_at pitch_extended_at pitch_limit (set (put_word descriptor_size_at (own_bytes b) b) reserved_at 0))

-- what is kept of a block
unfoldable pub kept_header : List ℕ → List ℕ
kept_header b = fix_header (first_bytes b)

-- the bytes that an accepted block always has, or that the rules change, stand as the rules leave them: format 0 with size 64 and 300, 300, or
-- format 20 with size 68 (W-206)
abbrev pub fixed_header : List ℕ → Bool
fixed_header k =
    ((eqb (format k) plain_format && both_are coarse_resolution k) || says_resolution k)
    && eqb (descriptor_size k) (own_bytes k)
    && eqb (byte k reserved_at) 0
    && leb (pitch k) pitch_limit
    && leb (height k) height_limit

-- bytes that an accepted block leaves. The law `KeptHeaders` says that they are just those.
unfoldable pub is_kept_header : List ℕ → Bool
is_kept_header k = eqb (length k) header_bytes && (fixed_header k && (header_fields k && header_resolution k))

-- W-206: "The write-out gives back the format received": of a kept header the bytes that its format has, 64 or 68
unfoldable pub own_header : List ℕ → List ℕ
own_header k = take (own_bytes k) k

-- a law of them: what an accepted block leaves passes the test, and bytes that pass it are accepted, as the write-out gives them, and left the same
abbrev pub KeptHeaders : Type 0
KeptHeaders =
    ((b : List ℕ) → read_header b ≡ Ok tt → is_kept_header (kept_header b) ≡ true)
    × ((k : List ℕ) → is_kept_header k ≡ true → (read_header (own_header k) ≡ Ok tt) × (kept_header (own_header k) ≡ k))
