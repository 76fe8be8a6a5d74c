-- Document 01, "Trials on both sides": P1 to P12, and those of the later requests, one table and one claim.
use Rattle.std.specs.Prelude.{ℕ, zero, suc, ◌+◌, ◌/◌, ◌%◌, ◌≡◌, Some, Ok, Err, List, [], ◌∷◌, ◌++◌, true, length, replicate}
use Rattle.pictures.specs.Picture.{Judged, judge}
use Rattle.pictures.specs.Rows.{picture}
use Rattle.pictures.specs.Runs.{past_width}
use Rattle.form.specs.Num.{low_first}
use Rattle.choice.specs.Request.{request_of}
use Rattle.choice.specs.declared.Request.{Request}
use Rattle.marlinfold.specs.Calls.{Call, make_fresh, download_font, download_character, choose_font, draw_picture, turn_picture, check_profile, choose_from_two, Answer, answer, ran}

-- ── the fonts
-- the first 64 bytes of a font block by descriptor size, format (W-206), orientation, spacing, set, pitch, height, weight byte, typeface and the
-- extended bytes of pitch and height (W-202); style 0
unfoldable pub formed : ℕ → ℕ → ℕ → ℕ → ℕ → ℕ → ℕ → ℕ → ℕ → ℕ → ℕ → List ℕ
formed size format page spacing set p h w face x y =
    0 ∷ size ∷ format ∷ 0 ∷ 0 ∷ 0 ∷ 0 ∷ 15 ∷ 0 ∷ 20 ∷ 0 ∷ 20 ∷ page ∷ spacing ∷ set / 256 ∷ set % 256 ∷ p / 256 ∷ p % 256 ∷ h / 256 ∷ h % 256
    ∷ 0 ∷ 0 ∷ 0 ∷ 0 ∷ w ∷ face % 256 ∷ face / 256 ∷ (replicate 13 0 ++ (x ∷ y ∷ replicate 22 0))

-- a font block of format 0
unfoldable pub extended : ℕ → ℕ → ℕ → ℕ → ℕ → ℕ → ℕ → ℕ → ℕ → List ℕ
extended page spacing set p h w face x y = formed 64 0 page spacing set p h w face x y

unfoldable pub header : ℕ → ℕ → ℕ → ℕ → ℕ → ℕ → ℕ → List ℕ
header page spacing set p h w face = extended page spacing set p h w face 0 0

-- "A, B, C share set 277, fixed, pitch 120, height 200, style 0, face 3. A: 5, weight 0. B: 2, weight 3. C: 9, as A, landscape."
unfoldable pub A : Call
A = download_font 5 (header 0 0 277 120 200 0 3)

unfoldable pub B : Call
B = download_font 2 (header 0 0 277 120 200 3 3)

unfoldable pub C : Call
C = download_font 9 (header 1 0 277 120 200 0 3)

-- "D: 7, set 341, proportional, height 150, face 4."
unfoldable pub D : Call
D = download_font 7 (header 0 1 341 0 150 0 4)

-- W-203: 12, as A, reverse portrait
unfoldable pub E : Call
E = download_font 12 (header 2 0 277 120 200 0 3)

-- A's like under number n with another pitch and height
unfoldable pub like : ℕ → ℕ → ℕ → Call
like n p h = download_font n (header 0 0 277 p h 0 3)

-- W-208: and with weight 3, and in landscape
unfoldable pub bold : ℕ → Call
bold n = download_font n (header 0 0 277 120 200 3 3)

unfoldable pub landscape : ℕ → Call
landscape n = download_font n (header 1 0 277 120 200 0 3)

-- a character of B: one row of 10 dots, in a record of 28 bytes
unfoldable pub lettered : Call
lettered = download_character 2 65 (4 ∷ 0 ∷ 14 ∷ 1 ∷ 0 ∷ 0 ∷ 0 ∷ 0 ∷ 0 ∷ 0 ∷ 0 ∷ 10 ∷ 0 ∷ 1 ∷ 0 ∷ 0 ∷ 255 ∷ 192 ∷ [])

-- and with an extended byte of the pitch
unfoldable pub finer : ℕ → ℕ → ℕ → Call
finer n p x = download_font n (extended 0 0 277 p 200 0 3 x 0)

-- W-206: a fixed font of format 20 under number n, by X and Y resolution, orientation, set, pitch, height, weight byte and typeface
unfoldable pub resolved : ℕ → ℕ → ℕ → ℕ → ℕ → ℕ → ℕ → ℕ → ℕ → Call
resolved n X Y page set p h w face =
    download_font n (formed 68 20 page 0 set p h w face 0 0 ++ (X / 256 ∷ X % 256 ∷ Y / 256 ∷ Y % 256 ∷ []))

-- A's like of 600 dpi under number n, with a pitch and height in its own quarter-dots: 240 and 400 are A's
unfoldable pub fine : ℕ → ℕ → ℕ → Call
fine n p h = resolved n 600 600 0 277 p h 0 3

-- 2, 300 dpi, pitch 70, weight 3
unfoldable pub coarse70 : Call
coarse70 = download_font 2 (header 0 0 277 70 200 3 3)

unfoldable pub four_fonts : List Call
four_fonts = A ∷ B ∷ C ∷ D ∷ []

-- "Base request: 277, fixed, R 1000, H 1200, style 0, weight 0, face 3, portrait": with another mode (W-206), set, R, weight (32 bits) and page
unfoldable pub request_in : ℕ → ℕ → ℕ → ℕ → ℕ → Request
request_in mode set R w page = request_of set 0 R 1200 0 w 3 page mode

unfoldable pub request_with : ℕ → ℕ → ℕ → ℕ → Request
request_with set R w page = request_in 300 set R w page

unfoldable pub asks_in : ℕ → ℕ → ℕ → ℕ → ℕ → Call
asks_in mode set R w page = choose_font (request_in mode set R w page)

unfoldable pub asks : ℕ → ℕ → ℕ → ℕ → Call
asks set R w page = choose_font (request_with set R w page)

-- a first block of class 2, w dots wide and h rows high, and one for code 65 of font 5
unfoldable pub first_block : ℕ → ℕ → List ℕ → List ℕ
first_block w h d = 4 ∷ 0 ∷ 14 ∷ 2 ∷ 0 ∷ 0 ∷ 0 ∷ 0 ∷ 0 ∷ 0 ∷ w / 256 ∷ w % 256 ∷ h / 256 ∷ h % 256 ∷ 0 ∷ 0 ∷ d

unfoldable pub sending : ℕ → ℕ → List ℕ → Call
sending w h d = download_character 5 65 (first_block w h d)

-- a continuation for it
unfoldable pub sending_more : Call
sending_more = download_character 5 65 (4 ∷ 1 ∷ 0 ∷ [])

-- W-203: two rows of ten dots, with black padding, which is not looked at
--     #..#.....#
--     .##.......
unfoldable pub ten_by_two : List ℕ
ten_by_two = 144 ∷ 127 ∷ 96 ∷ 63 ∷ []

-- W-207: A's like of type 1
unfoldable pub typed : Call
typed = download_font 5 (0 ∷ 64 ∷ 0 ∷ 1 ∷ 0 ∷ 0 ∷ 0 ∷ 15 ∷ 0 ∷ 20 ∷ 0 ∷ 20 ∷ 0 ∷ 0 ∷ 1 ∷ 21 ∷ 0 ∷ 120 ∷ 0 ∷ 200 ∷ replicate 44 0)

-- a store, byte by byte as document 01 lays it out: A with one row of 8 dots for each code 32 to 127, delta X as A's pitch; but code 65 has these
-- sixteen bytes and this data
unfoldable pub letter_record : ℕ → List ℕ → List ℕ → List ℕ
letter_record c k d = low_first 4 (26 + length d) ++ (3 ∷ 0 ∷ 5 ∷ 0 ∷ c ∷ 0 ∷ (k ++ d))

unfoldable pub plain_letter : List ℕ
plain_letter = 4 ∷ 0 ∷ 14 ∷ 1 ∷ 0 ∷ 0 ∷ 0 ∷ 0 ∷ 0 ∷ 0 ∷ 0 ∷ 8 ∷ 0 ∷ 1 ∷ 0 ∷ 120 ∷ []

unfoldable pub plain_letters : ℕ → ℕ → List ℕ
plain_letters c zero = []
plain_letters c (suc k) = letter_record c plain_letter (255 ∷ []) ++ plain_letters (c + 1) k

unfoldable pub spine : List ℕ → List ℕ → List ℕ
spine k d =
    12 ∷ 0 ∷ 0 ∷ 0 ∷ 1 ∷ 0 ∷ 0 ∷ 0 ∷ 0 ∷ 0 ∷ 0 ∷ 0
    ∷ 82 ∷ 0 ∷ 0 ∷ 0 ∷ 2 ∷ 0 ∷ 5 ∷ 0 ∷ 96 ∷ 0
    ∷ (low_first 4 (95 + length d)
    ++ (header 0 0 277 120 200 0 3
    ++ (1 ∷ 44 ∷ 1 ∷ 44 ∷ (plain_letters 32 33 ++ (letter_record 65 k d ++ plain_letters 66 62)))))

-- ── the trials
pub data Trial : Type 0 where
  -- what a call answers after some calls on a fresh store
  gives : (before : List Call) (call : Call) (given : Answer) → Trial
  -- and on a buffer
  gives_on : (buffer : List ℕ) (call : Call) (given : Answer) → Trial
  -- W-208: what choosing from two stores answers, after some calls on each
  chooses_from_two : (soft cartridge : List Call) (r : Request) (given : Answer) → Trial
  -- what the rules of rows make of class 2 data, w dots wide and h rows high: how it is judged, and its picture
  draws : (w h : ℕ) (d : List ℕ) (judged : Judged) (rows : List ℕ) → Trial

-- the answer that names a font, and the answers 11 and 2
unfoldable pub names_font : ℕ → Answer
names_font n = record { refusal = 0; numbers = n ∷ []; out = [] }

unfoldable pub none_to_choose : Answer
none_to_choose = record { refusal = 11; numbers = 0 ∷ []; out = [] }

unfoldable pub not_in_range : Answer
not_in_range = record { refusal = 2; numbers = 0 ∷ []; out = [] }

-- W-208: the answer that names a font, which store holds it, and its record's place there; and 11
unfoldable pub names_record : ℕ → ℕ → ℕ → Answer
names_record n which place = record { refusal = 0; numbers = n ∷ which ∷ place ∷ []; out = [] }

unfoldable pub no_record : Answer
no_record = record { refusal = 11; numbers = 0 ∷ 0 ∷ 0 ∷ []; out = [] }

-- a picture that is drawn or turned; W-209: a run past the width; a continuation where no character is open
unfoldable pub drawn : List ℕ → Answer
drawn rows = record { refusal = 0; numbers = []; out = rows }

unfoldable pub run_too_long : ℕ → ℕ → ℕ → Answer
run_too_long row filled run = record { refusal = 8; numbers = row ∷ filled ∷ run ∷ []; out = [] }

unfoldable pub none_open : Answer
none_open = record { refusal = 7; numbers = 0 ∷ 0 ∷ 0 ∷ []; out = [] }

-- W-207: the rule that is broken, and the code
unfoldable pub breaks : ℕ → ℕ → Answer
breaks rule code = record { refusal = 0; numbers = rule ∷ code ∷ []; out = [] }

-- a buffer of so many bytes, made fresh, after these calls
unfoldable pub store_after : ℕ → List Call → List ℕ
store_after size cs = ran (make_fresh ∷ cs) (replicate size 255)

abbrev pub Holds : Trial → Type 0
Holds (gives cs c a) = answer c (store_after 500 cs) ≡ a
Holds (gives_on s c a) = answer c s ≡ a
Holds (chooses_from_two soft cartridge r a) = answer (choose_from_two true (store_after 500 cartridge) r) (store_after 500 soft) ≡ a
Holds (draws w h d j rows) = (judge 2 w h d ≡ j) × (picture 2 w d h ≡ rows)

unfoldable pub table : List Trial
table =
    -- P1 weight 3: font 2.
    gives four_fonts (asks 277 1000 3 0) (names_font 2)
    -- P2 weight 0: 5; landscape page: 9.
    ∷ gives four_fonts (asks 277 1000 0 0) (names_font 5)
    ∷ gives four_fonts (asks 277 1000 0 1) (names_font 9)
    -- P3 weight 1: 2.
    ∷ gives four_fonts (asks 277 1000 1 0) (names_font 2)
    -- P4 weight -1: 5.
    ∷ gives four_fonts (asks 277 1000 4294967295 0) (names_font 5)
    -- P5 set 85: 5.
    ∷ gives four_fonts (asks 85 1000 0 0) (names_font 5)
    -- P6 set 341: 7.
    ∷ gives four_fonts (asks 341 1000 0 0) (names_font 7)
    -- P7 only D kept, set 85: 11.
    ∷ gives (D ∷ []) (asks 85 1000 0 0) none_to_choose
    -- P8 pitches 120 and 72: R 1200 and R 1700 both give 72.
    ∷ gives (A ∷ like 6 72 200 ∷ []) (asks 277 1200 0 0) (names_font 6)
    ∷ gives (A ∷ like 6 72 200 ∷ []) (asks 277 1700 0 0) (names_font 6)
    -- P9 kept height 204 is level with 200 for H 1200; 205 isn't: the lower number decides, on either side, exactly where they are level
    ∷ gives (A ∷ like 3 120 204 ∷ []) (asks 277 1000 0 0) (names_font 3)
    ∷ gives (A ∷ like 6 120 204 ∷ []) (asks 277 1000 0 0) (names_font 5)
    ∷ gives (A ∷ like 3 120 205 ∷ []) (asks 277 1000 0 0) (names_font 5)
    -- W-202: at R 1700, 70 with 150 qualifies and goes before 70 with 0, whichever has the lower number;
    ∷ gives (finer 5 70 150 ∷ finer 6 70 0 ∷ []) (asks 277 1700 0 0) (names_font 5)
    ∷ gives (finer 5 70 0 ∷ finer 6 70 150 ∷ []) (asks 277 1700 0 0) (names_font 6)
    -- a field cut to its limit has its extended byte as zero, one at its limit keeps it: where none qualifies, the least goes first
    ∷ gives (finer 5 16800 1 ∷ finer 6 16801 255 ∷ []) (asks 277 1000 0 0) (names_font 6)
    -- W-203: a page turned upside down takes a reverse portrait font, if there is one; else the lowest number
    ∷ gives (E ∷ four_fonts) (asks 277 1000 0 2) (names_font 12)
    ∷ gives (E ∷ four_fonts) (asks 277 1000 0 3) (names_font 5)
    -- W-206: in mode 300 a 600 dpi font takes no part; in mode 600 it goes before a 300 dpi one, whichever has the lower number;
    ∷ gives (fine 3 240 400 ∷ A ∷ []) (asks_in 300 277 1000 0 0) (names_font 5)
    ∷ gives (fine 3 240 400 ∷ A ∷ []) (asks_in 600 277 1000 0 0) (names_font 3)
    ∷ gives (A ∷ fine 7 240 400 ∷ []) (asks_in 600 277 1000 0 0) (names_font 7)
    ∷ gives (fine 3 240 400 ∷ []) (asks_in 300 277 1000 0 0) none_to_choose
    -- after the typeface, before the orientation;
    ∷ gives (A ∷ resolved 7 600 600 0 277 240 400 0 4 ∷ []) (asks_in 600 277 1000 0 0) (names_font 5)
    ∷ gives (A ∷ resolved 7 600 600 1 277 240 400 0 3 ∷ []) (asks_in 600 277 1000 0 0) (names_font 7)
    -- a 600 dpi font of the set asked for beside a 300 dpi Roman-8 font, in both modes;
    ∷ gives (A ∷ resolved 7 600 600 0 341 240 400 0 3 ∷ []) (asks_in 300 341 1000 0 0) (names_font 5)
    ∷ gives (A ∷ resolved 7 600 600 0 341 240 400 0 3 ∷ []) (asks_in 600 341 1000 0 0) (names_font 7)
    -- pitch 140 at 600 dpi is level with 70 at 300 dpi: both are left, and the weight decides between them; 141 is greater;
    ∷ gives (coarse70 ∷ fine 7 140 400 ∷ []) (asks_in 600 277 1700 3 0) (names_font 2)
    ∷ gives (coarse70 ∷ fine 7 140 400 ∷ []) (asks_in 600 277 1700 0 0) (names_font 7)
    ∷ gives (coarse70 ∷ fine 7 141 400 ∷ []) (asks_in 600 277 1700 3 0) (names_font 7)
    -- P9 at 600 dpi: height 408 is level with 200 at 300 dpi for H 1200, 409 isn't;
    ∷ gives (A ∷ fine 7 240 408 ∷ []) (asks_in 600 277 1000 0 0) (names_font 7)
    ∷ gives (A ∷ fine 7 240 409 ∷ []) (asks_in 600 277 1000 0 0) (names_font 5)
    -- a format 20 font of 300 dpi is one as any other; one of X 300 and Y 600 isn't taken; another mode is 2
    ∷ gives (resolved 3 300 300 0 277 120 200 0 3 ∷ A ∷ []) (asks_in 300 277 1000 0 0) (names_font 3)
    ∷ gives (resolved 3 300 600 0 277 120 200 0 3 ∷ A ∷ []) (asks_in 300 277 1000 0 0) (names_font 5)
    ∷ gives four_fonts (asks_in 400 277 1000 0 0) not_in_range
    -- W-208: one number in both stores: the weight decides between the two fonts;
    ∷ chooses_from_two (A ∷ []) (bold 5 ∷ []) (request_with 277 1000 0 0) (names_record 5 1 12)
    ∷ chooses_from_two (A ∷ []) (bold 5 ∷ []) (request_with 277 1000 3 0) (names_record 5 2 12)
    -- the same fonts in both: the soft one, at its place among four records;
    ∷ chooses_from_two four_fonts four_fonts (request_with 277 1000 3 0) (names_record 2 1 12)
    ∷ chooses_from_two four_fonts four_fonts (request_with 277 1000 0 1) (names_record 9 1 258)
    -- a soft font before one of the cartridge that has the page's orientation, and the lower number;
    ∷ chooses_from_two (A ∷ []) (C ∷ []) (request_with 277 1000 0 1) (names_record 5 1 12)
    ∷ chooses_from_two (A ∷ []) (landscape 3 ∷ []) (request_with 277 1000 0 1) (names_record 5 1 12)
    ∷ chooses_from_two (A ∷ []) (like 3 120 200 ∷ []) (request_with 277 1000 0 0) (names_record 5 1 12)
    -- the set asked for, in the cartridge alone, before Roman-8 in the soft store; the place is counted in the cartridge;
    ∷ chooses_from_two (A ∷ []) (D ∷ []) (request_with 341 1000 0 0) (names_record 7 2 12)
    ∷ chooses_from_two (D ∷ []) (A ∷ B ∷ []) (request_with 277 1000 0 0) (names_record 5 2 94)
    -- an empty cartridge, an empty soft store, both empty;
    ∷ chooses_from_two four_fonts [] (request_with 277 1000 0 0) (names_record 5 1 94)
    ∷ chooses_from_two [] four_fonts (request_with 277 1000 0 0) (names_record 5 2 94)
    ∷ chooses_from_two [] [] (request_with 277 1000 0 0) no_record
    -- a landscape font of the cartridge is chosen where it fits best; a place comes after the characters of lower fonts;
    ∷ chooses_from_two (D ∷ []) four_fonts (request_with 277 1000 0 1) (names_record 9 2 258)
    ∷ chooses_from_two [] (A ∷ B ∷ lettered ∷ []) (request_with 277 1000 0 0) (names_record 5 2 122)
    -- 600 dpi fonts in one store alone: in mode 300 they take no part, in mode 600 they go before a soft font of 300 dpi
    ∷ chooses_from_two (fine 3 240 400 ∷ []) (A ∷ []) (request_in 300 277 1000 0 0) (names_record 5 2 12)
    ∷ chooses_from_two (A ∷ []) (fine 3 240 400 ∷ []) (request_in 300 277 1000 0 0) (names_record 5 1 12)
    ∷ chooses_from_two (A ∷ []) (fine 3 240 400 ∷ []) (request_in 600 277 1000 0 0) (names_record 3 2 12)
    -- W-203: a quarter, a half and three quarters, clockwise; padding is white, and bytes after the picture stay;
    ∷ gives [] (turn_picture 1 10 2 ten_by_two (replicate 11 7)) (drawn (64 ∷ 128 ∷ 128 ∷ 64 ∷ 0 ∷ 0 ∷ 0 ∷ 0 ∷ 0 ∷ 64 ∷ 7 ∷ []))
    ∷ gives [] (turn_picture 2 10 2 ten_by_two (replicate 5 7)) (drawn (1 ∷ 128 ∷ 130 ∷ 64 ∷ 7 ∷ []))
    ∷ gives [] (turn_picture 3 10 2 ten_by_two (replicate 10 7)) (drawn (128 ∷ 0 ∷ 0 ∷ 0 ∷ 0 ∷ 0 ∷ 128 ∷ 64 ∷ 64 ∷ 128 ∷ []))
    -- W-207: each of the seven rules: type 1; proportional; without its characters; a left offset of -1; an offset of 13 and a width of 8 in a cell of 20
    -- dots; 21 rows in a cell of 20; a delta X that is not the pitch; and a font that meets the profile
    ∷ gives (typed ∷ []) (check_profile 5) (breaks 1 0)
    ∷ gives (D ∷ []) (check_profile 7) (breaks 2 0)
    ∷ gives (A ∷ []) (check_profile 5) (breaks 3 32)
    ∷ gives_on (spine (4 ∷ 0 ∷ 14 ∷ 1 ∷ 0 ∷ 0 ∷ 255 ∷ 255 ∷ 0 ∷ 0 ∷ 0 ∷ 8 ∷ 0 ∷ 1 ∷ 0 ∷ 120 ∷ []) (255 ∷ [])) (check_profile 5) (breaks 4 65)
    ∷ gives_on (spine (4 ∷ 0 ∷ 14 ∷ 1 ∷ 0 ∷ 0 ∷ 0 ∷ 13 ∷ 0 ∷ 0 ∷ 0 ∷ 8 ∷ 0 ∷ 1 ∷ 0 ∷ 120 ∷ []) (255 ∷ [])) (check_profile 5) (breaks 5 65)
    ∷ gives_on (spine (4 ∷ 0 ∷ 14 ∷ 1 ∷ 0 ∷ 0 ∷ 0 ∷ 0 ∷ 0 ∷ 0 ∷ 0 ∷ 8 ∷ 0 ∷ 21 ∷ 0 ∷ 120 ∷ []) (replicate 21 255)) (check_profile 5) (breaks 6 65)
    ∷ gives_on (spine (4 ∷ 0 ∷ 14 ∷ 1 ∷ 0 ∷ 0 ∷ 0 ∷ 0 ∷ 0 ∷ 0 ∷ 0 ∷ 8 ∷ 0 ∷ 1 ∷ 0 ∷ 121 ∷ []) (255 ∷ [])) (check_profile 5) (breaks 7 65)
    ∷ gives_on (spine plain_letter (255 ∷ [])) (check_profile 5) (breaks 0 0)
    -- P10 width 10, height 3, data 1 2 3 5 0 0 10: rows 56 0, 56 0, 255 192.
    ∷ draws 10 3 (1 ∷ 2 ∷ 3 ∷ 5 ∷ 0 ∷ 0 ∷ 10 ∷ []) (Ok (Some 7)) (56 ∷ 0 ∷ 56 ∷ 0 ∷ 255 ∷ 192 ∷ [])
    ∷ gives (A ∷ sending 10 3 (1 ∷ 2 ∷ 3 ∷ 5 ∷ 0 ∷ 0 ∷ 10 ∷ []) ∷ []) (draw_picture 5 65 (replicate 6 7)) (drawn (56 ∷ 0 ∷ 56 ∷ 0 ∷ 255 ∷ 192 ∷ []))
    -- P11 width 300, height 1, data 0 255 0 45: a white row, complete.
    ∷ draws 300 1 (0 ∷ 255 ∷ 0 ∷ 45 ∷ []) (Ok (Some 4)) (replicate 38 0)
    ∷ gives (A ∷ sending 300 1 (0 ∷ 255 ∷ 0 ∷ 45 ∷ []) ∷ []) (draw_picture 5 65 (replicate 38 7)) (drawn (replicate 38 0))
    ∷ gives (A ∷ sending 300 1 (0 ∷ 255 ∷ 0 ∷ 45 ∷ []) ∷ []) sending_more none_open
    -- P12 width 10, data 0 4 7: 8. (In row 0, 4 dots filled, a run of 7; it names no height: 1.)
    ∷ draws 10 1 (0 ∷ 4 ∷ 7 ∷ []) (Err (past_width 0 4 7)) (0 ∷ 0 ∷ [])
    ∷ gives (A ∷ []) (sending 10 1 (0 ∷ 4 ∷ 7 ∷ [])) (run_too_long 0 4 7)
    ∷ []

abbrev pub AllHold : List Trial → Type 0
AllHold [] = Unit {0}
AllHold (t ∷ l) = Holds t × AllHold l

-- the claim
abbrev pub TrialsHold : Type 0
TrialsHold = AllHold table
