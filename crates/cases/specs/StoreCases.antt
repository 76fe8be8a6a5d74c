-- Document 01, "The font block", "The character block", "Rows" and "The store": what is told and drawn after downloads, replacements and removals, byte by byte,
-- and the order of the checks. All computed.
use Rattle.std.specs.Prelude.{ℕ, ◌+◌, List, [], ◌∷◌, ◌++◌, length, take, drop, replicate}
use Rattle.form.specs.Layout.{least_store}
use Rattle.marlinfold.specs.Calls.{Call, download_font, download_character, remove_character, tell_font, tell_character, draw_row, draw_picture, turn_picture, Answer}
use Rattle.marlinfold.specs.Trials.{header, A, sending, letter_record, plain_letter, Trial, gives, gives_on, drawn, AllHold}
use Rattle.marlinfold.specs.Occurrences.{one_font, one_character, lettered_font, Answered, tells, AllTold}

-- ── the fonts and characters
-- a font block of 70 bytes in which every field that may hold anything does so; pitch and height are above their limits
unfoldable pub full_block : List ℕ
full_block =
    0 ∷ 70 ∷ 0 ∷ 2 ∷ 3 ∷ 9 ∷ 0 ∷ 15 ∷ 0 ∷ 20 ∷ 0 ∷ 20 ∷ 3 ∷ 1 ∷ 1 ∷ 21 ∷ 65 ∷ 161 ∷ 42 ∷ 171 ∷ 1 ∷ 2 ∷ 3 ∷ 4 ∷ 249 ∷ 5 ∷ 6 ∷ 27 ∷ 28 ∷ 29 ∷ 30 ∷ 31 ∷ 32 ∷ 33 ∷ 34 ∷ 35
    ∷ 36 ∷ 37 ∷ 38 ∷ 39 ∷ 150 ∷ 151 ∷ 42 ∷ 43 ∷ 44 ∷ 45 ∷ 46 ∷ 47 ∷ 48 ∷ 49 ∷ 50 ∷ 51 ∷ 52 ∷ 53 ∷ 54 ∷ 55 ∷ 56 ∷ 57 ∷ 58 ∷ 59 ∷ 60 ∷ 61 ∷ 62 ∷ 63 ∷ 1 ∷ 2 ∷ 3 ∷ 4 ∷ 5 ∷ 6 ∷ []

-- the 64 bytes that are kept of it: byte 5 zero, the size 64, pitch 16,800 and height 10,922 with their extended bytes zero; W-206: 300 and 300 dpi
unfoldable pub full_kept : List ℕ
full_kept =
    0 ∷ 64 ∷ 0 ∷ 2 ∷ 3 ∷ 0 ∷ 0 ∷ 15 ∷ 0 ∷ 20 ∷ 0 ∷ 20 ∷ 3 ∷ 1 ∷ 1 ∷ 21 ∷ 65 ∷ 160 ∷ 42 ∷ 170 ∷ 1 ∷ 2 ∷ 3 ∷ 4 ∷ 249 ∷ 5 ∷ 6 ∷ 27 ∷ 28 ∷ 29 ∷ 30 ∷ 31 ∷ 32 ∷ 33 ∷ 34 ∷ 35
    ∷ 36 ∷ 37 ∷ 38 ∷ 39 ∷ 0 ∷ 0 ∷ 42 ∷ 43 ∷ 44 ∷ 45 ∷ 46 ∷ 47 ∷ 48 ∷ 49 ∷ 50 ∷ 51 ∷ 52 ∷ 53 ∷ 54 ∷ 55 ∷ 56 ∷ 57 ∷ 58 ∷ 59 ∷ 60 ∷ 61 ∷ 62 ∷ 63 ∷ 1 ∷ 44 ∷ 1 ∷ 44 ∷ []

-- a first block of class 1, 10 x 3 dots, with two of the three rows, for a code of A
unfoldable pub two_of_three : ℕ → Call
two_of_three c = download_character 5 c (4 ∷ 0 ∷ 14 ∷ 1 ∷ 0 ∷ 9 ∷ 255 ∷ 255 ∷ 0 ∷ 1 ∷ 0 ∷ 10 ∷ 0 ∷ 3 ∷ 255 ∷ 255 ∷ 144 ∷ 127 ∷ 96 ∷ 63 ∷ [])

-- its 16 kept bytes: byte 5 zero, "a negative delta X (14) made 0"
unfoldable pub three_kept : List ℕ
three_kept = 4 ∷ 0 ∷ 14 ∷ 1 ∷ 0 ∷ 0 ∷ 255 ∷ 255 ∷ 0 ∷ 1 ∷ 0 ∷ 10 ∷ 0 ∷ 3 ∷ 0 ∷ 0 ∷ []

-- a continuation with the third row and a byte too many
unfoldable pub third_row : Call
third_row = download_character 5 65 (4 ∷ 1 ∷ 255 ∷ 255 ∷ 255 ∷ [])

-- a character of one white row
unfoldable pub white_row : Call
white_row = sending 10 1 (0 ∷ 10 ∷ [])

-- a buffer: the open mark, A, and a character of 8 x 1 dots with this data
unfoldable pub marked_store : ℕ → ℕ → ℕ → List ℕ → ℕ → List ℕ
marked_store on n c d bytes =
    12 ∷ 0 ∷ 0 ∷ 0 ∷ 1 ∷ 0 ∷ on ∷ 0 ∷ n ∷ 0 ∷ c ∷ 0
    ∷ 82 ∷ 0 ∷ 0 ∷ 0 ∷ 2 ∷ 0 ∷ 5 ∷ 0 ∷ 1 ∷ 0 ∷ bytes ∷ 0 ∷ 0 ∷ 0
    ∷ (header 0 0 277 120 200 0 3 ++ (1 ∷ 44 ∷ 1 ∷ 44 ∷ letter_record 65 plain_letter d))

-- ── the answers
unfoldable pub told_as : ℕ → List ℕ → Answer
told_as count out = record { refusal = 0; numbers = count ∷ []; out = out }

unfoldable pub not_told : ℕ → List ℕ → Answer
not_told k out = record { refusal = k; numbers = 0 ∷ []; out = out }

unfoldable pub block_taken : Answer
block_taken = record { refusal = 0; numbers = 0 ∷ 0 ∷ 0 ∷ []; out = [] }

-- ── what is told and drawn
unfoldable pub kept_cases : List Trial
kept_cases =
    -- every kept byte of a font is told, and the byte after them stays
    gives (download_font 5 full_block ∷ []) (tell_font 5 (replicate 69 7)) (told_as 0 (full_kept ++ (7 ∷ [])))
    -- and of a character; class 1: "highest bit leftmost; missing bytes are white; bits beyond the width are drawn 0"; one row by itself
    ∷ gives (A ∷ two_of_three 65 ∷ []) (tell_character 5 65 (replicate 17 7)) (told_as 4 (three_kept ++ (7 ∷ [])))
    ∷ gives (A ∷ two_of_three 65 ∷ []) (draw_picture 5 65 (replicate 7 7)) (drawn (144 ∷ 64 ∷ 96 ∷ 0 ∷ 0 ∷ 0 ∷ 7 ∷ []))
    ∷ gives (A ∷ two_of_three 65 ∷ []) (draw_row 5 65 1 (replicate 3 7)) (drawn (96 ∷ 0 ∷ 7 ∷ []))
    -- "Its data joins what is kept"; "Data beyond a complete picture is dropped."
    ∷ gives (A ∷ two_of_three 65 ∷ third_row ∷ []) (draw_picture 5 65 (replicate 7 7)) (drawn (144 ∷ 64 ∷ 96 ∷ 0 ∷ 255 ∷ 192 ∷ 7 ∷ []))
    ∷ gives (A ∷ two_of_three 65 ∷ third_row ∷ []) (tell_character 5 65 (replicate 16 7)) (told_as 6 three_kept)
    -- class 2: "A row unfinished at the end of data isn't drawn."
    ∷ gives (A ∷ sending 10 3 (0 ∷ 2 ∷ 3 ∷ 5 ∷ 0 ∷ 0 ∷ 4 ∷ []) ∷ []) (draw_picture 5 65 (replicate 7 7)) (drawn (56 ∷ 0 ∷ 0 ∷ 0 ∷ 0 ∷ 0 ∷ 7 ∷ []))
    -- a removed character is gone, and the others stay
    ∷ gives (A ∷ two_of_three 65 ∷ two_of_three 66 ∷ remove_character 5 65 ∷ []) (tell_character 5 65 []) (not_told 7 [])
    ∷ gives (A ∷ two_of_three 65 ∷ two_of_three 66 ∷ remove_character 5 65 ∷ []) (tell_character 5 66 (replicate 16 7)) (told_as 4 three_kept)
    ∷ gives (A ∷ two_of_three 65 ∷ two_of_three 66 ∷ remove_character 5 65 ∷ []) (tell_font 5 (replicate 68 7)) (told_as 1 (header 0 0 277 120 200 0 3 ++ (1 ∷ 44 ∷ 1 ∷ 44 ∷ [])))
    -- "It replaces a character of that code.", and the others stay
    ∷ gives (A ∷ two_of_three 65 ∷ two_of_three 66 ∷ white_row ∷ []) (draw_picture 5 65 (replicate 3 7)) (drawn (0 ∷ 0 ∷ 7 ∷ []))
    ∷ gives (A ∷ two_of_three 65 ∷ two_of_three 66 ∷ white_row ∷ []) (tell_character 5 66 (replicate 16 7)) (told_as 4 three_kept)
    -- "An accepted block first removes any font of that number with its characters."
    ∷ gives (A ∷ two_of_three 65 ∷ A ∷ []) (tell_character 5 65 []) (not_told 7 [])
    -- removing another character of its font does not close the open one: "Nothing else closes it."
    ∷ gives (A ∷ two_of_three 66 ∷ two_of_three 65 ∷ remove_character 5 66 ∷ []) third_row block_taken
    -- "the open mark names a kept, incomplete character": a complete one with it is no store; without it, and an incomplete one with it, is one
    ∷ gives_on (marked_store 1 5 65 (255 ∷ []) 1) (tell_font 5 []) (not_told 1 [])
    ∷ gives_on (marked_store 0 0 0 (255 ∷ []) 1) (tell_font 5 []) (not_told 12 [])
    ∷ gives_on (marked_store 1 5 65 [] 0) (tell_font 5 []) (not_told 12 [])
    ∷ []

-- ── checks, in their order; 1 before all others is the claim `StoreFirst`
unfoldable pub check_cases : List Answered
check_cases =
    -- 2 for a font number and for a code, before 6
    tells least_store [] (draw_row 32768 65 0 []) (2 ∷ [])
    ∷ tells least_store [] (draw_row 5 256 0 []) (2 ∷ [])
    ∷ tells least_store [] (draw_picture 32768 65 []) (2 ∷ [])
    ∷ tells least_store [] (tell_character 32768 65 []) (2 ∷ 0 ∷ [])
    ∷ tells least_store [] (remove_character 32768 65) (2 ∷ [])
    ∷ tells least_store [] (download_character 32768 65 []) (2 ∷ 0 ∷ 0 ∷ 0 ∷ [])
    -- a character block: 6 before 4; a short first block is 3; 4 before 5; 5 before 9
    ∷ tells least_store [] (download_character 5 65 (0 ∷ 0 ∷ [])) (6 ∷ 0 ∷ 0 ∷ 0 ∷ [])
    ∷ tells one_font (A ∷ []) (download_character 5 65 (4 ∷ 0 ∷ [])) (3 ∷ 0 ∷ 0 ∷ 0 ∷ [])
    ∷ tells one_font (A ∷ []) (download_character 5 65 (4 ∷ 0 ∷ 14 ∷ 3 ∷ 1 ∷ replicate 11 0)) (4 ∷ 0 ∷ 0 ∷ 0 ∷ [])
    ∷ tells one_font (A ∷ []) (download_character 5 65 (4 ∷ 0 ∷ 14 ∷ 2 ∷ 1 ∷ 0 ∷ 0 ∷ 0 ∷ 0 ∷ 0 ∷ 4 ∷ 0 ∷ 1 ∷ 1 ∷ 0 ∷ 0 ∷ [])) (5 ∷ 0 ∷ 0 ∷ 0 ∷ [])
    -- a font block: 5 before 10
    ∷ tells least_store [] (download_font 5 (0 ∷ 64 ∷ 0 ∷ 3 ∷ replicate 60 0)) (5 ∷ [])
    -- W-203: a picture with too few bytes is 2 where the output is short too
    ∷ tells 0 [] (turn_picture 1 1 1 [] []) (2 ∷ [])
    -- the room of what is replaced is free: a full store takes its font again, and its character
    ∷ tells one_font (A ∷ []) A (0 ∷ [])
    ∷ tells one_character lettered_font white_row (0 ∷ 0 ∷ 0 ∷ 0 ∷ [])
    ∷ []

-- ── each field of a block, at its limits; a block without a fault finds no room
-- a list with other bytes at a place
unfoldable pub changed_at : ℕ → List ℕ → List ℕ → List ℕ
changed_at at b l = take at l ++ (b ++ drop (at + length b) l)

unfoldable pub header_cases : List Answered
header_cases =
    -- "Byte 2 (format) 0 and descriptor size 64 up to the block's length, else 4."
    tells least_store [] (download_font 5 (changed_at 2 (1 ∷ []) (header 0 0 277 120 200 0 3))) (4 ∷ [])
    ∷ tells least_store [] (download_font 5 (changed_at 0 (0 ∷ 63 ∷ []) (header 0 0 277 120 200 0 3))) (4 ∷ [])
    ∷ tells least_store [] (download_font 5 (changed_at 0 (0 ∷ 65 ∷ []) (header 0 0 277 120 200 0 3))) (4 ∷ [])
    -- "type (3) 0..2"
    ∷ tells least_store [] (download_font 5 (changed_at 3 (2 ∷ []) (header 0 0 277 120 200 0 3))) (10 ∷ [])
    ∷ tells least_store [] (download_font 5 (changed_at 3 (3 ∷ []) (header 0 0 277 120 200 0 3))) (5 ∷ [])
    -- "style word (byte 4 high, byte 23 low) 0..1023"
    ∷ tells least_store [] (download_font 5 (changed_at 4 (3 ∷ []) (header 0 0 277 120 200 0 3))) (10 ∷ [])
    ∷ tells least_store [] (download_font 5 (changed_at 23 (255 ∷ []) (header 0 0 277 120 200 0 3))) (10 ∷ [])
    ∷ tells least_store [] (download_font 5 (changed_at 4 (4 ∷ []) (header 0 0 277 120 200 0 3))) (5 ∷ [])
    -- "cell width (8) and height (10) at least 1; baseline (6) below cell height"
    ∷ tells least_store [] (download_font 5 (changed_at 8 (0 ∷ 1 ∷ []) (header 0 0 277 120 200 0 3))) (10 ∷ [])
    ∷ tells least_store [] (download_font 5 (changed_at 8 (0 ∷ 0 ∷ []) (header 0 0 277 120 200 0 3))) (5 ∷ [])
    ∷ tells least_store [] (download_font 5 (changed_at 6 (0 ∷ 0 ∷ 0 ∷ 20 ∷ 0 ∷ 0 ∷ []) (header 0 0 277 120 200 0 3))) (5 ∷ [])
    ∷ tells least_store [] (download_font 5 (changed_at 10 (0 ∷ 16 ∷ []) (header 0 0 277 120 200 0 3))) (10 ∷ [])
    ∷ tells least_store [] (download_font 5 (changed_at 10 (0 ∷ 15 ∷ []) (header 0 0 277 120 200 0 3))) (5 ∷ [])
    -- "orientation (12)", W-203: 0 to 3; "spacing (13) 0 fixed or 1 proportional"
    ∷ tells least_store [] (download_font 5 (changed_at 12 (3 ∷ []) (header 0 0 277 120 200 0 3))) (10 ∷ [])
    ∷ tells least_store [] (download_font 5 (changed_at 12 (4 ∷ []) (header 0 0 277 120 200 0 3))) (5 ∷ [])
    ∷ tells least_store [] (download_font 5 (changed_at 13 (1 ∷ []) (header 0 0 277 120 200 0 3))) (10 ∷ [])
    ∷ tells least_store [] (download_font 5 (changed_at 13 (2 ∷ []) (header 0 0 277 120 200 0 3))) (5 ∷ [])
    -- "symbol set (14) 0..2047; stroke weight (24, signed) -7..7"
    ∷ tells least_store [] (download_font 5 (changed_at 14 (7 ∷ 255 ∷ []) (header 0 0 277 120 200 0 3))) (10 ∷ [])
    ∷ tells least_store [] (download_font 5 (changed_at 14 (8 ∷ 0 ∷ []) (header 0 0 277 120 200 0 3))) (5 ∷ [])
    ∷ tells least_store [] (download_font 5 (changed_at 24 (7 ∷ []) (header 0 0 277 120 200 0 3))) (10 ∷ [])
    ∷ tells least_store [] (download_font 5 (changed_at 24 (8 ∷ []) (header 0 0 277 120 200 0 3))) (5 ∷ [])
    ∷ tells least_store [] (download_font 5 (changed_at 24 (249 ∷ []) (header 0 0 277 120 200 0 3))) (10 ∷ [])
    ∷ tells least_store [] (download_font 5 (changed_at 24 (248 ∷ []) (header 0 0 277 120 200 0 3))) (5 ∷ [])
    ∷ []

-- a first block of class 1, 10 x 1 dots, without data
unfoldable pub empty_block : List ℕ
empty_block = 4 ∷ 0 ∷ 14 ∷ 1 ∷ 0 ∷ 0 ∷ 0 ∷ 0 ∷ 0 ∷ 0 ∷ 0 ∷ 10 ∷ 0 ∷ 1 ∷ 0 ∷ 0 ∷ []

unfoldable pub descriptor_cases : List Answered
descriptor_cases =
    -- "descriptor size (2) 14 and class (3) 1 or 2, else 4"
    tells one_font (A ∷ []) (download_character 5 65 (changed_at 2 (13 ∷ []) empty_block)) (4 ∷ 0 ∷ 0 ∷ 0 ∷ [])
    ∷ tells one_font (A ∷ []) (download_character 5 65 (changed_at 2 (15 ∷ []) empty_block)) (4 ∷ 0 ∷ 0 ∷ 0 ∷ [])
    ∷ tells one_font (A ∷ []) (download_character 5 65 (changed_at 3 (0 ∷ []) empty_block)) (4 ∷ 0 ∷ 0 ∷ 0 ∷ [])
    ∷ tells one_font (A ∷ []) (download_character 5 65 (changed_at 3 (2 ∷ []) empty_block)) (10 ∷ 0 ∷ 0 ∷ 0 ∷ [])
    ∷ tells one_font (A ∷ []) (download_character 5 65 (changed_at 3 (3 ∷ []) empty_block)) (4 ∷ 0 ∷ 0 ∷ 0 ∷ [])
    -- "orientation (4) the font's"
    ∷ tells one_font (A ∷ []) (download_character 5 65 (changed_at 4 (1 ∷ []) empty_block)) (5 ∷ 0 ∷ 0 ∷ 0 ∷ [])
    -- "left (6) and top offset (8), signed, -16,384..16,384"
    ∷ tells one_font (A ∷ []) (download_character 5 65 (changed_at 6 (64 ∷ 0 ∷ []) empty_block)) (10 ∷ 0 ∷ 0 ∷ 0 ∷ [])
    ∷ tells one_font (A ∷ []) (download_character 5 65 (changed_at 6 (64 ∷ 1 ∷ []) empty_block)) (5 ∷ 0 ∷ 0 ∷ 0 ∷ [])
    ∷ tells one_font (A ∷ []) (download_character 5 65 (changed_at 6 (192 ∷ 0 ∷ []) empty_block)) (10 ∷ 0 ∷ 0 ∷ 0 ∷ [])
    ∷ tells one_font (A ∷ []) (download_character 5 65 (changed_at 6 (191 ∷ 255 ∷ []) empty_block)) (5 ∷ 0 ∷ 0 ∷ 0 ∷ [])
    ∷ tells one_font (A ∷ []) (download_character 5 65 (changed_at 8 (64 ∷ 0 ∷ []) empty_block)) (10 ∷ 0 ∷ 0 ∷ 0 ∷ [])
    ∷ tells one_font (A ∷ []) (download_character 5 65 (changed_at 8 (64 ∷ 1 ∷ []) empty_block)) (5 ∷ 0 ∷ 0 ∷ 0 ∷ [])
    ∷ tells one_font (A ∷ []) (download_character 5 65 (changed_at 8 (192 ∷ 0 ∷ []) empty_block)) (10 ∷ 0 ∷ 0 ∷ 0 ∷ [])
    ∷ tells one_font (A ∷ []) (download_character 5 65 (changed_at 8 (191 ∷ 255 ∷ []) empty_block)) (5 ∷ 0 ∷ 0 ∷ 0 ∷ [])
    -- "width (10) and height (12) 1..16,384"
    ∷ tells one_font (A ∷ []) (download_character 5 65 (changed_at 10 (0 ∷ 0 ∷ []) empty_block)) (5 ∷ 0 ∷ 0 ∷ 0 ∷ [])
    ∷ tells one_font (A ∷ []) (download_character 5 65 (changed_at 10 (64 ∷ 0 ∷ []) empty_block)) (10 ∷ 0 ∷ 0 ∷ 0 ∷ [])
    ∷ tells one_font (A ∷ []) (download_character 5 65 (changed_at 10 (64 ∷ 1 ∷ []) empty_block)) (5 ∷ 0 ∷ 0 ∷ 0 ∷ [])
    ∷ tells one_font (A ∷ []) (download_character 5 65 (changed_at 12 (0 ∷ 0 ∷ []) empty_block)) (5 ∷ 0 ∷ 0 ∷ 0 ∷ [])
    ∷ tells one_font (A ∷ []) (download_character 5 65 (changed_at 12 (64 ∷ 0 ∷ []) empty_block)) (10 ∷ 0 ∷ 0 ∷ 0 ∷ [])
    ∷ tells one_font (A ∷ []) (download_character 5 65 (changed_at 12 (64 ∷ 1 ∷ []) empty_block)) (5 ∷ 0 ∷ 0 ∷ 0 ∷ [])
    -- "above 32,768 bytes in all is 9": 16,384 rows of 16 dots, and of 17
    ∷ tells one_font (A ∷ []) (download_character 5 65 (changed_at 10 (0 ∷ 16 ∷ 64 ∷ 0 ∷ []) empty_block)) (10 ∷ 0 ∷ 0 ∷ 0 ∷ [])
    ∷ tells one_font (A ∷ []) (download_character 5 65 (changed_at 10 (0 ∷ 17 ∷ 64 ∷ 0 ∷ []) empty_block)) (9 ∷ 0 ∷ 0 ∷ 0 ∷ [])
    ∷ []

-- the claims
abbrev pub KeptAsSent : Type 0
KeptAsSent = AllHold kept_cases

abbrev pub ChecksDecide : Type 0
ChecksDecide = AllTold check_cases

abbrev pub FieldsLimited : Type 0
FieldsLimited = AllTold header_cases × AllTold descriptor_cases
