-- Demand 1: each number that is listed for a call occurs, so that none is listed in vain; one table, computed. A second one has each number that a call
-- can answer, 0 too, and a third one character blocks and streams with all their numbers.
use Rattle.std.specs.Prelude.{ℕ, zero, suc, ◌+◌, ◌-◌, ◌≡◌, List, [], ◌∷◌, ◌++◌, Bool, true, false, cond, eqb, replicate}
use Rattle.form.specs.Layout.{least_store, mark_record, font_record, character_record}
use Rattle.stream.specs.Writing.{set_font, set_code, font_block_command, character_block_command}
use Rattle.marlinfold.specs.Calls.{Call, make_fresh, download_font, download_character, remove_font, remove_character, choose_font, tell_font, tell_character, draw_row, draw_picture, write_font, read_stream, choose_sheet, turn_picture, check_profile, write_profiled, choose_from_two, add_figures, salvage_stream, Outcome, outcome}
use Rattle.marlinfold.specs.Demands.{listed}
use Rattle.marlinfold.specs.Trials.{header, A, request_with, asks, first_block, sending, plain_letter, spine, store_after}

-- the calls by the order in which documents 01 and 02 name them
unfoldable pub kind : Call → ℕ
kind make_fresh = 1
kind (download_font n b) = 2
kind (download_character n c b) = 3
kind (remove_font n) = 4
kind (remove_character n c) = 5
kind (choose_font r) = 6
kind (tell_font n out) = 7
kind (tell_character n c out) = 8
kind (draw_row n c row out) = 9
kind (draw_picture n c out) = 10
kind (write_font n out) = 11
kind (read_stream b) = 12
kind (choose_sheet rs out) = 13
kind (turn_picture t w h pic out) = 14
kind (check_profile n) = 15
kind (write_profiled n out) = 16
kind (choose_from_two p t r) = 17
kind (add_figures b) = 18
kind (salvage_stream b list) = 19

-- a call after others on a buffer of so many bytes, made fresh if it could be (none can be of 0 bytes), and the number that it refuses with
pub record Occurrence : Type 0 where
  pub size : ℕ
  pub before : List Call
  pub call : Call
  pub number : ℕ

unfoldable pub at : ℕ → List Call → Call → ℕ → Occurrence
at size cs c k = record { size = size; before = cs; call = c; number = k }

-- A, and a character of it
unfoldable pub lettered_font : List Call
lettered_font = A ∷ sending 10 1 (0 ∷ 10 ∷ []) ∷ []

-- the lengths of a store that a font fills, and of one that it fills with that character
abbrev pub one_font : ℕ
one_font = mark_record + font_record

abbrev pub one_character : ℕ
one_character = one_font + character_record + 2

-- W-207: one row of 8 dots for each of k codes of A from c on, delta X as A's pitch
unfoldable pub plain_characters : ℕ → ℕ → List Call
plain_characters c zero = []
plain_characters c (suc k) = download_character 5 c (4 ∷ 0 ∷ 14 ∷ 1 ∷ 0 ∷ 0 ∷ 0 ∷ 0 ∷ 0 ∷ 0 ∷ 0 ∷ 8 ∷ 0 ∷ 1 ∷ 0 ∷ 120 ∷ 255 ∷ []) ∷ plain_characters (c + 1) k

unfoldable pub occurrences : List Occurrence
occurrences =
    at (least_store - 1) [] make_fresh 1
    ∷ at 0 [] A 1
    ∷ at one_font [] (download_font 32768 []) 2
    ∷ at one_font [] (download_font 5 []) 3
    ∷ at one_font [] (download_font 5 (replicate 64 1)) 4
    ∷ at one_font [] (download_font 5 (0 ∷ 64 ∷ 0 ∷ 3 ∷ replicate 60 0)) 5
    -- W-206: "the 90-byte case becomes 94 and 93": in 93 bytes there is no room for a font, in 94 there is, and telling it asks for an output
    ∷ at 93 [] A 10
    ∷ at 0 [] (download_character 5 65 []) 1
    ∷ at one_font [] (download_character 5 256 []) 2
    ∷ at one_font [] (download_character 5 65 []) 3
    ∷ at one_font [] (download_character 5 65 (4 ∷ 1 ∷ [])) 6
    ∷ at one_font (A ∷ []) (download_character 5 65 (0 ∷ 0 ∷ [])) 4
    ∷ at one_font (A ∷ []) (sending 0 1 []) 5
    ∷ at one_font (A ∷ []) (sending 1024 257 []) 9
    ∷ at one_font (A ∷ []) (download_character 5 65 (4 ∷ 1 ∷ [])) 7
    ∷ at 0 [] (remove_font 5) 1
    ∷ at least_store [] (remove_font 32768) 2
    ∷ at least_store [] (remove_font 5) 6
    ∷ at 0 [] (remove_character 5 65) 1
    ∷ at least_store [] (remove_character 5 256) 2
    ∷ at least_store [] (remove_character 5 65) 6
    ∷ at one_font (A ∷ []) (remove_character 5 65) 7
    ∷ at 0 [] (asks 277 1000 0 0) 1
    ∷ at least_store [] (asks 2048 1000 0 0) 2
    ∷ at least_store [] (asks 277 1000 0 0) 11
    ∷ at 0 [] (tell_font 5 []) 1
    ∷ at least_store [] (tell_font 32768 []) 2
    ∷ at least_store [] (tell_font 5 []) 6
    ∷ at 94 (A ∷ []) (tell_font 5 []) 12
    ∷ at 0 [] (tell_character 5 65 []) 1
    ∷ at least_store [] (tell_character 5 256 []) 2
    ∷ at least_store [] (tell_character 5 65 []) 6
    ∷ at one_font (A ∷ []) (tell_character 5 65 []) 7
    ∷ at one_character lettered_font (tell_character 5 65 []) 12
    ∷ at 0 [] (draw_row 5 65 0 []) 1
    ∷ at one_character lettered_font (draw_row 5 65 1 []) 2
    ∷ at least_store [] (draw_row 5 65 0 []) 6
    ∷ at one_font (A ∷ []) (draw_row 5 65 0 []) 7
    ∷ at one_character lettered_font (draw_row 5 65 0 []) 12
    ∷ at 0 [] (draw_picture 5 65 []) 1
    ∷ at least_store [] (draw_picture 5 256 []) 2
    ∷ at least_store [] (draw_picture 5 65 []) 6
    ∷ at one_font (A ∷ []) (draw_picture 5 65 []) 7
    ∷ at one_character lettered_font (draw_picture 5 65 []) 12
    ∷ at 0 [] (write_font 5 []) 1
    ∷ at least_store [] (write_font 32768 []) 2
    ∷ at least_store [] (write_font 5 []) 6
    ∷ at one_font (A ∷ []) (write_font 5 []) 12
    ∷ at 0 [] (read_stream []) 1
    ∷ at 0 [] (choose_sheet [] []) 1
    ∷ at least_store [] (choose_sheet (replicate 65 (request_with 277 1000 0 0)) []) 2
    ∷ at least_store [] (choose_sheet (request_with 277 1000 0 0 ∷ []) []) 12
    ∷ at 0 [] (turn_picture 4 1 1 (128 ∷ []) (0 ∷ [])) 2
    ∷ at 0 [] (turn_picture 1 1 1 (128 ∷ []) []) 12
    ∷ at 0 [] (check_profile 5) 1
    ∷ at least_store [] (check_profile 32768) 2
    ∷ at least_store [] (check_profile 5) 6
    ∷ at 0 [] (write_profiled 5 []) 1
    ∷ at least_store [] (write_profiled 32768 []) 2
    ∷ at least_store [] (write_profiled 5 []) 6
    ∷ at one_font (A ∷ []) (write_profiled 5 []) 14
    ∷ at 2700 (A ∷ plain_characters 32 96) (write_profiled 5 []) 12
    ∷ at 0 [] (choose_from_two true (store_after one_font (A ∷ [])) (request_with 277 1000 0 0)) 1
    ∷ at least_store [] (choose_from_two true (store_after least_store []) (request_with 2048 1000 0 0)) 2
    ∷ at least_store [] (choose_from_two false (store_after least_store []) (request_with 277 1000 0 0)) 11
    ∷ at 0 [] (add_figures []) 1
    ∷ at least_store [] (add_figures []) 2
    ∷ at 0 [] (salvage_stream [] []) 1
    ∷ []

abbrev pub AllOccur : List Occurrence → Type 0
AllOccur [] = Unit {0}
AllOccur (o ∷ l) = ((outcome o.call (store_after o.size o.before)).refusal ≡ o.number) × AllOccur l

-- x before a list, if the test holds
unfoldable pub before_if : Bool → ℕ → List ℕ → List ℕ
before_if true x l = x ∷ l
before_if false x l = l

-- the numbers that calls of a kind refuse with in the table
unfoldable pub numbers_of : ℕ → List Occurrence → List ℕ
numbers_of k [] = []
numbers_of k (o ∷ l) = before_if (eqb (kind o.call) k) o.number (numbers_of k l)

-- the claim: each line of the table is so, and its numbers for a call are just those that are listed for it
abbrev pub ListedOccur : Type 0
ListedOccur = AllOccur occurrences × ((c : Call) → numbers_of (kind c) occurrences ≡ listed c)

-- ── each number that a call can answer
-- a call on a buffer, and the number that it answers, 0 for done
pub record NumberGiven : Type 0 where
  pub buffer : List ℕ
  pub call : Call
  pub number : ℕ

unfoldable pub on : List ℕ → Call → ℕ → NumberGiven
on s c k = record { buffer = s; call = c; number = k }

-- after others on a buffer of so many bytes, made fresh if it could be (none can be of 0 bytes)
unfoldable pub given : ℕ → List Call → Call → ℕ → NumberGiven
given size cs c k = on (store_after size cs) c k

-- two characters of A 10 dots wide with a run past the width: in row 2, after a row that is drawn twice; and in row 0, at the first run
-- of a row with 3 repeats
unfoldable pub bad_row : List ℕ
bad_row = first_block 10 4 (1 ∷ 10 ∷ 0 ∷ 4 ∷ 7 ∷ [])

unfoldable pub bad_start : List ℕ
bad_start = first_block 10 4 (3 ∷ 11 ∷ [])

-- W-210: into figures of zeros, one store is added
unfoldable pub figures_rows : List NumberGiven
figures_rows =
    given least_store [] (add_figures (replicate 14344 0)) 0
    ∷ given 0 [] (add_figures []) 1
    ∷ given least_store [] (add_figures []) 2
    ∷ []

unfoldable pub numbers_given : List NumberGiven
numbers_given =
    given least_store [] make_fresh 0
    ∷ given (least_store - 1) [] make_fresh 1
    ∷ given one_font [] A 0
    ∷ given 0 [] A 1
    ∷ given one_font [] (download_font 32768 []) 2
    ∷ given one_font [] (download_font 5 []) 3
    ∷ given one_font [] (download_font 5 (replicate 64 1)) 4
    ∷ given one_font [] (download_font 5 (0 ∷ 64 ∷ 0 ∷ 3 ∷ replicate 60 0)) 5
    -- W-206: "the 90-byte case becomes 94 and 93": in 93 bytes there is no room for a font, in 94 there is, and telling it asks for an output
    ∷ given 93 [] A 10
    ∷ given one_character (A ∷ []) (sending 10 1 (0 ∷ 10 ∷ [])) 0
    ∷ given 0 [] (download_character 5 65 []) 1
    ∷ given one_font [] (download_character 5 256 []) 2
    ∷ given one_font [] (download_character 5 65 []) 3
    ∷ given one_font [] (download_character 5 65 (4 ∷ 1 ∷ [])) 6
    ∷ given one_font (A ∷ []) (download_character 5 65 (0 ∷ 0 ∷ [])) 4
    ∷ given one_font (A ∷ []) (sending 0 1 []) 5
    ∷ given one_font (A ∷ []) (sending 1024 257 []) 9
    ∷ given one_font (A ∷ []) (download_character 5 65 (4 ∷ 1 ∷ [])) 7
    ∷ given one_font (A ∷ []) (download_character 5 65 bad_row) 8
    ∷ given one_font (A ∷ []) (sending 10 1 (0 ∷ 10 ∷ [])) 10
    ∷ given one_font (A ∷ []) (remove_font 5) 0
    ∷ given 0 [] (remove_font 5) 1
    ∷ given least_store [] (remove_font 32768) 2
    ∷ given least_store [] (remove_font 5) 6
    ∷ given one_character lettered_font (remove_character 5 65) 0
    ∷ given 0 [] (remove_character 5 65) 1
    ∷ given least_store [] (remove_character 5 256) 2
    ∷ given least_store [] (remove_character 5 65) 6
    ∷ given one_font (A ∷ []) (remove_character 5 65) 7
    ∷ given one_font (A ∷ []) (asks 277 1000 0 0) 0
    ∷ given 0 [] (asks 277 1000 0 0) 1
    ∷ given least_store [] (asks 2048 1000 0 0) 2
    ∷ given least_store [] (asks 277 1000 0 0) 11
    ∷ given 94 (A ∷ []) (tell_font 5 (replicate 68 0)) 0
    ∷ given 0 [] (tell_font 5 []) 1
    ∷ given least_store [] (tell_font 32768 []) 2
    ∷ given least_store [] (tell_font 5 []) 6
    ∷ given 94 (A ∷ []) (tell_font 5 []) 12
    ∷ given one_character lettered_font (tell_character 5 65 (replicate 16 0)) 0
    ∷ given 0 [] (tell_character 5 65 []) 1
    ∷ given least_store [] (tell_character 5 256 []) 2
    ∷ given least_store [] (tell_character 5 65 []) 6
    ∷ given one_font (A ∷ []) (tell_character 5 65 []) 7
    ∷ given one_character lettered_font (tell_character 5 65 []) 12
    ∷ given one_character lettered_font (draw_row 5 65 0 (0 ∷ 0 ∷ [])) 0
    ∷ given 0 [] (draw_row 5 65 0 []) 1
    ∷ given one_character lettered_font (draw_row 5 65 1 []) 2
    ∷ given least_store [] (draw_row 5 65 0 []) 6
    ∷ given one_font (A ∷ []) (draw_row 5 65 0 []) 7
    ∷ given one_character lettered_font (draw_row 5 65 0 []) 12
    ∷ given one_character lettered_font (draw_picture 5 65 (0 ∷ 0 ∷ [])) 0
    ∷ given 0 [] (draw_picture 5 65 []) 1
    ∷ given least_store [] (draw_picture 5 256 []) 2
    ∷ given least_store [] (draw_picture 5 65 []) 6
    ∷ given one_font (A ∷ []) (draw_picture 5 65 []) 7
    ∷ given one_character lettered_font (draw_picture 5 65 []) 12
    ∷ given one_font (A ∷ []) (write_font 5 (replicate 80 0)) 0
    ∷ given 0 [] (write_font 5 []) 1
    ∷ given least_store [] (write_font 32768 []) 2
    ∷ given least_store [] (write_font 5 []) 6
    ∷ given one_font (A ∷ []) (write_font 5 []) 12
    ∷ given least_store [] (read_stream []) 0
    ∷ given 0 [] (read_stream []) 1
    ∷ given least_store [] (read_stream (27 ∷ [])) 13
    ∷ given least_store [] (choose_sheet [] []) 0
    ∷ given 0 [] (choose_sheet [] []) 1
    ∷ given least_store [] (choose_sheet (replicate 65 (request_with 277 1000 0 0)) []) 2
    ∷ given least_store [] (choose_sheet (request_with 277 1000 0 0 ∷ []) []) 12
    ∷ given 0 [] (turn_picture 1 1 1 (128 ∷ []) (0 ∷ [])) 0
    ∷ given 0 [] (turn_picture 4 1 1 (128 ∷ []) (0 ∷ [])) 2
    ∷ given 0 [] (turn_picture 1 1 1 (128 ∷ []) []) 12
    ∷ given one_font (A ∷ []) (check_profile 5) 0
    ∷ given 0 [] (check_profile 5) 1
    ∷ given least_store [] (check_profile 32768) 2
    ∷ given least_store [] (check_profile 5) 6
    ∷ on (spine plain_letter (255 ∷ [])) (write_profiled 5 (replicate 3000 0)) 0
    ∷ given 0 [] (write_profiled 5 []) 1
    ∷ given least_store [] (write_profiled 32768 []) 2
    ∷ given least_store [] (write_profiled 5 []) 6
    ∷ given one_font (A ∷ []) (write_profiled 5 []) 14
    ∷ on (spine plain_letter (255 ∷ [])) (write_profiled 5 []) 12
    ∷ given one_font (A ∷ []) (choose_from_two true (store_after least_store []) (request_with 277 1000 0 0)) 0
    ∷ given 0 [] (choose_from_two true (store_after one_font (A ∷ [])) (request_with 277 1000 0 0)) 1
    ∷ given least_store [] (choose_from_two true (store_after least_store []) (request_with 2048 1000 0 0)) 2
    ∷ given least_store [] (choose_from_two false (store_after least_store []) (request_with 277 1000 0 0)) 11
    ∷ given least_store [] (salvage_stream (27 ∷ []) (replicate 16 0)) 0
    ∷ given 0 [] (salvage_stream [] []) 1
    ∷ given least_store [] (salvage_stream (27 ∷ []) []) 12
    ∷ figures_rows

abbrev pub AllGiven : List NumberGiven → Type 0
AllGiven [] = Unit {0}
AllGiven (o ∷ l) = ((outcome o.call o.buffer).refusal ≡ o.number) × AllGiven l

-- the numbers that calls of a kind answer in the table
unfoldable pub given_of : ℕ → List NumberGiven → List ℕ
given_of k [] = []
given_of k (o ∷ l) = before_if (eqb (kind o.call) k) o.number (given_of k l)

-- the numbers that demand 1 has cases of their own for: a character block's 8 and 10, a stream's 13, a salvage reading's 12
unfoldable pub own_numbers : ℕ → List ℕ
own_numbers k = cond (eqb k 3) (8 ∷ 10 ∷ []) (cond (eqb k 12) (13 ∷ []) (cond (eqb k 19) (12 ∷ []) []))

-- the claim: each line of the table is so, and its numbers for a call are just 0, those that are listed for it, and its own
abbrev pub NumbersOccur : Type 0
NumbersOccur = AllGiven numbers_given × ((c : Call) → given_of (kind c) numbers_given ≡ 0 ∷ (listed c ++ own_numbers (kind c)))

-- ── character blocks and streams, with all their numbers; W-209's three through streams too
-- the commands of a stream that send A, and then a character of it
unfoldable pub font_sent : List ℕ
font_sent = set_font 5 ++ font_block_command (header 0 0 277 120 200 0 3)

unfoldable pub character_sent : List ℕ → List ℕ
character_sent b = set_code 65 ++ character_block_command b

-- a call after others on a buffer of so many bytes, and what it answers: the refusal, then its other numbers
pub record Answered : Type 0 where
  pub size : ℕ
  pub before : List Call
  pub call : Call
  pub numbers : List ℕ

unfoldable pub tells : ℕ → List Call → Call → List ℕ → Answered
tells size cs c ks = record { size = size; before = cs; call = c; numbers = ks }

unfoldable pub own_cases : List Answered
own_cases =
    tells one_font (A ∷ []) (download_character 5 65 bad_row) (8 ∷ 2 ∷ 4 ∷ 7 ∷ [])
    ∷ tells one_font (A ∷ []) (download_character 5 65 bad_start) (8 ∷ 0 ∷ 0 ∷ 11 ∷ [])
    -- in a continuation rows count from the picture's top
    ∷ tells (one_character + 1) (A ∷ sending 10 4 (1 ∷ 10 ∷ 0 ∷ []) ∷ []) (download_character 5 65 (4 ∷ 1 ∷ 4 ∷ 7 ∷ [])) (8 ∷ 2 ∷ 4 ∷ 7 ∷ [])
    ∷ tells one_font (A ∷ []) (sending 10 1 (0 ∷ 10 ∷ [])) (10 ∷ 0 ∷ 0 ∷ 0 ∷ [])
    ∷ tells one_character (A ∷ []) (sending 10 1 (0 ∷ 10 ∷ [])) (0 ∷ 0 ∷ 0 ∷ 0 ∷ [])
    -- commands done, commands refused, the place of a 13; then the numbers of the first 8, whatever comes after it
    ∷ tells one_font [] (read_stream font_sent) (0 ∷ 2 ∷ 0 ∷ 0 ∷ 0 ∷ 0 ∷ 0 ∷ [])
    ∷ tells one_font [] (read_stream (font_sent ++ (character_sent bad_row ++ (character_sent bad_start ++ set_code 66)))) (0 ∷ 5 ∷ 2 ∷ 0 ∷ 2 ∷ 4 ∷ 7 ∷ [])
    ∷ tells one_character [] (read_stream (font_sent ++ (character_sent bad_row ++ character_sent (first_block 10 1 (0 ∷ 10 ∷ []))))) (0 ∷ 5 ∷ 1 ∷ 0 ∷ 2 ∷ 4 ∷ 7 ∷ [])
    ∷ tells one_font [] (read_stream (font_sent ++ (character_sent bad_row ++ (27 ∷ 69 ∷ [])))) (13 ∷ 3 ∷ 1 ∷ 108 ∷ 2 ∷ 4 ∷ 7 ∷ [])
    ∷ tells one_font [] (read_stream (27 ∷ [])) (13 ∷ 0 ∷ 0 ∷ 0 ∷ 0 ∷ 0 ∷ 0 ∷ [])
    -- a font number and a code out of range are refused, and change nothing
    ∷ tells one_font [] (read_stream (set_font 5 ++ (set_font 32768 ++ (set_code 256 ++ font_block_command (header 0 0 277 120 200 0 3))))) (0 ∷ 2 ∷ 2 ∷ 0 ∷ 0 ∷ 0 ∷ 0 ∷ [])
    ∷ []

abbrev pub AllTold : List Answered → Type 0
AllTold [] = Unit {0}
AllTold (o ∷ l) =
    let x : Outcome = outcome o.call (store_after o.size o.before) in
    (x.refusal ∷ x.numbers ≡ o.numbers) × AllTold l

abbrev pub OwnCasesOccur : Type 0
OwnCasesOccur = AllTold own_cases
