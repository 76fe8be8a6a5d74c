-- Document 01, "The stream": what blocks are for, what is a whole command, and the bytes of a font that is written. All computed.
use Rattle.std.specs.Prelude.{List, [], ◌∷◌, ◌++◌, ℕ, replicate}
use Rattle.stream.specs.Writing.{set_font, set_code, font_block_command, character_block_command}
use Rattle.marlinfold.specs.Calls.{tell_font, tell_character, write_font, read_stream}
use Rattle.marlinfold.specs.Trials.{header, A, first_block, sending, Trial, gives, AllHold}
use Rattle.marlinfold.specs.Occurrences.{one_font, one_character, Answered, tells, AllTold}
use Rattle.cases.specs.StoreCases.{told_as, not_told}

-- the blocks of A and of a character of it
unfoldable pub block_of_a : List ℕ
block_of_a = font_block_command (header 0 0 277 120 200 0 3)

unfoldable pub block_of_letter : List ℕ
block_of_letter = character_block_command (first_block 10 1 (0 ∷ 10 ∷ []))

unfoldable pub stream_cases : List Answered
stream_cases =
    -- "out of range counts as refused with 2 and changes nothing": the font number and the code before it still hold
    tells one_font (read_stream (set_font 5 ++ (set_font 32768 ++ block_of_a)) ∷ []) (tell_font 5 (replicate 68 0)) (0 ∷ 0 ∷ [])
    ∷ tells one_character (A ∷ read_stream (set_code 65 ++ (set_font 5 ++ (set_code 256 ++ block_of_letter))) ∷ []) (tell_character 5 65 (replicate 16 0)) (0 ∷ 2 ∷ [])
    -- "Number and code start at 0"
    ∷ tells one_character (read_stream (block_of_a ++ block_of_letter) ∷ []) (tell_character 0 0 (replicate 16 0)) (0 ∷ 2 ∷ [])
    -- "# is one to five digits": none, 00005, and 000005 before D
    ∷ tells one_font [] (read_stream (27 ∷ 42 ∷ 99 ∷ 68 ∷ [])) (13 ∷ 0 ∷ 0 ∷ 0 ∷ 0 ∷ 0 ∷ 0 ∷ [])
    ∷ tells one_font [] (read_stream (27 ∷ 42 ∷ 99 ∷ 48 ∷ 48 ∷ 48 ∷ 48 ∷ 53 ∷ 68 ∷ [])) (0 ∷ 1 ∷ 0 ∷ 0 ∷ 0 ∷ 0 ∷ 0 ∷ [])
    ∷ tells one_font [] (read_stream (27 ∷ 42 ∷ 99 ∷ 48 ∷ 48 ∷ 48 ∷ 48 ∷ 48 ∷ 53 ∷ 68 ∷ [])) (13 ∷ 0 ∷ 0 ∷ 0 ∷ 0 ∷ 0 ∷ 0 ∷ [])
    -- an empty block is a whole command, and refused
    ∷ tells one_font [] (read_stream (27 ∷ 41 ∷ 115 ∷ 48 ∷ 87 ∷ [])) (0 ∷ 0 ∷ 1 ∷ 0 ∷ 0 ∷ 0 ∷ 0 ∷ [])
    -- "A byte other than ESC where a command should begin is 13 at its own place. A command with a wrong byte .. is 13 at its ESC."
    ∷ tells one_font [] (read_stream (set_font 5 ++ (32 ∷ []))) (13 ∷ 1 ∷ 0 ∷ 5 ∷ 0 ∷ 0 ∷ 0 ∷ [])
    ∷ tells one_font [] (read_stream (set_font 5 ++ (27 ∷ 42 ∷ 99 ∷ 53 ∷ 70 ∷ []))) (13 ∷ 1 ∷ 0 ∷ 5 ∷ 0 ∷ 0 ∷ 0 ∷ [])
    ∷ []

-- "Writing a font: D, header (64 bytes), then per rising code E, a first block": A and its character, 105 bytes
unfoldable pub written_bytes : List ℕ
written_bytes =
    27 ∷ 42 ∷ 99 ∷ 53 ∷ 68
    ∷ 27 ∷ 41 ∷ 115 ∷ 54 ∷ 52 ∷ 87 ∷ 0 ∷ 64 ∷ 0 ∷ 0 ∷ 0 ∷ 0 ∷ 0 ∷ 15 ∷ 0 ∷ 20 ∷ 0 ∷ 20 ∷ 0 ∷ 0 ∷ 1 ∷ 21 ∷ 0 ∷ 120 ∷ 0 ∷ 200 ∷ 0 ∷ 0 ∷ 0 ∷ 0 ∷ 0 ∷ 3
    ∷ (replicate 38 0
    ++ (27 ∷ 42 ∷ 99 ∷ 54 ∷ 53 ∷ 69
    ∷ 27 ∷ 40 ∷ 115 ∷ 49 ∷ 56 ∷ 87 ∷ 4 ∷ 0 ∷ 14 ∷ 2 ∷ 0 ∷ 0 ∷ 0 ∷ 0 ∷ 0 ∷ 0 ∷ 0 ∷ 10 ∷ 0 ∷ 1 ∷ 0 ∷ 0 ∷ 0 ∷ 10 ∷ []))

unfoldable pub write_cases : List Trial
write_cases =
    gives (A ∷ sending 10 1 (0 ∷ 10 ∷ []) ∷ []) (write_font 5 (replicate 106 7)) (told_as 105 (written_bytes ++ (7 ∷ [])))
    ∷ gives (A ∷ sending 10 1 (0 ∷ 10 ∷ []) ∷ []) (write_font 5 (replicate 105 7)) (told_as 105 written_bytes)
    ∷ gives (A ∷ sending 10 1 (0 ∷ 10 ∷ []) ∷ []) (write_font 5 (replicate 104 7)) (not_told 12 (replicate 104 7))
    ∷ []

-- the claims
abbrev pub StreamsRead : Type 0
StreamsRead = AllTold stream_cases

abbrev pub FontsWritten : Type 0
FontsWritten = AllHold write_cases
