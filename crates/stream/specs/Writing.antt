-- Document 01, "The stream": the bytes of the commands as they are written.
use Rattle.std.specs.Prelude.{ℕ, List, [], ◌∷◌, ◌++◌, length}
use Rattle.stream.specs.Digits.{decimal_of}
use Rattle.stream.specs.declared.writing.CommandHead.{CommandHead}
use Rattle.stream.specs.declared.writing.CommandHead.TheVariants.{SetFont, SetCode, FontBlock, CharacterBlock}

-- ESC, two bytes, a number and a letter
unfoldable pub spelling : ℕ → ℕ → ℕ → ℕ → List ℕ
spelling second third n letter = 27 ∷ second ∷ third ∷ (decimal_of n ++ (letter ∷ []))

-- "ESC *c#D (font number)"
unfoldable pub set_font : ℕ → List ℕ
set_font n = spelling 42 99 n 68

-- "ESC *c#E (code)"
unfoldable pub set_code : ℕ → List ℕ
set_code n = spelling 42 99 n 69

-- "ESC )s#W and a font block", of n bytes
unfoldable pub font_block_head : ℕ → List ℕ
font_block_head n = spelling 41 115 n 87

unfoldable pub font_block_command : List ℕ → List ℕ
font_block_command b = font_block_head (length b) ++ b

-- "ESC (s#W and a character block", of n bytes
unfoldable pub character_block_head : ℕ → List ℕ
character_block_head n = spelling 40 115 n 87

unfoldable pub character_block_command : List ℕ → List ℕ
character_block_command b = character_block_head (length b) ++ b

-- each of them, by what it is for
abbrev pub command_head : CommandHead → ℕ → List ℕ
command_head SetFont n = set_font n
command_head SetCode n = set_code n
command_head FontBlock n = font_block_head n
command_head CharacterBlock n = character_block_head n

-- with bytes behind it, of which it has the number: so a font block's command is, and a character block's
abbrev pub command_of : CommandHead → List ℕ → List ℕ
command_of head b = command_head head (length b) ++ b
