-- Document 01, "The stream": the command at a place of a stream.
use Rattle.std.specs.Prelude.{ℕ, zero, suc, ◌+◌, ◌*◌, ◌-◌, List, [], ◌∷◌, Bool, ◌&&◌, cond, length, get_or, drop, leb, eqb}
use Rattle.blocks.specs.Header.{block_limit}
use Rattle.stream.specs.declared.command.Command.{Command}
use Rattle.stream.specs.declared.command.Command.TheVariants.{SetFont, SetCode, FontBlock, CharacterBlock, Broken, End}
use Rattle.stream.specs.declared.command.NumberRead.{NumberRead}

-- the byte at a place; past the end 0, which no command has, so that a command cut by the end has a wrong byte
abbrev pub stream_byte : List ℕ → ℕ → ℕ
stream_byte b at = get_or b at 0

-- ---- "# is one to five digits"
-- '0'..'9'
abbrev pub is_digit : ℕ → Bool
is_digit b = leb 48 b && leb b 57

-- the digits that a list begins with, k at most
unfoldable pub leading_digits : ℕ → List ℕ → List ℕ
leading_digits zero b = []
leading_digits (suc k) [] = []
leading_digits (suc k) (d ∷ b) = cond (is_digit d) (d ∷ leading_digits k b) []

-- the number that digits spell behind those that spell n
unfoldable pub spelled : ℕ → List ℕ → ℕ
spelled n [] = n
spelled n (d ∷ ds) = spelled (n * 10 + (d - 48)) ds

-- the number of a command, and the place behind its digits; they stand behind ESC and two bytes
unfoldable pub number_of : List ℕ → NumberRead
number_of b = record { value = spelled 0 (leading_digits 5 (drop 3 b)); next = 3 + length (leading_digits 5 (drop 3 b)) }

abbrev pub has_digit : NumberRead → Bool
has_digit d = leb 4 d.next

-- ---- "ESC *c#D (font number), ESC *c#E (code), ESC )s#W and a font block, ESC (s#W and a character block"
-- As bytes: ESC 27, ( 40, ) 41, * 42, D 68, E 69, W 87, c 99, s 115.
-- ESC and two bytes
unfoldable pub starts_with : List ℕ → ℕ → ℕ → Bool
starts_with b second third = eqb (stream_byte b 0) 27 && (eqb (stream_byte b 1) second && eqb (stream_byte b 2) third)

-- a number, and D or E
unfoldable pub number_command : List ℕ → NumberRead → Command
number_command b d =
    cond (has_digit d)
    (cond (eqb (stream_byte b d.next) 68) (SetFont d.value (d.next + 1))
    (cond (eqb (stream_byte b d.next) 69) (SetCode d.value (d.next + 1)) Broken))
    Broken

-- a number and W, "at most 32,767", and as many bytes
unfoldable pub is_block : List ℕ → NumberRead → Bool
is_block b d = has_digit d && (eqb (stream_byte b d.next) 87 && (leb d.value block_limit && leb (d.next + 1 + d.value) (length b)))

unfoldable pub block_of : (ℕ → ℕ → Command) → List ℕ → NumberRead → Command
block_of block b d = cond (is_block b d) (block (d.next + 1) (d.next + 1 + d.value)) Broken

-- the command that a list of bytes begins with, its places counted from there
unfoldable pub command : List ℕ → Command
command b =
    cond (eqb (length b) 0) End
    (cond (starts_with b 42 99) (number_command b (number_of b))
    (cond (starts_with b 41 115) (block_of FontBlock b (number_of b))
    (cond (starts_with b 40 115) (block_of CharacterBlock b (number_of b))
    Broken)))

-- the same command in a stream where at bytes stand before it
unfoldable pub moved_by : ℕ → Command → Command
moved_by at (SetFont n e) = SetFont n (at + e)
moved_by at (SetCode n e) = SetCode n (at + e)
moved_by at (FontBlock f e) = FontBlock (at + f) (at + e)
moved_by at (CharacterBlock f e) = CharacterBlock (at + f) (at + e)
moved_by at Broken = Broken
moved_by at End = End

-- the command at a place of a stream; Broken is 13 at that place
unfoldable pub command_at : List ℕ → ℕ → Command
command_at s at = moved_by at (command (drop at s))
