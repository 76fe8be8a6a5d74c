-- For the code alone: what a character is written as, from its kept bytes and its data, which stand in a row.
use Rattle.std.specs.Prelude.{ℕ, List, ◌∷◌, ◌++◌, cond, leb, length, take, drop}
use Rattle.blocks.specs.Header.{block_limit}
use Rattle.blocks.specs.Character.{character_format}
use Rattle.stream.specs.Writing.{set_code, character_block_command}
use Rattle.stream.specs.Written.{continues}

-- in one block or two
unfoldable pub blocks : List ℕ → List ℕ
blocks b = cond (leb (length b) block_limit) (character_block_command b) (character_block_command (take block_limit b) ++ character_block_command (character_format ∷ continues ∷ drop block_limit b))

-- with its code before them
unfoldable pub written_character : ℕ → List ℕ → List ℕ
written_character c b = set_code c ++ blocks b
