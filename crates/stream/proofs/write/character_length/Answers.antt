use Rattle.stream.proofs.Writes.{character_length_lem}
use native.Mathlib.Omega.{arith}
use Rattle.stream.proofs.write.character_length.Goals as goal

pub returns : goal.returns
returns c = (λ b e. character_length_lem _ _ _ b c.command_length.ensures.0 (c.blocks_length.ensures.0 b e), omega (arith, c.command_length.ensures.1, c.blocks_length.ensures.1))
