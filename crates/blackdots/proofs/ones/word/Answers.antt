use Rattle.std.proofs.Common.{rules}
use Rattle.blackdots.proofs.ByteOnes.{word_ones}
use Rattle.blackdots.proofs.ones.word.Goals as goal

pub returns : goal.returns
returns c = word_ones c.args.bytes.now (search rules) c.from_le_bytes.result (search rules) c.from_le_bytes.ensures
