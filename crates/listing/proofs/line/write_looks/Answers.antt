use Rattle.std.proofs.Common.{[]}
use Rattle.listing.proofs.Listed.{wrote_looks}
use Rattle.listing.proofs.line.write_looks.Goals as goal

pub returns-clause-wrote : goal.returns-clause-wrote
returns-clause-wrote c =
    wrote_looks _ _ _ _ _ [] _ _ _ _ 0 _ _ c.word.ensures.0 c.word-2.ensures.0 c.write_short-weight.ensures.wrote c.write_signed-face.ensures.wrote c.write_short.ensures.wrote
