use native.Mathlib.Omega.{arith}
use Rattle.listing.specs.Line.{word_from}
use Rattle.listing.proofs.line.word.Goals as goal

pub returns : goal.returns
unfolding word_from
returns c = (rw (← c.byte.ensures.0, ← c.byte-2.ensures.0), omega (arith, c.byte.ensures.1, c.byte-2.ensures.1))
