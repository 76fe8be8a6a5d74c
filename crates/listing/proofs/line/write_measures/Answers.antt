use Rattle.listing.proofs.Listed.{wrote_measures}
use Rattle.listing.proofs.line.write_measures.Goals as goal

pub returns-clause-wrote : goal.returns-clause-wrote
returns-clause-wrote c =
    wrote_measures _ _ _ _ _ _ _ _ _ _ _ _ _ _ _ c.word_at.ensures.0 c.byte.ensures.0 c.word_at-2.ensures.0 c.word_at-3.ensures.0
    c.write_short-spacing.ensures.wrote c.write_short-pitch.ensures.wrote c.write_short-height.ensures.wrote c.write_short.ensures.wrote
