use Rattle.listing.proofs.Listed.{wrote_font}
use Rattle.listing.proofs.line.write_font.Goals as goal

pub returns-clause-wrote : goal.returns-clause-wrote
returns-clause-wrote c = wrote_font _ _ _ _ _ _ _ _ c.tell_font-told.ensures c.write_line.ensures.wrote
