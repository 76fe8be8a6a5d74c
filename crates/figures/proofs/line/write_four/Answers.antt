use Rattle.figures.proofs.Texts.{wrote_four}
use Rattle.figures.proofs.line.write_four.Goals as goal

pub returns-clause-wrote : goal.returns-clause-wrote
returns-clause-wrote c =
    wrote_four _ _ _ _ _ _ _ _ _ _ _ _ _ _ _ c.write_number-second.ensures.wrote c.write_number-third.ensures.wrote c.write_number-fourth.ensures.wrote c.write_number.ensures.wrote
