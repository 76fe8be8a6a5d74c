use native.Mathlib.Omega.{arith}
use Rattle.figures.proofs.Texts.{wrote_lacking, wrote_held}
use Rattle.figures.proofs.lines.write_code.Goals as goal

pub returns-then-f-eq0-clause-wrote : goal.returns-then-f-eq0-clause-wrote
returns-then-f-eq0-clause-wrote c = wrote_lacking _ _ _ _ _ c.figure_of-f.ensures c.if-f-eq0.true (omega (arith, c.requires.0))

pub returns-clause-wrote : goal.returns-clause-wrote
returns-clause-wrote c = wrote_held _ _ _ _ _ _ _ c.figure_of-f.ensures c.if-f-eq0.false c.write_line.ensures.wrote
