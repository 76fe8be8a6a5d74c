use Rattle.figures.proofs.Texts.{wrote_line}
use Rattle.figures.proofs.line.write_line.Goals as goal

pub returns-clause-wrote : goal.returns-clause-wrote
returns-clause-wrote c = wrote_line _ _ _ _ _ _ _ _ _ c.args.f c.write_four-middle.ensures.wrote c.mean-mean.ensures c.rest-rest.ensures c.write_four.ensures.wrote
