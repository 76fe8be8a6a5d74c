use Rattle.collection.proofs.Bytes.{figure_read}
use Rattle.collection.proofs.figure.figure_at.Goals as goal

pub returns : goal.returns
returns c = figure_read _ _ _ _ _ _ _ c.number_at.ensures c.number_at-2.ensures c.number_at-3.ensures c.number_at-4.ensures c.number_at-5.ensures
