use Rattle.collection.proofs.Bytes.{figure_put}
use Rattle.collection.proofs.figure.put_figure.Goals as goal

pub returns : goal.returns
returns c = figure_put _ _ _ _ _ _ _ _ _ c.args.f _ _ c.requires c.put.ensures c.put-2.ensures c.put-3.ensures c.put-4.ensures c.put-5.ensures c.mean.ensures c.put-6.ensures c.rest.ensures c.put-7.ensures
