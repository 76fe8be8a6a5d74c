use Rattle.collection.proofs.check.code_within.Goals as goal

pub returns : goal.returns
returns c = rw (← c.figure_of-f.ensures)
