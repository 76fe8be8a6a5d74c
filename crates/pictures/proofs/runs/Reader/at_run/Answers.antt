use Rattle.pictures.proofs.runs.Reader.at_run.Goals as goal

pub returns : goal.returns
returns c = rw (← c.place_of.ensures)
