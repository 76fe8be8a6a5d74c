use Rattle.std.proofs.Common.{Ok, ap, ◌∙◌}
use Rattle.pictures.proofs.runs.Reader.run_in.Goals as goal

pub returns-in-Over : goal.returns-in-Over
returns-in-Over c = rw (← c.fill.ensures, c.in-Over.is)

pub returns-in-Whole : goal.returns-in-Whole
returns-in-Whole c = ap Ok c.end_row.ensures ∙ rw (← c.fill.ensures, c.in-Whole.is)

pub returns-in-Part : goal.returns-in-Part
returns-in-Part c = ap Ok c.at_run.ensures ∙ rw (← c.fill.ensures, c.in-Part.is)
