use Rattle.std.proofs.Common.{◌∙◌}
use Rattle.pictures.proofs.runs.scan.Goals as goal

pub returns : goal.returns
returns c = c.scan_from.ensures ∙ rw c.start.ensures
