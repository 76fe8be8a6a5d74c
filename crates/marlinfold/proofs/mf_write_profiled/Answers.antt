use mathlib.Core.Path.{sym, ap, ◌∙◌}
use Rattle.marlinfold.specs.Calls.{of_writing}
use Rattle.marlinfold.proofs.mf_write_profiled.Goals as goal

pub returns : goal.returns
returns c = ap (of_writing _) (sym (c.font_written.ensures _) ∙ c.write_profiled.ensures)
