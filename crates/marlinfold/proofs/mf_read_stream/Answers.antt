use mathlib.Core.Path.{sym, ◌∙◌}
use Rattle.marlinfold.proofs.Outcomes.{read_by_lem}
use Rattle.marlinfold.proofs.mf_read_stream.Goals as goal

pub returns : goal.returns
returns c = read_by_lem _ (sym c.read_stream.ensures.value ∙ c.stream_read.ensures) c.read_stream.ensures.s_after
