use mathlib.Core.Path.{sym, ap, ◌∙◌}
use Rattle.salvage.specs.Salvage.{Salvaging}
use Rattle.marlinfold.specs.Calls.{of_salvage}
use Rattle.marlinfold.proofs.mf_salvage_stream.Goals as goal

pub returns : goal.returns
returns c = ap (λ (a : Salvaging). of_salvage a) (sym (c.stream_salvaged.ensures _ _) ∙ c.salvage_stream.ensures)
