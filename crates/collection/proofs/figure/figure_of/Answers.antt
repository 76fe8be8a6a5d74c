use Rattle.collection.specs.Figures.{figure_from}
use Prim.Native.Nat.{ℕ}
use mathlib.Core.Path.{ap, ◌∙◌}
use Rattle.collection.proofs.figure.figure_of.Goals as goal

pub returns : goal.returns
returns c = c.figure_at.ensures ∙ ap (λ (at : ℕ). figure_from c.args.b.now at) c.code_place.ensures
