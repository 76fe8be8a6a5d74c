use Rattle.figures.proofs.Texts.{wrote_not, wrote_table}
use Rattle.figures.proofs.table.write_table.Goals as goal

pub returns-then-add_figures-ne0-clause-wrote : goal.returns-then-add_figures-ne0-clause-wrote
returns-then-add_figures-ne0-clause-wrote c =
    wrote_not _ _ _ (λ i. (c.type_inv.input i).fits) c.add_figures.ensures.value c.add_figures.ensures.figures_after c.if-add_figures-ne0.true _ _ _ c.requires c.write_bytes.ensures

pub returns-clause-wrote : goal.returns-clause-wrote
returns-clause-wrote c =
    wrote_table _ _ _ (λ i. (c.type_inv.input i).fits) c.add_figures.ensures.value c.add_figures.ensures.figures_after c.if-add_figures-ne0.false _ _ _ _ _ c.requires
    c.write_bytes-start.ensures c.write_lines.ensures
