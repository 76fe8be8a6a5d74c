use Rattle.std.proofs.Common.{sym, ◌∙◌, zero-le, arith}
use Rattle.pictures.proofs.Packing.{white_row_lem, same_pack}
use Rattle.pictures.proofs.Lines.{rows_past, first_here}
use Rattle.pictures.proofs.compressed.draw_runs_row.Goals as goal

pub returns-in-Some : goal.returns-in-Some
returns-in-Some c =
    c.draw_line.ensures.out_after ∙ same_pack (omega arith) (sym (first_here c.args.width _ _ _ c.in-Some.ensures.cases.0 0 zero-le) ∙ c.seek.ensures)

pub returns-in-None : goal.returns-in-None
returns-in-None c =
    white_row_lem (c.fill.ensures.after (λ y e. e)) (omega arith) (sym (rows_past c.args.width c.seek.result.now 0 0 (omega (arith, c.in-None.ensures.cases))) ∙ c.seek.ensures)
