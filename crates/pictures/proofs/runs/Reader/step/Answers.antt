use Rattle.pictures.proofs.Passing.{step_run_lem, step_finished, step_count}
use Rattle.std.proofs.Common.{Ok, sym, ap, ◌∙◌}
use Rattle.pictures.proofs.runs.Reader.step.Goals as goal

pub returns-then-is_at_run : goal.returns-then-is_at_run
returns-then-is_at_run c = c.run_in.ensures ∙ rw (c.is_black.ensures, c.filled.ensures) (sym (step_run_lem _ _ _ _ (sym c.is_at_run.ensures ∙ c.if-is_at_run.true)))

pub returns-then-is_finished : goal.returns-then-is_finished
returns-then-is_finished c = sym (step_finished _ _ _ _ (sym c.is_finished.ensures ∙ c.if-is_finished.true))

pub returns : goal.returns
returns c = ap Ok c.count.ensures ∙ sym (step_count _ _ _ _ (sym c.is_at_run.ensures ∙ c.if-is_at_run.false) (sym c.is_finished.ensures ∙ c.if-is_finished.false))
