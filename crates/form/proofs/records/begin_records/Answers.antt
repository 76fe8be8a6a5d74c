use mathlib.Core.Path.{sym, ◌∙◌}
use Rattle.form.proofs.Inspects.{not_checked, ends_by}
use Rattle.form.proofs.RecordRuns.{begun, not_begun}
use Rattle.form.proofs.records.begin_records.Goals as goal

pub returns-in_err-check : goal.returns-in_err-check
returns-in_err-check c = rw c.from_residual.ensures (not_begun _ (not_checked _ _ (sym c.check.ensures ∙ c.in_err-check.was)))

pub returns : goal.returns
returns c =
    let x = ends_by _ _ _ (sym c.check.ensures ∙ c.in_ok-check.was) in begun _ x.store x.is
