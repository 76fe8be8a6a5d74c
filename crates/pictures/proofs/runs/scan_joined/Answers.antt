use Rattle.std.proofs.Common.{Ok, sym, ap, ◌∙◌}
use Rattle.pictures.proofs.Tests.{handed_on}
use Rattle.pictures.proofs.Scanning.{joined_as}
use Rattle.pictures.proofs.runs.scan_joined.Goals as goal

pub returns-in-Complete : goal.returns-in-Complete
returns-in-Complete c = sym (joined_as _ _ _ c.args.kept.now c.args.more.now _ (sym c.scan.ensures ∙ c.in_ok-used.was ∙ ap Ok c.in-Complete.is))

pub returns-in-Open : goal.returns-in-Open
returns-in-Open c = c.scan_from.ensures ∙ sym (joined_as _ _ _ c.args.kept.now c.args.more.now _ (sym c.scan.ensures ∙ c.in_ok-used.was ∙ ap Ok c.in-Open.is))

pub returns-in_err-used : goal.returns-in_err-used
returns-in_err-used c = handed_on _ _ c.from_residual.ensures.1 ∙ sym (joined_as _ _ _ c.args.kept.now c.args.more.now _ (sym c.scan.ensures ∙ c.in_err-used.was))
