use Rattle.store.proofs.Cursors.{opened_points}
use Rattle.form.proofs.Ready.{not_store_lem}
use Rattle.store.specs.Known.{Opening}
use mathlib.Core.Path.{sym, ◌∙◌}
use Rattle.store.proofs.known.open_store.Goals as goal

pub returns-in_err-p : goal.returns-in_err-p
unfolding Opening
returns-in_err-p c = rw c.from_residual.ensures (not_store_lem 0 0 _ (sym c.inspect.ensures ∙ c.in_err-p.was))

pub returns : goal.returns
unfolding Opening
returns c = opened_points _ _ (sym c.inspect.ensures ∙ c.in_ok-p.was)
