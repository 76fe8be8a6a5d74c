use mathlib.Core.Path.{sym, ◌∙◌}
use Rattle.form.proofs.Inspects.{inspect_not, ends_by, inspect_found}
use Rattle.form.proofs.walk.inspect.Goals as goal

pub returns-in_err-end : goal.returns-in_err-end
returns-in_err-end c = c.from_residual.ensures ∙ sym (inspect_not _ _ _ (sym c.check.ensures ∙ c.in_err-end.was))

pub places_in-requires : goal.places_in-requires
places_in-requires c =
    let p = c.requires in
    (ends_by _ _ _ (sym c.check.ensures ∙ c.in_ok-end.was), p.0, p.1)

pub returns : goal.returns
returns c = sym (inspect_found _ _ _ _ c.places_in.ensures)
