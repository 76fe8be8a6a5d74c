use mathlib.Core.Path.{◌≡◌, refl, sym, ◌∙◌}
use mathlib.Core.Bool.{Bool, true, false, not}
use Rattle.std.specs.Prelude.{is_some, unwrap_or}
use Rattle.form.proofs.Inspects.{surveyed_run, surveyed_broken}
use Rattle.form.proofs.walk.check_records.Goals as goal

pub returns-in_err-end : goal.returns-in_err-end
returns-in_err-end c =
    let a = c.args in
    c.from_residual.ensures ∙ sym (surveyed_broken a.font (unwrap_or a.opened 0) (is_some a.opened) _ (rw c.unwrap_or.ensures at (sym c.survey.ensures ∙ c.in_err-end.was)))

twice : (b : Bool) → not (not b) ≡ b
twice true = refl
twice false = refl

pub returns-then-is_none-marked : goal.returns-then-is_none-marked
returns-then-is_none-marked c =
    let a = c.args in
    sym (surveyed_run a.font (unwrap_or a.opened 0) (is_some a.opened) _ _ _ (rw c.unwrap_or.ensures at (sym c.survey.ensures ∙ c.in_ok-end.was)) ∙ rw (c.is_none.ensures, twice c.is_none.result, c.if-is_none-marked.true))

pub returns-else-is_none-marked : goal.returns-else-is_none-marked
returns-else-is_none-marked c =
    let a = c.args in
    sym (surveyed_run a.font (unwrap_or a.opened 0) (is_some a.opened) _ _ _ (rw c.unwrap_or.ensures at (sym c.survey.ensures ∙ c.in_ok-end.was)) ∙ rw (c.is_none.ensures, twice c.is_none.result, c.if-is_none-marked.false))
