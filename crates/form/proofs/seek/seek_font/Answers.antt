use mathlib.Core.Path.{sym, ap, ◌∙◌}
use Rattle.refusals.specs.Refusals.{numbered_result}
use Rattle.refusals.proofs.Numbers.{none_handed_on}
use Rattle.form.proofs.Ready.{Ready, ready, not_store_lem}
use Rattle.form.proofs.Seeks.{font_not, font_range, font_looked}
use Rattle.form.proofs.seek.seek_font.Goals as goal

pub returns-in_err-p : goal.returns-in_err-p
returns-in_err-p c =
    let m = none_handed_on _ _ _ _ (sym c.ok_or.ensures.value ∙ c.in_err-p.was) c.from_residual.ensures in
    m.1 ∙ sym (font_not _ _ (not_store_lem _ 0 _ (sym c.inspect.ensures ∙ m.0)))

-- behind the inspection
pub returns-then-font-gt-LAST_FONT_ASKED : goal.returns-then-font-gt-LAST_FONT_ASKED
returns-then-font-gt-LAST_FONT_ASKED c =
    let at_found : Ready c.args.font 0 c.args.s.now c.in_ok-p.p = ready _ 0 _ (λ i. (c.type_inv.s i).fits) c.in_ok-p.p (sym c.inspect.ensures ∙ c.in_ok-p.ensures.ok_part) in
    sym (font_range _ _ _ at_found c.if-font-gt-LAST_FONT_ASKED.true)

pub returns : goal.returns
returns c =
    let at_found : Ready c.args.font 0 c.args.s.now c.in_ok-p.p = ready _ 0 _ (λ i. (c.type_inv.s i).fits) c.in_ok-p.p (sym c.inspect.ensures ∙ c.in_ok-p.ensures.ok_part) in
    ap numbered_result c.ok_or-2.ensures.value ∙ rw c.look_up_font.ensures.0 (font_looked _ _ _ at_found c.if-font-gt-LAST_FONT_ASKED.false)
