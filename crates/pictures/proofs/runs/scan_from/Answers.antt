use Rattle.pictures.proofs.Tests.{handed_on}
use Rattle.pictures.proofs.Scanning.{scan_end}
use Rattle.pictures.proofs.Passing.{passed_done, passed_next, passed_past}
use Rattle.std.proofs.Common.{sym, ◌∙◌, add-zero, arith, rules}
use Rattle.pictures.proofs.runs.scan_from.Goals as goal

pub loop-i-init : goal.loop-i-init
loop-i-init c = (search rules, rw add-zero)

pub overflow_add-result : goal.overflow_add-result
overflow_add-result c = omega (arith, c.requires, c.pass-p.ensures.bounded)

pub returns-then-is_finished : goal.returns-then-is_finished
returns-then-is_finished c = sym (passed_done _ _ _ _ _ _ c.pass-p.ensures _ (sym c.is_finished.ensures ∙ c.if-is_finished.true)) ∙ c.loop-i.invariant.1

pub bounds-src-p : goal.bounds-src-p
bounds-src-p c = c.pass-p.ensures.within (sym c.is_finished.ensures ∙ c.if-is_finished.false)

pub returns-in_err-s : goal.returns-in_err-s
returns-in_err-s c =
    let e = sym c.is_finished.ensures ∙ c.if-is_finished.false in
    handed_on _ _ c.from_residual.ensures.1 ∙ sym (passed_past _ _ _ _ _ _ c.pass-p.ensures _ e _ (sym c.step.ensures ∙ c.in_err-s.was)) ∙ c.loop-i.invariant.1

pub overflow_add-i : goal.overflow_add-i
overflow_add-i c = omega (arith, c.pass-p.ensures.bounded)

pub loop-i-smaller : goal.loop-i-smaller
loop-i-smaller c = omega (arith, c.pass-p.ensures.ahead, c.loop-i-test.true)

pub loop-i-preserved : goal.loop-i-preserved
loop-i-preserved c =
    let e = sym c.is_finished.ensures ∙ c.if-is_finished.false in
    (omega (arith, c.pass-p.ensures.within e), sym (passed_next _ _ _ _ _ _ c.pass-p.ensures _ e _ (sym c.step.ensures ∙ c.in_ok-s.was)) ∙ c.loop-i.invariant.1)

pub overflow_add-used : goal.overflow_add-used
overflow_add-used c = omega (arith, c.requires, c.loop-i.invariant.0)

pub returns : goal.returns
returns c = c.answer.ensures _ _ ∙ sym (scan_end _ _ _ _ _ _ c.loop-i-test.false) ∙ c.loop-i.invariant.1
