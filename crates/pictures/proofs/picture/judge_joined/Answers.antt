use Rattle.std.proofs.Common.{Ok, sym, ap, ◌∙◌, eq-eqb, ne_eqb, length-append}
use Rattle.pictures.specs.Picture.{judge, judge_scan}
use Rattle.pictures.proofs.Tests.{handed_on}
use Rattle.pictures.proofs.picture.judge_joined.Goals as goal

pub returns-then-class-eq-BITMAP : goal.returns-then-class-eq-BITMAP
unfolding judge
returns-then-class-eq-BITMAP c = c.judge_bitmap.ensures ∙ simp (eq-eqb _ _ c.if-class-eq-BITMAP.true, length-append)

pub returns-in_err-scan_joined : goal.returns-in_err-scan_joined
unfolding judge
returns-in_err-scan_joined c = rw (ne_eqb _ _ c.if-class-eq-BITMAP.false) (handed_on _ _ c.from_residual.ensures.1 ∙ ap judge_scan (sym c.in_err-scan_joined.was ∙ c.scan_joined.ensures))

pub returns : goal.returns
unfolding judge
returns c = ap Ok c.used.ensures ∙ rw (ne_eqb _ _ c.if-class-eq-BITMAP.false) (ap judge_scan (sym c.in_ok-scan_joined.was ∙ c.scan_joined.ensures))
