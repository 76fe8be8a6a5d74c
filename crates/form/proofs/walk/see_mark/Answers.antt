use mathlib.Core.Path.{sym}
use Rattle.form.specs.Model.{mark_in}
use Rattle.form.proofs.Inspects.{seen_shut, seen_zero, seen_on, seen_font, seen_code, seen_open}
use native.Mathlib.Omega.{arith}
use Rattle.form.proofs.walk.see_mark.Goals as goal

pub returns-then-font-code-eq0 : goal.returns-then-font-code-eq0
returns-then-font-code-eq0 c = sym (seen_shut (mark_in c.args.s.now) (omega arith) (omega arith) (omega arith))

pub returns-then-on-eq0 : goal.returns-then-on-eq0
returns-then-on-eq0 c = sym (seen_zero (mark_in c.args.s.now) (omega arith) (omega arith))

pub returns-then-on-ne1 : goal.returns-then-on-ne1
returns-then-on-ne1 c = sym (seen_on (mark_in c.args.s.now) (λ e. omega arith) (λ e. omega arith))

pub returns-then-font-gt-LAST_FONT : goal.returns-then-font-gt-LAST_FONT
returns-then-font-gt-LAST_FONT c = sym (seen_font (mark_in c.args.s.now) (omega arith) (omega arith))

pub returns-then-code-gt-LAST_CODE : goal.returns-then-code-gt-LAST_CODE
returns-then-code-gt-LAST_CODE c = sym (seen_code (mark_in c.args.s.now) (omega arith) (omega arith) (omega arith))

pub returns : goal.returns
returns c = rw (c.le16-font.ensures.0, c.le16-code.ensures.0) (sym (seen_open (mark_in c.args.s.now) (omega arith) (omega arith) (omega arith)))
