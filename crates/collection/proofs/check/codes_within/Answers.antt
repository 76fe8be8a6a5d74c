use Rattle.collection.proofs.Checking.{codes_start, codes_next, codes_fail}
use native.Mathlib.Omega.{arith}
use mathlib.Core.Path.{sym, ◌∙◌}
use Rattle.collection.proofs.check.codes_within.Goals as goal

pub loop-code-init : goal.loop-code-init
loop-code-init c = codes_start c.args.b.now c.args.most

pub returns-then-not-code_within : goal.returns-then-not-code_within
returns-then-not-code_within c = sym (codes_fail c.args.b.now c.args.most c.loop-code.code 256 c.loop-code-test.true (sym c.code_within.ensures ∙ c.if-not-code_within.true))

pub loop-code-preserved : goal.loop-code-preserved
loop-code-preserved c = codes_next c.args.b.now c.args.most c.loop-code.code c.loop-code.invariant (sym c.code_within.ensures ∙ c.if-not-code_within.false)
