use mathlib.Core.Path.{refl, sym, ◌∙◌}
use Rattle.form.specs.Num.{◌and◌}
use Rattle.form.proofs.Fields.{zeros_turn, zeros_end}
use Rattle.form.proofs.number.all_zeros.Goals as goal

pub loop-b-init : goal.loop-b-init
unfolding ◌and◌
loop-b-init c = refl

pub loop-b-preserved : goal.loop-b-preserved
loop-b-preserved c = sym (zeros_turn c.loop-b.any c.loop-b.b-index c.args.s.now c.loop-b-test.true) ∙ c.loop-b.invariant

pub returns : goal.returns
returns c = sym (zeros_end c.loop-b.any c.loop-b.b-index c.args.s.now c.loop-b-test.false) ∙ c.loop-b.invariant
