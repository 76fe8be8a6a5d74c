use mathlib.Core.Path.{sym, ◌∙◌}
use native.Mathlib.Omega.{arith}
use Rattle.form.proofs.Fields.{zeros_none, zeros_more, zeros_not}
use Rattle.form.proofs.number.zeros.Goals as goal

pub returns-then-s-at : goal.returns-then-s-at
returns-then-s-at c = sym (zeros_none c.args.at c.args.s.now c.if-s-at.true)

pub split_at-requires : goal.split_at-requires
split_at-requires c = omega (arith, c.min.ensures)

pub returns-then-all_zeros : goal.returns-then-all_zeros
returns-then-all_zeros c = c.all_zeros-then-all_zeros.ensures ∙ zeros_more c.args.at c.min.result c.args.s.now _ _ c.split_at.ensures.front c.split_at.ensures.back (sym c.all_zeros.ensures ∙ c.if-all_zeros.true)

pub returns-else-all_zeros : goal.returns-else-all_zeros
returns-else-all_zeros c = c.if-all_zeros.false ∙ zeros_not c.args.at c.min.result c.args.s.now _ _ c.split_at.ensures.front c.split_at.ensures.back (sym c.all_zeros.ensures ∙ c.if-all_zeros.false)
