use Rattle.std.proofs.Common.{sym, ap, ◌∙◌, arith}
use Rattle.pictures.specs.declared.runs.Filled.TheVariants.{Part}
use Rattle.pictures.proofs.Passing.{fill_part, fill_whole, fill_over}
use Rattle.pictures.proofs.runs.fill.Goals as goal

pub returns-then-from-end : goal.returns-then-from-end
returns-then-from-end c = sym (fill_over c.args.width c.args.filled c.args.run (omega arith))

pub returns-then-end-from : goal.returns-then-end-from
returns-then-end-from c = sym (fill_whole c.args.width c.args.filled c.args.run (omega arith))

pub returns : goal.returns
returns c = ap Part (omega arith) ∙ sym (fill_part c.args.width c.args.filled c.args.run (omega arith))
