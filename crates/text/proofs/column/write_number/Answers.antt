use native.Mathlib.Omega.{arith}
use Rattle.text.proofs.Writes.{column_short}
use Rattle.text.proofs.column.write_number.Goals as goal

pub write_column-requires : goal.write_column-requires
write_column-requires c = omega (arith, c.requires, column_short 19 c.args.n c.args.after (omega arith))

pub returns-clause-upper_bound : goal.returns-clause-upper_bound
returns-clause-upper_bound c = omega (arith, c.write_column.ensures.place, column_short 19 c.args.n c.args.after (omega arith))
