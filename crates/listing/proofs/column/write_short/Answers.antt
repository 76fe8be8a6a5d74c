use native.Mathlib.Omega.{arith}
use Rattle.text.proofs.Writes.{column_short}
use Rattle.listing.proofs.column.write_short.Goals as goal

pub write_column-requires : goal.write_column-requires
write_column-requires c = omega (arith, c.requires.1, column_short 4 c.args.n c.args.after (omega (arith, c.requires.0)))

pub returns-clause-upper_bound : goal.returns-clause-upper_bound
returns-clause-upper_bound c = omega (arith, c.write_column.ensures.place, column_short 4 c.args.n c.args.after (omega (arith, c.requires.0)))
