use native.Mathlib.Omega.{arith}
use Rattle.text.proofs.Writes.{column_short}
use Rattle.listing.proofs.Listed.{wrote_line}
use Rattle.listing.proofs.line.write_line.Goals as goal

pub write_column-set-requires : goal.write_column-set-requires
write_column-set-requires c = omega (arith, c.requires, column_short 9 c.args.number 32 (omega arith))

pub write_measures-style-requires : goal.write_measures-style-requires
write_measures-style-requires c =
    omega (arith, c.requires, c.write_column-set.ensures.place, c.write_column-set.auto.out, column_short 9 c.args.number 32 (omega arith))

pub write_looks-chars-requires : goal.write_looks-chars-requires
write_looks-chars-requires c =
    omega (
      arith,
      c.requires,
      c.write_measures-style.ensures.upper_bound,
      c.write_measures-style.auto.out,
      c.write_column-set.ensures.place,
      c.write_column-set.auto.out,
      column_short 9 c.args.number 32 (omega arith),
    )

pub write_column-requires : goal.write_column-requires
write_column-requires c =
    omega (
      arith,
      c.requires,
      c.write_looks-chars.ensures.upper_bound,
      c.write_looks-chars.auto.out,
      c.write_measures-style.ensures.upper_bound,
      c.write_measures-style.auto.out,
      c.write_column-set.ensures.place,
      c.write_column-set.auto.out,
      column_short 9 c.args.number 32 (omega arith),
      column_short 9 c.args.characters 10 (omega arith),
    )

pub returns-clause-wrote : goal.returns-clause-wrote
returns-clause-wrote c =
    wrote_line _ _ _ _ _ _ _ _ _ _ _ _ _ c.write_column-set.ensures c.write_measures-style.ensures.wrote c.write_looks-chars.ensures.wrote c.write_column.ensures

pub returns-clause-upper_bound : goal.returns-clause-upper_bound
returns-clause-upper_bound c =
    omega (
      arith,
      c.write_column.ensures.place,
      c.write_looks-chars.ensures.upper_bound,
      c.write_measures-style.ensures.upper_bound,
      c.write_column-set.ensures.place,
      column_short 9 c.args.number 32 (omega arith),
      column_short 9 c.args.characters 10 (omega arith),
    )
