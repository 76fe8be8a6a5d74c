use native.Mathlib.Omega.{arith}
use Rattle.stream.proofs.Decimals.{decimal_short}
use Rattle.text.proofs.Writes.{column_short}
use Rattle.listing.proofs.Texts.{wrote_counts}
use Rattle.listing.proofs.summary.write_counts.Goals as goal

pub write_column-word-requires : goal.write_column-word-requires
write_column-word-requires c =
    omega (arith, c.requires, c.write_bytes-first.ensures.0, c.write_bytes-first.auto.out, column_short 19 c.args.done 32 (omega arith))

pub write_bytes-second-requires : goal.write_bytes-second-requires
write_bytes-second-requires c =
    omega (
      arith,
      c.requires,
      c.write_column-word.ensures.place,
      c.write_column-word.auto.out,
      c.write_bytes-first.ensures.0,
      c.write_bytes-first.auto.out,
      column_short 19 c.args.done 32 (omega arith),
    )

pub write_digits-requires : goal.write_digits-requires
write_digits-requires c =
    omega (
      arith,
      c.requires,
      c.write_bytes-second.ensures.0,
      c.write_bytes-second.auto.out,
      c.write_column-word.ensures.place,
      c.write_column-word.auto.out,
      c.write_bytes-first.ensures.0,
      c.write_bytes-first.auto.out,
      column_short 19 c.args.done 32 (omega arith),
      decimal_short 19 c.args.refused (omega arith),
    )

pub returns-clause-wrote : goal.returns-clause-wrote
returns-clause-wrote c =
    wrote_counts _ _ _ _ _ _ _ _ _ _ _ _ c.requires c.write_bytes-first.ensures c.write_column-word.ensures
    (omega (arith, c.write_column-word.ensures.place, column_short 19 c.args.done 32 (omega arith))) (omega arith) c.write_bytes-second.ensures c.write_digits.ensures

pub returns-clause-upper_bound : goal.returns-clause-upper_bound
returns-clause-upper_bound c =
    omega (
      arith,
      c.write_digits.ensures.0,
      c.write_bytes-second.ensures.0,
      c.write_column-word.ensures.place,
      c.write_bytes-first.ensures.0,
      column_short 19 c.args.done 32 (omega arith),
      decimal_short 19 c.args.refused (omega arith),
    )
