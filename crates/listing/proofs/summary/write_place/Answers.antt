use native.Mathlib.Omega.{arith}
use Rattle.text.proofs.Writes.{column_short}
use Rattle.listing.proofs.Texts.{wrote_place}
use Rattle.listing.proofs.summary.write_place.Goals as goal

pub write_column-requires : goal.write_column-requires
write_column-requires c =
    omega (arith, c.requires, c.write_bytes-from.ensures.0, c.write_bytes-from.auto.out, column_short 19 c.args.p 10 (omega arith))

pub returns : goal.returns
returns c = wrote_place _ _ _ _ _ _ _ c.requires c.write_bytes-from.ensures c.write_column.ensures
