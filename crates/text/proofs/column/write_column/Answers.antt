use native.Mathlib.Omega.{arith}
use Rattle.text.proofs.Writes.{column_length, wrote_column}
use Rattle.text.proofs.column.write_column.Goals as goal

pub write_digits-end-requires : goal.write_digits-end-requires
write_digits-end-requires c = omega (arith, c.requires, column_length c.args.n c.args.after)

pub bounds-out-end : goal.bounds-out-end
bounds-out-end c = omega (arith, c.requires, column_length c.args.n c.args.after, c.write_digits-end.ensures.0, c.write_digits-end.auto.out)

pub overflow_add-result : goal.overflow_add-result
overflow_add-result c = omega (arith, c.requires, column_length c.args.n c.args.after, c.write_digits-end.ensures.0)

pub returns : goal.returns
returns c = wrote_column _ _ _ _ _ _ c.requires c.write_digits-end.ensures.0 c.write_digits-end.ensures.1
