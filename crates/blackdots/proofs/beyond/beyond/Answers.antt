use native.Mathlib.Omega.{arith}
use Prim.Native.Nat.{◌+◌, ◌-◌, ◌%◌}
use lib.Pow.{pow_pos, pow_mono}
use Rattle.pictures.proofs.Packing.{shifted}
use Rattle.blackdots.proofs.beyond.beyond.Goals as goal

pub overflow_sub-result-2 : goal.overflow_sub-result-2
overflow_sub-result-2 c = rw (shifted ((c.args.width - 1) % 8 + 1) (omega arith)) (pow_pos (8 - ((c.args.width - 1) % 8 + 1)))

pub overflow_cast-result : goal.overflow_cast-result
overflow_cast-result c = rw (shifted ((c.args.width - 1) % 8 + 1) (omega arith)) (record { fits = omega (arith, pow_mono {i = 8 - ((c.args.width - 1) % 8 + 1)} {j = 8} (omega arith)) })

pub returns : goal.returns
returns c = rw (shifted ((c.args.width - 1) % 8 + 1) (omega arith))
