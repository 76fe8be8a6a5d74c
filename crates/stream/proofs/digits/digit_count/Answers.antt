use Rattle.stream.proofs.Decimals.{length_by_power}
use native.Mathlib.Omega.{arith}
use Rattle.stream.proofs.digits.digit_count.Goals as goal

pub returns : goal.returns
returns c = length_by_power c.args.n c.max.result c.ilog10.result (omega arith) c.ilog10.ensures.power_le c.ilog10.ensures.next_power_gt
