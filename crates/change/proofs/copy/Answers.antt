use Rattle.std.proofs.Common.{◌+◌, length}
use Rattle.change.proofs.Written.{mid_put}
use native.Mathlib.Omega.{arith}
use Rattle.change.proofs.copy.Goals as goal

pub returns : goal.returns
returns c = rw c.copy_from_slice.ensures.after (mid_put c.args.s.now c.args.at (c.args.at + length c.args.b.now) c.args.b.now (omega arith) (omega arith))
