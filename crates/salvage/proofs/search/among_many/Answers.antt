use Prim.Native.Nat.{◌+◌, ◌-◌}
use native.Mathlib.Omega.{arith}
use Rattle.salvage.proofs.Restarts.{part_passed}
use Rattle.salvage.proofs.search.among_many.Goals as goal

pub returns-then-none_start : goal.returns-then-none_start
returns-then-none_start c = (omega arith, part_passed 64 c.args.stream.now c.args.at (c.args.at + 64 + 3 - c.args.at) c.none_start.result (omega (arith, c.requires)) (omega arith) c.none_start.ensures c.if-none_start.true, λ l. absurd (omega (arith, l)))
