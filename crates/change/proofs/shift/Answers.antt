use Rattle.std.proofs.Common.{◌≡◌, ◌+◌, ◌-◌, sym}
use native.Mathlib.Omega.{arith}
use Rattle.change.proofs.Moves.{paste_here}
use Rattle.change.proofs.shift.Goals as goal

pub returns-then-to-from : goal.returns-then-to-from
returns-then-to-from c = rw c.if-to-from.true c.font_up.ensures

pub returns-then-from-to-2 : goal.returns-then-from-to-2
returns-then-from-to-2 c = let e : c.args.from + c.args.n - c.args.from ≡ c.args.n = omega arith in rw (c.copy_within.ensures.after, e)

pub returns-else-from-to-2 : goal.returns-else-from-to-2
returns-else-from-to-2 c = let e : c.args.from ≡ c.args.to = omega arith in rw e (sym (paste_here c.args.s.now c.args.to c.args.n))
