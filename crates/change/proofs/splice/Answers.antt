use Rattle.change.proofs.Moves.{splice_moves}
use native.Mathlib.Omega.{arith}
use Rattle.change.proofs.splice.Goals as goal

pub returns : goal.returns
returns c =
    let a = c.args in
    rw (c.clear.ensures, c.shift.ensures, c.saturating_sub.ensures) (splice_moves a.s.now a.at a.old a.used a.new (omega arith) (omega arith) (omega arith))
