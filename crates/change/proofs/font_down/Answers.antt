use Prim.Native.Nat.{◌+◌}
use native.Mathlib.Omega.{arith}
use Rattle.form.specs.Layout.{font_record}
use Rattle.change.proofs.Downward.{down_turn}
use Rattle.change.proofs.font_down.Goals as goal

pub loop-i-preserved : goal.loop-i-preserved
loop-i-preserved c =
    let a = c.args in
    down_turn a.s.now c.loop-i.s a.to (a.to + font_record) a.n c.loop-i.i c.loop-i.invariant c.loop-i-test.true (omega arith) (omega arith)
