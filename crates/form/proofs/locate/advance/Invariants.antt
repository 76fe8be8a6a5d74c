use Rattle.form.proofs.Locates.{Passing}
use Prim.Native.Nat.{◌-◌}
use Rattle.form.proofs.locate.advance.Given as goal

abbrev pub invariant-loop-at : goal.invariant-loop-at
invariant-loop-at l = Passing l.s l.used l.key l.at

abbrev pub decreases-loop-at : goal.decreases-loop-at
decreases-loop-at l = l.used - l.at
